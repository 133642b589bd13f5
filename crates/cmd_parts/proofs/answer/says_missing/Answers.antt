use Rattle.std.proofs.Common.{◌≡◌, ◌+◌, ◌++◌, ◌∷◌, [], ◌∙◌, false, true, List, ap, sym, subst, take}
use Rattle.std.proofs.lemmas.List.{take_more}
use Rattle.machine_text.specs.Terms.{Packed}
use Rattle.cmd_parts.specs.inside.Joining.{SaysMissed}
use Rattle.cmd_parts.proofs.ToldLedgers.{one_missed, missed_still}
use Rattle.cmd_lines.proofs.AnsweredPieces.{IfErr-passed}
use Rattle.cmd_parts.proofs.answer.says_missing.Goals as goal
use Rattle.cmd_parts.proofs.answer.says_missing.Goals.{then-not-branch, else-not-branch}

pub loop-root-preserved : goal.loop-root-preserved
loop-root-preserved g c =
    let roots = c.args.roots.now in
    let i = c.loop-root.root-index in
    let root = c.root-item.result in
    let came = c.args.came.now.keys in
    let more : take (i + 1) roots ≡ take i roots ++ (root ∷ []) = take_more roots i root c.loop-root-test.true ∙ ap (λ (t : Packed). take i roots ++ (t ∷ [])) (sym c.root-item.is) in
    let both : c.in_ok-looked_for.field-0 ≡ true → c.if-not-branch.are_all ≡ c.loop-root.are_all = elim c.if-not-branch.branch [
      | then-not-branch w ↦ λ yes. absurd (let other = w.if-not-branch.true in cc)
      | else-not-branch w ↦ λ yes. w.are_all-is
    ] in
    let neither : c.in_ok-looked_for.field-0 ≡ false → c.if-not-branch.are_all ≡ false = elim c.if-not-branch.branch [
      | then-not-branch w ↦ λ other. w.are_all-is
      | else-not-branch w ↦ λ other. absurd (let yes = w.if-not-branch.false in cc)
    ] in
    subst (λ (l : List Packed). SaysMissed came l c.if-not-branch.are_all (g.E.Write.contents c.args.faults.now) (g.E.Write.contents c.looked_for.new.faults)) (sym more)
    (one_missed came (take i roots) root c.loop-root.are_all c.in_ok-looked_for.field-0 c.if-not-branch.are_all (g.E.Write.contents c.args.faults.now) (g.E.Write.contents c.loop-root.faults) (g.E.Write.contents c.looked_for.new.faults)
    c.loop-root.invariant c.in_ok-looked_for.ensures.ok both neither)

pub returns-in_err-looked_for-clause-first : goal.returns-in_err-looked_for-clause-first
returns-in_err-looked_for-clause-first g c =
    IfErr-passed c.from_residual.result _ _ c.from_residual.ensures.1
    (missed_still c.args.came.now.keys c.args.roots.now c.loop-root.root-index c.loop-root.are_all (g.E.Write.contents c.args.faults.now) (g.E.Write.contents c.loop-root.faults) (g.E.Write.contents c.looked_for.new.faults) _ c.loop-root.invariant
    c.in_err-looked_for.ensures.err)
