use Rattle.std.proofs.Common.{◌≡◌, ◌⊎◌, ◌+◌, ◌++◌, ◌∷◌, [], ◌∙◌, false, true, List, ap, sym, subst, take}
use Rattle.std.proofs.lemmas.List.{take-append-drop, take_more}
use Rattle.std.proofs.lemmas.Result.{err_from_is_err_and}
use Rattle.std.proofs.lemmas.List.Elements.{All-contains_itself}
use Rattle.std.specs.Prelude.{Contains}
use Rattle.machine_text.specs.Terms.{Packed}
use Rattle.ledger.specs.Terms.{Contents, IsOpenOn}
use Rattle.ledger.proofs.Sets.{all_apart}
use Rattle.cmd_options.specs.declared.ended.Ended.{Ended}
use Rattle.cmd_options.specs.declared.ended.Ended.TheVariants.{Stream}
use Rattle.cmd_parts.specs.inside.{AreAdded, SaysMet}
use Rattle.cmd_parts.proofs.JoinedParts.{met_before, added_more, none_added, not_added}
use Rattle.cmd_parts.proofs.join.add_parts.Goals as goal
use Rattle.cmd_parts.proofs.join.add_parts.Goals.{then-not-branch, else-not-branch}

pub loop-root-init : goal.loop-root-init
loop-root-init g c = none_added (g.S.PartLedgers.finds c.args.parts.now) c.args.folder.now c.args.whole.now _ _ c.requires.none

pub join_part-requires : goal.join_part-requires
join_part-requires g c =
    let roots = c.args.roots.now in
    let i = c.loop-root.root-index in
    let root = c.root-item.result in
    let there : Contains roots root = subst (λ (t : Packed). Contains roots t) (sym c.root-item.is) (All-contains_itself roots i root c.loop-root-test.true) in (
      subst (λ (b : Contents). IsOpenOn b root) (sym c.loop-root.invariant.trunk_is) ((c.requires.all.exact root).0 there),
      not_added (g.S.PartLedgers.finds c.args.parts.now) c.args.folder.now roots i root c.args.whole.now.trunk c.loop-root.whole c.loop-root.are_sound _ _ _ _
          (all_apart (IsOpenOn c.args.whole.now.trunk) roots c.requires.all) c.loop-root-test.true c.root-item.is c.loop-root.invariant,
    )

pub loop-root-preserved : goal.loop-root-preserved
loop-root-preserved g c =
    let Finds = g.S.PartLedgers.finds c.args.parts.now in
    let roots = c.args.roots.now in
    let i = c.loop-root.root-index in
    let root = c.root-item.result in
    let more : take (i + 1) roots ≡ take i roots ++ (root ∷ []) = take_more roots i root c.loop-root-test.true ∙ ap (λ (t : Packed). take i roots ++ (t ∷ [])) (sym c.root-item.is) in
    let both : c.in_ok-join_part.field-0 ≡ true → c.if-not-branch.are_sound ≡ c.loop-root.are_sound = elim c.if-not-branch.branch [
      | then-not-branch w ↦ λ yes. absurd (let no = w.if-not-branch.true in cc)
      | else-not-branch w ↦ λ yes. w.are_sound-is
    ] in
    let neither : c.in_ok-join_part.field-0 ≡ false → c.if-not-branch.are_sound ≡ false = elim c.if-not-branch.branch [
      | then-not-branch w ↦ λ no. w.are_sound-is
      | else-not-branch w ↦ λ no. absurd (let yes = w.if-not-branch.false in cc)
    ] in
    subst (λ (l : List Packed). AreAdded Finds c.args.folder.now l c.args.whole.now.trunk c.join_part.new.whole c.if-not-branch.are_sound (g.C.Collector.text c.args.collector.now) (g.C.Collector.text c.join_part.new.collector)
    (g.E.Write.contents c.args.faults.now) (g.E.Write.contents c.join_part.new.faults)
    (g.C.Collector.counts c.args.collector.now) (g.C.Collector.counts c.join_part.new.collector)) (sym more)
    (added_more Finds c.args.folder.now (take i roots) root c.args.whole.now.trunk c.loop-root.whole c.join_part.new.whole c.loop-root.are_sound c.in_ok-join_part.field-0 c.if-not-branch.are_sound _ _ _ _ _ _
    c.loop-root.invariant c.in_ok-join_part.ensures.ok both neither)

pub returns-in_err-join_part-clause-err : goal.returns-in_err-join_part-clause-err
returns-in_err-join_part-clause-err g c =
    let Finds = g.S.PartLedgers.finds c.args.parts.now in
    let folder = c.args.folder.now in
    let roots = c.args.roots.now in
    let i = c.loop-root.root-index in
    let p = err_from_is_err_and c.from_residual.result c.from_residual.ensures.1 in
    rw p.1 (subst (λ (e : Ended). SaysMet Finds folder roots (g.E.Write.contents c.args.faults.now) (g.E.Write.contents c.join_part.new.faults) ⊎ (e ≡ Stream)) (sym p.2)
    (met_before Finds folder _ roots i c.loop-root.are_sound c.args.whole.now.trunk c.loop-root.whole _ _ _ _ _ (sym (take-append-drop i roots)) c.loop-root.invariant c.in_err-join_part.ensures.err))
