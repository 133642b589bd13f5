use Rattle.std.proofs.Common.{rules, ◌≡◌, ◌∙◌, false, true, List, inl, inr, sym, subst}
use Rattle.std.proofs.lemmas.Result.{err_from_is_err_and}
use Rattle.std.specs.Prelude.{codes}
use Rattle.machine_text.specs.Terms.{Packed}
use Rattle.ledger.specs.Terms.{IsOpenOn, AreAll}
use Rattle.cmd_parts.specs.inside.{AreOthers}
use Rattle.cmd_parts.specs.Join.{IsReadAt}
use Rattle.cmd_parts.specs.Settle.{path_within}
use Rattle.cmd_parts.proofs.JoinedParts.{gathered_so, none_met, warns_behind, spared}
use Rattle.cmd_parts.proofs.join.gather.Goals as goal
use Rattle.cmd_parts.proofs.join.gather.Goals.{then-is_kept, else-is_kept}

pub returns-clause-ok : goal.returns-clause-ok
returns-clause-ok g c =
    let trunk = c.in_ok-trunk.trunk in
    let is : c.deref.result.now ≡ path_within c.args.folder.now (codes "trunk") = search rules in
    let same : c.deref-4.result.now ≡ path_within c.args.folder.now (codes "trunk") = search rules in
    let roots : c.deref-5.result.now ≡ c.in_ok-roots.roots.items = search rules in
    let all : c.in_ok-is_kept.is_kept ≡ true → c.if-is_kept.result ≡ c.in_ok-are_sound.are_sound = elim c.if-is_kept.branch [
      | then-is_kept w ↦ λ yes. w.result-is
      | else-is_kept w ↦ λ yes. absurd (let no = w.if-is_kept.false in cc)
    ] in
    let neither : c.in_ok-is_kept.is_kept ≡ false → c.if-is_kept.result ≡ false = elim c.if-is_kept.branch [
      | then-is_kept w ↦ λ no. absurd (let yes = w.if-is_kept.true in cc)
      | else-is_kept w ↦ λ no. w.result-is ∙ no
    ] in
    gathered_so (g.S.PartLedgers.finds c.args.parts.now) c.args.folder.now c.deref.result.now c.deref-4.result.now trunk c.in_ok-whole.whole.trunk c.in_ok-trunk.left c.deref-5.result.now c.add_parts.new.whole
    c.in_ok-is_kept.is_kept c.in_ok-are_sound.are_sound c.if-is_kept.result _ _ _ _ _ _ is same c.in_ok-trunk.ensures
    (subst (λ (l : List Packed). AreAll (IsOpenOn trunk) l) (sym roots) c.in_ok-roots.ensures)
    c.in_ok-is_kept.ensures.ok c.in_ok-begin.ensures.ok c.in_ok-begin.ensures.counts c.in_ok-whole.ensures.trunk c.in_ok-are_sound.ensures.ok all neither

pub returns-clause-spared : goal.returns-clause-spared
returns-clause-spared g c =
    let Tells = g.S.PartLedgers.tells_written c.args.parts.now in
    let Finds = g.S.PartLedgers.finds c.args.parts.now in
    let folder = c.args.folder.now in
    let trunk = c.in_ok-trunk.trunk in
    let reads : IsReadAt Finds (path_within folder (codes "trunk")) trunk c.in_ok-trunk.left = search rules in
    let other : Tells (path_within folder (codes "trunk")) false = search rules in
    let others : AreOthers Tells folder c.in_ok-roots.roots.items = search rules in
    spared Tells Finds folder trunk c.in_ok-trunk.left c.in_ok-roots.roots.items reads c.in_ok-roots.ensures other others

pub returns-in_err-begin-clause-err : goal.returns-in_err-begin-clause-err
returns-in_err-begin-clause-err g c =
    let Finds = g.S.PartLedgers.finds c.args.parts.now in
    let folder = c.args.folder.now in
    let trunk = c.in_ok-trunk.trunk in
    let faults = g.E.Write.contents c.args.faults.now in
    let mid = g.E.Write.contents c.says_left.new.faults in
    let is : c.deref.result.now ≡ path_within folder (codes "trunk") = search rules in
    let same : c.deref-4.result.now ≡ path_within folder (codes "trunk") = search rules in
    let p = err_from_is_err_and c.from_residual-in_err-begin.result c.from_residual-in_err-begin.ensures.1 in
    rw p.1 (inr (warns_behind Finds folder c.deref.result.now c.deref-4.result.now trunk c.in_ok-trunk.left c.in_ok-roots.roots.items faults mid mid is same c.in_ok-trunk.ensures c.in_ok-roots.ensures
    c.in_ok-is_kept.ensures.ok.1 (none_met Finds folder c.in_ok-roots.roots.items mid)))

pub returns-in_err-whole-clause-err : goal.returns-in_err-whole-clause-err
returns-in_err-whole-clause-err g c =
    let Finds = g.S.PartLedgers.finds c.args.parts.now in
    let folder = c.args.folder.now in
    let trunk = c.in_ok-trunk.trunk in
    let faults = g.E.Write.contents c.args.faults.now in
    let mid = g.E.Write.contents c.says_left.new.faults in
    let is : c.deref.result.now ≡ path_within folder (codes "trunk") = search rules in
    let same : c.deref-4.result.now ≡ path_within folder (codes "trunk") = search rules in
    let p = err_from_is_err_and c.from_residual-in_err-whole.result c.from_residual-in_err-whole.ensures.1 in
    rw p.1 (inr (warns_behind Finds folder c.deref.result.now c.deref-4.result.now trunk c.in_ok-trunk.left c.in_ok-roots.roots.items faults mid mid is same c.in_ok-trunk.ensures c.in_ok-roots.ensures
    c.in_ok-is_kept.ensures.ok.1 (none_met Finds folder c.in_ok-roots.roots.items mid)))

pub returns-in_err-are_sound-clause-err : goal.returns-in_err-are_sound-clause-err
returns-in_err-are_sound-clause-err g c =
    let Finds = g.S.PartLedgers.finds c.args.parts.now in
    let folder = c.args.folder.now in
    let trunk = c.in_ok-trunk.trunk in
    let faults = g.E.Write.contents c.args.faults.now in
    let mid = g.E.Write.contents c.says_left.new.faults in
    let new = g.E.Write.contents c.add_parts.new.faults in
    let is : c.deref.result.now ≡ path_within folder (codes "trunk") = search rules in
    let same : c.deref-4.result.now ≡ path_within folder (codes "trunk") = search rules in
    let roots : c.deref-5.result.now ≡ c.in_ok-roots.roots.items = search rules in
    let p = err_from_is_err_and c.from_residual-in_err-are_sound.result c.from_residual-in_err-are_sound.ensures.1 in
    rw p.1 (elim c.in_err-are_sound.ensures.err [
      | inl more ↦ inr (warns_behind Finds folder c.deref.result.now c.deref-4.result.now trunk c.in_ok-trunk.left c.deref-5.result.now faults mid new is same c.in_ok-trunk.ensures
          (subst (λ (l : List Packed). AreAll (IsOpenOn trunk) l) (sym roots) c.in_ok-roots.ensures) c.in_ok-is_kept.ensures.ok.1 more)
      | inr stream ↦ inl (inr (p.2 ∙ stream))
    ])
