use Rattle.std.proofs.Common.{◌≡◌, Err, ap, ◌∙◌, refl, subst, inl, inr}
use Rattle.std.specs.Prelude.{codes}
use Rattle.indexmap.specs.IndexSet.{insert_key}
use Rattle.machine_text.specs.Terms.{Packed, text_of}
use Rattle.ledger.specs.Terms.{same_table}
use Rattle.totals.specs.Terms.{AddGives}
use Rattle.totals.specs.declared.whole.PartFault.{PartFault}
use Rattle.totals.specs.declared.whole.PartFault.TheVariants.{AddedBefore, NotOpen}
use Rattle.cmd_parts.specs.inside.Joining.{AddsBoard}
use Rattle.cmd_parts.proofs.ToldLedgers.{counted_so, said_so}
use Rattle.cmd_parts.proofs.join_stream.add_board.Goals as goal

pub returns-in-Ok-clause-ok : goal.returns-in-Ok-clause-ok
returns-in-Ok-clause-ok g c =
    let part = c.args.part.now in
    let came = c.args.came.now.keys in
    let is : c.deref.result.now ≡ text_of part.root = c.deref.ensures.value ∙ (c.in_ok-name.ensures ∙ ap text_of c.root.ensures.root) in
    let put : c.put_root.new.came.keys ≡ insert_key same_table came part.root = c.in_ok-put_root-in-Ok.ensures ∙ ap (λ (p : Packed). insert_key same_table came p) c.root-in-Ok.ensures.root in
    counted_so part c.args.left.now c.args.whole.now c.add.new.self came c.put_root.new.came.keys c.says_left.result (g.E.Write.contents c.args.faults.now) (g.E.Write.contents c.says_left.new.faults)
    c.deref.result.now is c.in-Ok.ensures put c.says_left.ensures.ok

pub returns-in-Err-NotOpen-clause-ok : goal.returns-in-Err-NotOpen-clause-ok
returns-in-Err-NotOpen-clause-ok g c =
    let part = c.args.part.now in
    let came = c.args.came.now.keys in
    let is : c.deref-in-Err-NotOpen.result.now ≡ text_of part.root = c.deref-in-Err-NotOpen.ensures.value ∙ (c.in_ok-name.ensures ∙ ap text_of c.root.ensures.root) in
    let gives : AddGives c.args.whole.now part (Err NotOpen) c.add.new.self =
    subst (λ (f : PartFault). AddGives c.args.whole.now part (Err f) c.add.new.self) c.in-Err-NotOpen.field-0-is c.in-Err-NotOpen.ensures in
    said_so (AddsBoard part c.args.left.now c.args.whole.now came c.add.new.self came) c.says.result (g.E.Write.contents c.args.faults.now) (g.E.Write.contents c.says.new.faults)
    c.deref-in-Err-NotOpen.result.now (text_of part.root) (codes "not under the trunk") is (gives.1, refl, inl ((gives.0, refl), refl)) c.says.ensures.ok

pub returns-in-Err-AddedBefore-clause-ok : goal.returns-in-Err-AddedBefore-clause-ok
returns-in-Err-AddedBefore-clause-ok g c =
    let part = c.args.part.now in
    let came = c.args.came.now.keys in
    let is : c.deref-in-Err-AddedBefore.result.now ≡ text_of part.root = c.deref-in-Err-AddedBefore.ensures.value ∙ (c.in_ok-name.ensures ∙ ap text_of c.root.ensures.root) in
    let gives : AddGives c.args.whole.now part (Err AddedBefore) c.add.new.self =
    subst (λ (f : PartFault). AddGives c.args.whole.now part (Err f) c.add.new.self) c.in-Err-AddedBefore.field-0-is c.in-Err-AddedBefore.ensures in
    said_so (AddsBoard part c.args.left.now c.args.whole.now came c.add.new.self came) c.says-in-Err-AddedBefore.result (g.E.Write.contents c.args.faults.now) (g.E.Write.contents c.says-in-Err-AddedBefore.new.faults)
    c.deref-in-Err-AddedBefore.result.now (text_of part.root) (codes "added before") is
    (gives.2, refl, inr ((gives.0, gives.1, refl), refl)) c.says-in-Err-AddedBefore.ensures.ok
