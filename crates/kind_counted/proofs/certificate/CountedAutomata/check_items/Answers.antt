use Rattle.std.proofs.Common.{◌≡◌, ◌<◌, List, length, get_or, subst}
use Rattle.machine_text.specs.Terms.{entry_of}
use Rattle.law_turing.specs.Terms.{Machine}
use Rattle.law_machines.specs.Terms.{CountedSystem}
use Rattle.kind_counted.specs.Certificate.{counted_of}
use Rattle.kind_counted.specs.declared.item.Item.{Item}
use Rattle.kind_counted.proofs.JudgingLaws.{go_on_more}
use Rattle.kind_counted.proofs.certificate.CountedAutomata.check_items.Goals as goal

pub loop-item-preserved : goal.loop-item-preserved
loop-item-preserved c =
    let m : Machine = entry_of c.args.t.now in
    let w : CountedSystem = counted_of c.args.self.now in
    let items = c.args.self.now.items.items in
    let i = c.loop-item.item-index in
    let item = c.item-item.result in
    let value = c.deref-item-items.ensures.value in
    let below : i < length items = subst (λ (l : List Item). i < length l) value c.loop-item-test.true in
    let is : item ≡ get_or items i item = subst (λ (l : List Item). item ≡ get_or l i item) value c.item-item.is in
    record {
      all = go_on_more m w items i item below is c.loop-item.invariant.all c.in_ok-check_item.ensures.goes_on;
    }
