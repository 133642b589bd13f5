use Rattle.std.proofs.Common.{List, Option, sym, ◌∙◌, ap, subst}
use Rattle.machine_text.specs.Terms.{Packed}
use Rattle.kind_evidence.specs.declared.verdicts.Ending.{Ending}
use Rattle.cert.specs.Terms.{Recorded, ending_by, recorded}
use Rattle.ledger.specs.Records.{same_table, Contents, IsBoard}
use Rattle.ledger.specs.inside.Trees.{AreChanged, CarriesUp}
use Rattle.ledger.specs.inside.Stored.{records_of}
use Rattle.ledger.specs.inside.Waiting.{WaitsFor, change_of, put_by}
use Rattle.ledger.specs.declared.stored_record.StoredRecord.{StoredRecord}
use Rattle.ledger.specs.declared.tree_count.TreeChange.{TreeChange}
use Rattle.ledger.proofs.OfferedRecords.{IsStored, counts_fit, holdout_there, put_carries, put_of, put_ready, put_records, put_stored, slot_opens_none, takes, waits_in_order, as_lent, lent_is, lent_pair}
use Rattle.ledger.proofs.TreeIndex.{ready_records}
use Rattle.ledger.proofs.BoardLaws.{same_map}
use Rattle.ledger.proofs.board.Board.take.Goals as goal

pub child_count-opened-requires-clause-in_order : goal.child_count-opened-requires-clause-in_order
child_count-opened-requires-clause-in_order c = waits_in_order c.args.self.now (recorded c.args.r.now) c.args.waiting c.child_is_table.ensures.below c.child_is_table.ensures.order (subst IsBoard c.self.view_is c.self.invariant.0) c.requires.waits

pub child_count-opened-requires-clause-pair : goal.child_count-opened-requires-clause-pair
child_count-opened-requires-clause-pair c = rw c.halts_on-pair.ensures (lent_pair c.args.r.now.table c.in_ok-stored.stored c.lent.result c.lent.ensures c.in_ok-stored.ensures.pair)

pub open_children-requires-clause-in_order : goal.open_children-requires-clause-in_order
open_children-requires-clause-in_order c = waits_in_order c.args.self.now (recorded c.args.r.now) c.args.waiting c.child_is_table.ensures.below c.child_is_table.ensures.order (subst IsBoard c.self.view_is c.self.invariant.0) c.requires.waits

pub open_children-requires-clause-pair : goal.open_children-requires-clause-pair
open_children-requires-clause-pair c = rw c.halts_on-pair.ensures (lent_pair c.args.r.now.table c.in_ok-stored.stored c.lent.result c.lent.ensures c.in_ok-stored.ensures.pair)

pub open_children-requires-clause-none : goal.open_children-requires-clause-none
open_children-requires-clause-none c =
    slot_opens_none c.self.inside.root c.self.inside.records.entries c.self.inside.open_tables c.args.r.now.table c.args.waiting c.slot-slot.result c.in_ok-place.place c.self.invariant.1
    c.slot-slot.ensures.is c.in_ok-place.ensures.is c.in_ok-place.ensures.small

pub invariant_of-self-in_err-open_children : goal.invariant_of-self-in_err-open_children
invariant_of-self-in_err-open_children c =
    let now = subst (λ (l : List (Packed × StoredRecord)). IsStored c.self.inside.root l c.self.inside.open_tables c.self.inside.counts) (sym c.in_ok-reserve.ensures.entries) c.self.invariant in
    (now.0, same_map c.self.inside.open_tables c.open_children.new.tables _ _ c.in_err-open_children.ensures.err now.1, now.2, now.3, now.4)

pub change_chain-requires : goal.change_chain-requires
unfolding same_table
change_chain-requires c =
    let root = c.self.inside.root in
    let es = c.reserve.new.self.entries in
    let new = c.insert.new.self.entries in
    let stored = c.in_ok-stored.stored in
    let place = c.in_ok-place.place in
    let r = as_lent c.args.r.now.table c.lent.result in
    let kept = subst (λ (l : List (Packed × StoredRecord)). IsStored root l c.self.inside.open_tables c.self.inside.counts) (sym c.in_ok-reserve.ensures.entries) c.self.invariant in
    let put = put_of root c.self.inside.records.entries es new c.self.inside.format c.args.self.now (recorded c.args.r.now) stored c.lent.result c.args.waiting c.slot-slot.result place
    c.self.view_is c.in_ok-reserve.ensures.entries c.requires.waits c.in_ok-stored.ensures.certified c.in_ok-stored.ensures.claim c.lent.ensures
    c.slot-slot.ensures.is c.in_ok-stored.ensures.parent c.in_ok-stored.ensures.tree c.in_ok-place.ensures.is c.in_ok-place.ensures.small c.in-Ok.ensures.entries in
    let change = c.of-change.ensures ∙ (ap (λ (o : Option Ending). change_of c.args.waiting c.child_count-opened.result o c.ones-score.result) c.ending-shown.ensures
    ∙ ap (change_of c.args.waiting c.child_count-opened.result (ending_by r.claim)) c.ones-score.ensures) in
    subst (CarriesUp new place) (sym change)
    (put_carries root es new r stored c.args.waiting place c.child_count-opened.result c.child_count-opened.ensures.number c.self.inside.open_tables c.self.inside.counts kept put
    c.len.result c.len.ensures.len c.len.ensures.ordered c.in_ok-opening_room.ensures)

pub without-requires : goal.without-requires
without-requires c =
    holdout_there c.self.inside.records.entries c.self.inside.counts (recorded c.args.r.now) c.args.waiting c.self.inside.root c.self.invariant.3
    (subst (λ (b : Contents). WaitsFor b.root b.records (recorded c.args.r.now) c.args.waiting) (sym c.self.view_is) c.requires.waits)

pub with-self-inside-requires : goal.with-self-inside-requires
with-self-inside-requires c = rw c.without.ensures (counts_fit c.self.inside.records.entries c.self.inside.counts c.args.waiting c.self.invariant.3 c.slot-slot.ensures.few)

pub invariant_of-self-2 : goal.invariant_of-self-2
unfolding same_table
invariant_of-self-2 c =
    let root = c.self.inside.root in
    let es = c.reserve.new.self.entries in
    let new = c.insert.new.self.entries in
    let stored = c.in_ok-stored.stored in
    let place = c.in_ok-place.place in
    let r = as_lent c.args.r.now.table c.lent.result in
    let kept = subst (λ (l : List (Packed × StoredRecord)). IsStored root l c.self.inside.open_tables c.self.inside.counts) (sym c.in_ok-reserve.ensures.entries) c.self.invariant in
    let put = put_of root c.self.inside.records.entries es new c.self.inside.format c.args.self.now (recorded c.args.r.now) stored c.lent.result c.args.waiting c.slot-slot.result place
    c.self.view_is c.in_ok-reserve.ensures.entries c.requires.waits c.in_ok-stored.ensures.certified c.in_ok-stored.ensures.claim c.lent.ensures
    c.slot-slot.ensures.is c.in_ok-stored.ensures.parent c.in_ok-stored.ensures.tree c.in_ok-place.ensures.is c.in_ok-place.ensures.small c.in-Ok.ensures.entries in
    let change = c.of-change.ensures ∙ (ap (λ (o : Option Ending). change_of c.args.waiting c.child_count-opened.result o c.ones-score.result) c.ending-shown.ensures
    ∙ ap (change_of c.args.waiting c.child_count-opened.result (ending_by r.claim)) c.ones-score.ensures) in
    rw (c.with-self-inside.ensures, c.without.ensures, c.ending-shown.ensures, c.ones-score.ensures)
    (put_stored root es new r stored c.args.waiting place c.child_count-opened.result c.child_count-opened.ensures.number c.self.inside.open_tables c.self.inside.counts kept put
    c.open_children.new.tables c.close.new.tables (lent_pair c.args.r.now.table stored c.lent.result c.lent.ensures c.in_ok-stored.ensures.pair)
    c.in_ok-open_children.ensures.ok c.in_ok-open_children.ensures.others c.in_ok-open_children.ensures.children (λ none. c.in_ok-open_children.ensures.none (c.halts_on-pair.ensures ∙ none)) c.change_chain.new.records.entries c.close.ensures
    (subst (λ (h : TreeChange). AreChanged h new place c.change_chain.new.records.entries) change c.change_chain.ensures.changed) c.change_chain.ensures.length)

pub returns-clause-ok : goal.returns-clause-ok
unfolding same_table
returns-clause-ok c =
    let root = c.self.inside.root in
    let es = c.reserve.new.self.entries in
    let new = c.insert.new.self.entries in
    let stored = c.in_ok-stored.stored in
    let place = c.in_ok-place.place in
    let r = as_lent c.args.r.now.table c.lent.result in
    let kept = subst (λ (l : List (Packed × StoredRecord)). IsStored root l c.self.inside.open_tables c.self.inside.counts) (sym c.in_ok-reserve.ensures.entries) c.self.invariant in
    let put = put_of root c.self.inside.records.entries es new c.self.inside.format c.args.self.now (recorded c.args.r.now) stored c.lent.result c.args.waiting c.slot-slot.result place
    c.self.view_is c.in_ok-reserve.ensures.entries c.requires.waits c.in_ok-stored.ensures.certified c.in_ok-stored.ensures.claim c.lent.ensures
    c.slot-slot.ensures.is c.in_ok-stored.ensures.parent c.in_ok-stored.ensures.tree c.in_ok-place.ensures.is c.in_ok-place.ensures.small c.in-Ok.ensures.entries in
    let ready = put_ready root es new r stored c.args.waiting place kept.0 kept.4 put in
    let before = ap records_of c.in_ok-reserve.ensures.entries ∙ ap (λ (b : Contents). b.records) c.self.view_is in (
      takes c.args.self.now.root c.args.self.now.records (recorded c.args.r.now) c.args.waiting _ c.taken.ensures c.requires.waits c.in_ok-stored.ensures.certified,
      ready_records root (records_of es) new r place ready c.of-change.result c.change_chain.new.records.entries c.change_chain.ensures.changed c.change_chain.ensures.length
          ∙ (put_records root es new r stored c.args.waiting place put
          ∙ (ap (λ (l : List Recorded). put_by c.args.waiting l r) before
          ∙ ap (put_by c.args.waiting c.args.self.now.records) (lent_is (recorded c.args.r.now) stored c.lent.result c.lent.ensures c.in_ok-stored.ensures.claim))),
    )
