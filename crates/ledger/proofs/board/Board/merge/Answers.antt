use Rattle.std.proofs.Common.{Ok, Err, refl, sym, ◌∙◌, subst}
use Rattle.ledger.specs.Records.{same_table}
use Rattle.machine_text.specs.Terms.{Packed}
use Rattle.cert.specs.Terms.{recorded}
use Rattle.ledger.specs.Offers.{OfferGives}
use Rattle.ledger.proofs.Completeness.{true_marks}
use Rattle.ledger.proofs.Claims.{is_other_root, is_the_root}
use Rattle.ledger.proofs.Merged.{none_so_far, next_certified, one_more, never_refused_here, merged_some, merged_all, so_far_is_final, unchanged_for_memory}
use Rattle.ledger.proofs.board.Board.merge.Goals as goal

pub returns-then-ne-clause-gives : goal.returns-then-ne-clause-gives
unfolding same_table
returns-then-ne-clause-gives c =
    let other = is_other_root c.root.result.now c.root-2.result.now c.ne.result c.ne.ensures c.if-ne.true in
    (λ same. other (c.root.ensures.root ∙ same ∙ sym c.root-2.ensures.root), refl)

pub loop-r-init : goal.loop-r-init
loop-r-init c = record {
  so_far = rw (c.into_iter-r-iterator.ensures.into_iter_gives, c.records-r-items.ensures) (none_so_far c.args.self.now.root c.args.self.now.records c.args.other.now.records);
  root = refl;
  format = refl;
}

pub loop-r-preserved : goal.loop-r-preserved
loop-r-preserved c = record {
  so_far = one_more c.args.self.now.root c.args.other.now c.args.self.now.records c.loop-r.r-iterator c.next.new.self c.loop-r.self.records c.offer_certified.new.self.records (recorded c.in-Some.r) c.in_default.field-0
      c.root-2.ensures.board c.loop-r.invariant.so_far c.in-Some.ensures.steps
      (subst (λ (p : Packed). OfferGives p c.loop-r.self.records (recorded c.in-Some.r) (Ok c.in_default.field-0) c.offer_certified.new.self.records) c.loop-r.invariant.root c.in_default.ensures.gives);
  root = c.in_default.ensures.kept.root ∙ c.loop-r.invariant.root;
  format = c.in_default.ensures.kept.format ∙ c.loop-r.invariant.format;
}

pub unreachable-requires : goal.unreachable-requires
unfolding same_table
unreachable-requires c =
    let mine = true_marks c.args.self.now c.child_is_table.ensures.below c.child_is_table.ensures.tree c.standing_claims_are_true.ensures c.root.ensures.board in
    let same = sym c.root.ensures.root ∙ is_the_root c.root.result.now c.root-2.result.now c.ne.result c.ne.ensures c.if-ne.false ∙ c.root-2.ensures.root in
    never_refused_here c.args.self.now.root c.args.other.now c.args.self.now.records c.loop-r.r-iterator c.next.new.self c.loop-r.self.records c.offer_certified.new.self.records (recorded c.in-Some.r) c.in-Err.fault
    c.child_is_table.ensures.below c.child_is_table.ensures.tree mine c.root-2.ensures.board same c.loop-r.invariant.so_far c.in-Some.ensures.steps c.in_default-fault.not-NoMemory
    (subst (λ (p : Packed). OfferGives p c.loop-r.self.records (recorded c.in-Some.r) (Err c.in-Err.fault) c.offer_certified.new.self.records) c.loop-r.invariant.root c.in-Err.ensures.gives)
    c.in-Err.ensures.stands

pub returns-in-NoMemory-clause-gives : goal.returns-in-NoMemory-clause-gives
unfolding same_table
returns-in-NoMemory-clause-gives c =
    let mine = true_marks c.args.self.now c.child_is_table.ensures.below c.child_is_table.ensures.tree c.standing_claims_are_true.ensures c.root.ensures.board in
    let its = true_marks c.args.other.now c.child_is_table.ensures.below c.child_is_table.ensures.tree c.standing_claims_are_true.ensures c.root-2.ensures.board in
    let same = sym c.root.ensures.root ∙ is_the_root c.root.result.now c.root-2.result.now c.ne.result c.ne.ensures c.if-ne.false ∙ c.root-2.ensures.root in
    let unchanged = unchanged_for_memory c.loop-r.self.root c.loop-r.self.records c.offer_certified.new.self.records (recorded c.in-Some.r) c.in-Err.fault c.in-NoMemory.is c.in-Err.ensures.gives in
    let some = merged_some c.args.self.now.root c.args.self.now.records c.args.other.now.records c.loop-r.r-iterator c.loop-r.self.records c.offer_certified.new.self.records c.one_true_verdict.ensures mine its c.loop-r.invariant.so_far unchanged in
    (same, some.0, some.1, some.2, some.3, some.4)

pub returns-in-NoMemory-clause-kept : goal.returns-in-NoMemory-clause-kept
returns-in-NoMemory-clause-kept c = record {
  root = c.in-Err.ensures.kept.root ∙ c.loop-r.invariant.root;
  format = c.in-Err.ensures.kept.format ∙ c.loop-r.invariant.format;
  complete = λ complete.
      unchanged_for_memory c.loop-r.self.root c.loop-r.self.records c.offer_certified.new.self.records (recorded c.in-Some.r) c.in-Err.fault c.in-NoMemory.is c.in-Err.ensures.gives
      ∙ so_far_is_final c.args.self.now.root c.args.self.now.records c.args.other.now.records c.loop-r.r-iterator c.loop-r.self.records c.loop-r.invariant.so_far complete;
}

pub returns-clause-gives : goal.returns-clause-gives
unfolding same_table
returns-clause-gives c =
    let mine = true_marks c.args.self.now c.child_is_table.ensures.below c.child_is_table.ensures.tree c.standing_claims_are_true.ensures c.root.ensures.board in
    let its = true_marks c.args.other.now c.child_is_table.ensures.below c.child_is_table.ensures.tree c.standing_claims_are_true.ensures c.root-2.ensures.board in
    let same = sym c.root.ensures.root ∙ is_the_root c.root.result.now c.root-2.result.now c.ne.result c.ne.ensures c.if-ne.false ∙ c.root-2.ensures.root in
    let all = merged_all c.args.self.now.root c.args.self.now.records c.args.other.now.records c.loop-r.r-iterator c.loop-r.self.records c.one_true_verdict.ensures mine its c.loop-r.invariant.so_far c.in-None.ensures.steps.0 in
    (same, all.0, all.1)

pub returns-clause-kept : goal.returns-clause-kept
returns-clause-kept c = record {
  root = c.loop-r.invariant.root;
  format = c.loop-r.invariant.format;
  complete = so_far_is_final c.args.self.now.root c.args.self.now.records c.args.other.now.records c.loop-r.r-iterator c.loop-r.self.records c.loop-r.invariant.so_far;
}

pub offer_certified-requires : goal.offer_certified-requires
offer_certified-requires c =
    next_certified c.args.self.now.root c.args.other.now c.args.self.now.records c.loop-r.r-iterator c.next.new.self c.loop-r.self.records (recorded c.in-Some.r)
    c.root-2.ensures.board c.loop-r.invariant.so_far c.in-Some.ensures.steps
