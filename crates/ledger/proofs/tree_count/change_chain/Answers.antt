use Rattle.std.proofs.Common.{◌≡◌, ℕ, ◌+◌, ◌<◌, ◌^◌, ◌%◌, length, ap, refl, subst, sym, ◌∙◌}
use Rattle.ledger.specs.inside.Trees.{Here, OnChain}
use Rattle.ledger.specs.declared.stored_record.StoredRecord.{StoredRecord}
use Rattle.ledger.proofs.Ancestors.{none_walked, reached, reached_room, reached_lower, reached_there, reached_walked, falls, all_walked, as_long, last_place}
use Rattle.ledger.proofs.tree_count.change_chain.Goals as goal

pub loop-place-init : goal.loop-place-init
loop-place-init c = record {
  walked = none_walked c.args.change c.args.records.now.entries c.args.from;
  there = λ small. (Here small, c.requires.there small);
  as_many = refl;
}

pub change_tree-requires : goal.change_tree-requires
change_tree-requires c =
    let es = c.args.records.now.entries in
    let at = reached c.args.change es c.loop-place.records.entries c.args.from c.loop-place.place c.in-Some.stored.now c.loop-place.invariant.walked c.loop-place.invariant.there
    c.loop-place.auto.place-fits c.loop-place-test.true c.in-Some.ensures.value in
    reached_room c.args.change es c.loop-place.records.entries c.args.from c.loop-place.place c.in-Some.stored.now at c.requires.room

pub loop-place-smaller : goal.loop-place-smaller
loop-place-smaller c =
    let es = c.args.records.now.entries in
    let at = reached c.args.change es c.loop-place.records.entries c.args.from c.loop-place.place c.in-Some.stored.now c.loop-place.invariant.walked c.loop-place.invariant.there
    c.loop-place.auto.place-fits c.loop-place-test.true c.in-Some.ensures.value in
    let parent : c.parent-place.result ≡ c.in-Some.stored.now.parent = c.parent-place.ensures ∙ ap (λ (x : StoredRecord). x.parent) c.change_tree.ensures in
    subst (λ (p : ℕ). (p + 1) % 4294967296 < (c.loop-place.place + 1) % 4294967296) (sym parent)
    (falls c.in-Some.stored.now.parent c.loop-place.place at.small
    (reached_lower c.args.change es c.loop-place.records.entries c.args.from c.loop-place.place c.in-Some.stored.now at c.requires.earlier))

pub loop-place-preserved : goal.loop-place-preserved
loop-place-preserved c =
    let es = c.args.records.now.entries in
    let at = reached c.args.change es c.loop-place.records.entries c.args.from c.loop-place.place c.in-Some.stored.now c.loop-place.invariant.walked c.loop-place.invariant.there
    c.loop-place.auto.place-fits c.loop-place-test.true c.in-Some.ensures.value in
    let parent : c.parent-place.result ≡ c.in-Some.stored.now.parent = c.parent-place.ensures ∙ ap (λ (x : StoredRecord). x.parent) c.change_tree.ensures in record {
      walked = reached_walked c.args.change es c.loop-place.records.entries c.args.from c.loop-place.place c.parent-place.result c.in-Some.stored.now c.change_tree.new.self at c.requires.earlier c.loop-place.invariant.walked
          c.change_tree.ensures parent;
      there = subst (λ (p : ℕ). p + 1 < 2 ^ 32 → OnChain es c.args.from p × (p < length es)) (sym parent)
          (reached_there c.args.change es c.loop-place.records.entries c.args.from c.loop-place.place c.in-Some.stored.now at c.requires.earlier);
      as_many = as_long c.loop-place.records.entries c.loop-place.place _ ∙ c.loop-place.invariant.as_many;
    }

pub returns-clause-changed : goal.returns-clause-changed
returns-clause-changed c = all_walked c.args.change c.args.records.now.entries c.loop-place.records.entries c.args.from c.loop-place.place c.loop-place.invariant.walked (last_place c.loop-place.place c.loop-place-test.false)
