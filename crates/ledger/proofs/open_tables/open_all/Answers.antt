use Rattle.std.proofs.Common.{List, ◌∙◌, refl, sym, subst, rules}
use Rattle.std.specs.List.{Contains}
use Rattle.machine_text.specs.Terms.{Packed}
use Rattle.ledger.specs.inside.Stored.{records_of}
use Rattle.ledger.proofs.HeldLaws.{first_member, later_member}
use Rattle.ledger.proofs.OpenLaws.{children_more, none_at}
use Rattle.ledger.proofs.Sets.{brings}
use Rattle.ledger.proofs.open_tables.open_all.Goals as goal

pub loop-child-init : goal.loop-child-init
loop-child-init c = rw c.into_iter-child-iterator.ensures.into_iter_gives (record {
  opens = λ q. (λ h. h, λ h. h);
  back = c.requires.none;
  children = none_at c.args.place c.args.parent.now c.args.tables.now.entries c.requires.none;
  left = c.requires.children;
})

pub loop-child-preserved : goal.loop-child-preserved
loop-child-preserved c =
    let list = sym c.in-Some.ensures.steps in
    record {
      opens = λ q. brings (records_of c.args.records.now.entries) c.args.parent.now c.in-Some.child q c.loop-child.child-iterator c.next.new.self _ _ _ c.in-Some.ensures.steps (c.loop-child.invariant.opens q) (c.in_default.ensures.ok q);
      back = c.open_child.ensures.others ∙ c.loop-child.invariant.back;
      children = children_more c.args.place c.args.parent.now c.in-Some.child c.loop-child.tables.entries c.open_child.new.tables.entries
          (c.loop-child.invariant.left c.in-Some.child (subst (λ (l : List Packed). Contains l c.in-Some.child) list (first_member c.in-Some.child c.in-Some.child c.next.new.self refl)))
          c.loop-child.invariant.children c.in_default.ensures.entries;
      left = λ t at. c.loop-child.invariant.left t (subst (λ (l : List Packed). Contains l t) list (later_member c.in-Some.child c.next.new.self t at));
    }

-- answered by name, so that nothing is offered where an edit makes it false
pub returns-in-Err-clause-err : goal.returns-in-Err-clause-err
returns-in-Err-clause-err c = search rules steps 100000
