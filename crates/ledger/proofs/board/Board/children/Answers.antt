use Rattle.std.proofs.Common.{rules, subst}
use Rattle.law_tree.specs.Terms.{Halting}
use Rattle.ledger.specs.Records.{Contents, IsBoard}
use Rattle.ledger.specs.Tally.{HaltsAfter}
use Rattle.ledger.proofs.BoardLaws.{marked_in_order}
use Rattle.ledger.proofs.board.Board.children.Goals as goal

pub children_on-requires-clause-in_order : goal.children_on-requires-clause-in_order
children_on-requires-clause-in_order c =
    let known = c.in-Some.ensures.some in
    let here = subst (λ (b : Contents). HaltsAfter b.records known.0 c.args.t.now) c.self.view_is known.1 in
    marked_in_order c.args.self.now c.args.t.now (Halting known.0) c.child_is_table.ensures.below c.child_is_table.ensures.order (subst IsBoard c.self.view_is c.self.invariant.0) here

pub returns-in-Some-clause-halting : goal.returns-in-Some-clause-halting
returns-in-Some-clause-halting c = search rules steps 1000000
