use Rattle.std.proofs.Common.{subst}
use Rattle.ledger.specs.Offers.{IsBound}
use Rattle.ledger.proofs.Completeness.{true_marks, closed_bound, closed_bound_ones}
use Rattle.ledger.proofs.board.Board.bound.Goals as goal

pub returns-clause-best : goal.returns-clause-best
returns-clause-best c = λ best ones is.
    closed_bound c.args.self.now c.args.t.now best ones c.child_is_table.ensures.below c.child_is_table.ensures.order c.best_of_closed.ensures.steps c.root.ensures.board c.states.ensures.table
    (true_marks c.args.self.now c.child_is_table.ensures.below c.child_is_table.ensures.tree c.standing_claims_are_true.ensures c.root.ensures.board)
    (subst (IsBound c.args.self.now.root c.args.self.now.records c.args.t.now) is c.bound_by_count.ensures)

pub returns-clause-ones : goal.returns-clause-ones
returns-clause-ones c = λ best ones is.
    closed_bound_ones c.args.self.now c.args.t.now best ones c.child_is_table.ensures.below c.child_is_table.ensures.order c.best_of_closed.ensures.score c.root.ensures.board c.states.ensures.table
    (true_marks c.args.self.now c.child_is_table.ensures.below c.child_is_table.ensures.tree c.standing_claims_are_true.ensures c.root.ensures.board)
    (subst (IsBound c.args.self.now.root c.args.self.now.records c.args.t.now) is c.bound_by_count.ensures)
