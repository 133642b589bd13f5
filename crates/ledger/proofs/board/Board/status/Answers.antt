use Rattle.std.proofs.Common.{subst}
use Rattle.ledger.specs.Records.{IsBoard}
use Rattle.ledger.proofs.Completeness.{complete_best, complete_ones, complete_rado, complete_sigma}
use Rattle.ledger.proofs.board.Board.status.Goals as goal

pub returns-clause-best : goal.returns-clause-best
returns-clause-best c = λ best ones is. complete_best c.args.self.now c.standing.result best ones c.child_is_table.ensures.below c.child_is_table.ensures.tree c.standing_claims_are_true.ensures
    c.closed_tree.ensures.complete c.best_of_closed.ensures.steps (subst IsBoard c.self.view_is c.self.invariant.0) c.standing.ensures is

pub returns-clause-rado : goal.returns-clause-rado
returns-clause-rado c = λ n s ones some within root is. complete_rado c.args.self.now c.standing.result n s ones c.child_is_table.ensures.below c.child_is_table.ensures.tree c.standing_claims_are_true.ensures
    c.rado_of_complete.ensures.steps (subst IsBoard c.self.view_is c.self.invariant.0) c.standing.ensures some within root is

pub returns-clause-ones : goal.returns-clause-ones
returns-clause-ones c = λ best ones is. complete_ones c.args.self.now c.standing.result best ones c.child_is_table.ensures.below c.child_is_table.ensures.tree c.standing_claims_are_true.ensures
    c.closed_tree.ensures.complete c.best_of_closed.ensures.score (subst IsBoard c.self.view_is c.self.invariant.0) c.standing.ensures is

pub returns-clause-sigma : goal.returns-clause-sigma
returns-clause-sigma c = λ n s best some within root is. complete_sigma c.args.self.now c.standing.result n s best c.child_is_table.ensures.below c.child_is_table.ensures.tree c.standing_claims_are_true.ensures
    c.rado_of_complete.ensures.score (subst IsBoard c.self.view_is c.self.invariant.0) c.standing.ensures some within root is
