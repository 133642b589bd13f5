use Rattle.totals.specs.Totals.{totals_of}
use Rattle.totals.proofs.ToldRecords.{totals_best, totals_ones, totals_rado, totals_sigma}
use Rattle.totals.proofs.sums.Sums.status.Goals as goal

pub returns-clause-best : goal.returns-clause-best
returns-clause-best c = λ root rs best ones board are. totals_best root rs (totals_of c.args.self.now) c.status_by.result c.child_is_table.ensures.below c.child_is_table.ensures.tree
    c.standing_claims_are_true.ensures c.status_by.ensures board are best ones c.closed_tree.ensures.complete c.best_of_closed.ensures.steps

pub returns-clause-ones : goal.returns-clause-ones
returns-clause-ones c = λ root rs best ones board are. totals_ones root rs (totals_of c.args.self.now) c.status_by.result c.child_is_table.ensures.below c.child_is_table.ensures.tree
    c.standing_claims_are_true.ensures c.status_by.ensures board are best ones c.closed_tree.ensures.complete c.best_of_closed.ensures.score

pub returns-clause-rado : goal.returns-clause-rado
returns-clause-rado c = λ root rs n s ones board are. totals_rado root rs (totals_of c.args.self.now) c.status_by.result c.child_is_table.ensures.below c.child_is_table.ensures.tree
    c.standing_claims_are_true.ensures c.status_by.ensures board are n s ones c.rado_of_complete.ensures.steps

pub returns-clause-sigma : goal.returns-clause-sigma
returns-clause-sigma c = λ root rs n s best board are. totals_sigma root rs (totals_of c.args.self.now) c.status_by.result c.child_is_table.ensures.below c.child_is_table.ensures.tree
    c.standing_claims_are_true.ensures c.status_by.ensures board are n s best c.rado_of_complete.ensures.score
