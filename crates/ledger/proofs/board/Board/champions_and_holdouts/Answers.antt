use Rattle.std.proofs.Common.{subst, ◌∙◌, ap}
use Rattle.std.specs.Prelude.{filter_map}
use Rattle.std.specs.Vec.Iter.{into_iter_items}
use Rattle.ledger.specs.Records.{Contents, IsBoard}
use Rattle.ledger.specs.inside.Counting.{IsCounted, tables_with, tables_with_ones, undecided_table}
use Rattle.ledger.proofs.BoardLaws.{all_holdouts, best_champions, best_ones_champions}
use Rattle.ledger.proofs.board.Board.champions_and_holdouts.Goals as goal

pub returns-clause-champions : goal.returns-clause-champions
returns-clause-champions c = best_champions c.args.self.now c.self.inside.counts.best c.in_ok-champions.champions.items (into_iter_items c.sorted_tables-champions.result)
    c.child_is_table.ensures.below c.child_is_table.ensures.tree (subst IsBoard c.self.view_is c.self.invariant.0)
    (subst (λ (b : Contents). IsCounted b.records c.self.inside.counts) c.self.view_is c.self.invariant.3).best
    (c.in_ok-champions.ensures.champions ∙ ap (λ (b : Contents). tables_with c.self.inside.counts.best b.records) c.self.view_is)
    c.sorted_tables-champions.ensures.same c.sorted_tables-champions.ensures.sorted

pub returns-clause-ones_champions : goal.returns-clause-ones_champions
returns-clause-ones_champions c = best_ones_champions c.args.self.now c.self.inside.counts.ones c.in_ok-champions.ones_champions.items (into_iter_items c.sorted_tables-ones_champions.result)
    c.child_is_table.ensures.below c.child_is_table.ensures.tree (subst IsBoard c.self.view_is c.self.invariant.0)
    (subst (λ (b : Contents). IsCounted b.records c.self.inside.counts) c.self.view_is c.self.invariant.3).ones
    (c.in_ok-champions.ensures.ones_champions ∙ ap (λ (b : Contents). tables_with_ones c.self.inside.counts.ones b.records) c.self.view_is)
    c.sorted_tables-ones_champions.ensures.same c.sorted_tables-ones_champions.ensures.sorted

pub returns-clause-holdouts : goal.returns-clause-holdouts
returns-clause-holdouts c = all_holdouts c.args.self.now c.in_ok-champions.holdouts.items (into_iter_items c.sorted_tables-holdouts.result)
    c.child_is_table.ensures.below c.child_is_table.ensures.tree (subst IsBoard c.self.view_is c.self.invariant.0)
    (c.in_ok-champions.ensures.holdouts ∙ ap (λ (b : Contents). filter_map undecided_table b.records) c.self.view_is)
    c.sorted_tables-holdouts.ensures.same c.sorted_tables-holdouts.ensures.sorted
