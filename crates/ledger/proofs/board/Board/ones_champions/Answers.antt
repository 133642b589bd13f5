use Rattle.std.proofs.Common.{subst, ◌∙◌, ap}
use Rattle.std.specs.Vec.Iter.{into_iter_items}
use Rattle.ledger.specs.Records.{Contents, IsBoard}
use Rattle.ledger.specs.inside.Counting.{IsCounted, tables_with_ones}
use Rattle.ledger.proofs.BoardLaws.{best_ones_champions}
use Rattle.ledger.proofs.board.Board.ones_champions.Goals as goal

pub returns : goal.returns
returns c = best_ones_champions c.args.self.now c.self.inside.counts.ones c.in_ok-tables.tables.items (into_iter_items c.sorted_tables.result)
    c.child_is_table.ensures.below c.child_is_table.ensures.tree (subst IsBoard c.self.view_is c.self.invariant.0) (subst (λ (b : Contents). IsCounted b.records c.self.inside.counts) c.self.view_is c.self.invariant.3).ones (c.in_ok-tables.ensures ∙ ap (λ (b : Contents). tables_with_ones c.self.inside.counts.ones b.records) c.self.view_is)
    c.sorted_tables.ensures.same c.sorted_tables.ensures.sorted
