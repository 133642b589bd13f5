use Rattle.std.proofs.Common.{subst, ◌∙◌, ap}
use Rattle.std.specs.Vec.Iter.{into_iter_items}
use Rattle.ledger.specs.Records.{Contents, IsBoard}
use Rattle.std.specs.Prelude.{filter_map}
use Rattle.ledger.specs.inside.Counting.{undecided_table}
use Rattle.ledger.proofs.BoardLaws.{all_holdouts}
use Rattle.ledger.proofs.board.Board.holdouts.Goals as goal

pub returns : goal.returns
returns c = all_holdouts c.args.self.now c.in_ok-tables.tables.items (into_iter_items c.sorted_tables.result)
    c.child_is_table.ensures.below c.child_is_table.ensures.tree (subst IsBoard c.self.view_is c.self.invariant.0) (c.in_ok-tables.ensures ∙ ap (λ (b : Contents). filter_map undecided_table b.records) c.self.view_is)
    c.sorted_tables.ensures.same c.sorted_tables.ensures.sorted
