use Rattle.std.proofs.Common.{arith}
use Rattle.ledger.proofs.OpenLaws.{starts, board_starts, counted_none, indexed_none}
use Rattle.ledger.proofs.board.Board.new.Goals as goal

pub invariant_of-result : goal.invariant_of-result
invariant_of-result c =
    rw (c.new.ensures.empty, c.none.ensures) (
      board_starts c.args.root c.states.ensures.table (c.in_order.ensures.0 c.if-not-in_order.false),
      starts c.args.root c.in_ok-open_tables.open_tables c.in_ok-open_tables.ensures,
      λ k d below. absurd (omega arith),
      counted_none,
      indexed_none c.args.root,
    )
