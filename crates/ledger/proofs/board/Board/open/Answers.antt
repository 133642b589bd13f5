use Rattle.std.proofs.Common.{subst}
use Rattle.ledger.specs.Records.{IsBoard}
use Rattle.ledger.specs.inside.Counting.{IsOpenMap}
use Rattle.ledger.proofs.BoardLaws.{all_open}
use Rattle.ledger.proofs.board.Board.open.Goals as goal

pub returns : goal.returns
returns c = rw c.of.ensures.rest (all_open c.args.self.now c.self.inside.open_tables c.child_is_table.ensures.below c.child_is_table.ensures.tree
    (subst IsBoard c.self.view_is c.self.invariant.0) (subst (IsOpenMap c.self.inside.open_tables) c.self.view_is c.self.invariant.1) c.of.ensures.ordered)
