use Rattle.cmd_parts.proofs.SettledTables.{all_below, if_ok}
use Rattle.cmd_parts.proofs.settle.open_below.Goals as goal

pub returns : goal.returns
returns c = if_ok c.below.result (λ due is. all_below c.args.limit c.args.board.now c.open.result due.items c.open.ensures is) c.below.ensures
