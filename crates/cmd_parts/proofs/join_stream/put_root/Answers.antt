use Rattle.ledger.specs.Terms.{same_table}
use Rattle.cmd_parts.proofs.join_stream.put_root.Goals as goal

pub returns-in-Ok : goal.returns-in-Ok
unfolding same_table
returns-in-Ok c = c.in-Ok.ensures.keys
