use Rattle.ledger.specs.Terms.{same_table}
use Rattle.totals.proofs.Wholes.{is_root}
use Rattle.cmd_parts.proofs.answer.has_root.Goals as goal

pub returns : goal.returns
unfolding same_table
returns c = is_root c.args.came.now.keys c.args.root.now c.contains.result c.contains.ensures
