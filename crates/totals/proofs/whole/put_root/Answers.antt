use Rattle.std.proofs.Common.{◌∙◌}
use Rattle.ledger.specs.Terms.{same_table}
use Rattle.totals.proofs.Wholes.{put_last}
use Rattle.totals.proofs.whole.put_root.Goals as goal

pub returns : goal.returns
unfolding same_table
returns c = c.in-Ok.ensures.keys ∙ put_last c.args.roots.now.keys c.args.root.now c.requires.fresh
