use Rattle.far.proofs.Written.{rows_written}
use Rattle.far.proofs.far.Far.rows.Goals as goal

pub returns : goal.returns
returns c = rows_written _ _ _ c.args.self.now.texts.edges
