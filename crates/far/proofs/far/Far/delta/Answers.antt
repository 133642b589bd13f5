use Rattle.far.proofs.Written.{delta_written}
use Rattle.far.proofs.far.Far.delta.Goals as goal

pub returns : goal.returns
returns c = delta_written _ _ c.args.self.now.texts.moves
