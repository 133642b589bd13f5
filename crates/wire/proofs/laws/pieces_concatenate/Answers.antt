use Rattle.wire.proofs.LineLaws.{fed_twice}
use Rattle.wire.proofs.laws.pieces_concatenate.Goals as goal

pub returns : goal.returns
returns c = fed_twice
