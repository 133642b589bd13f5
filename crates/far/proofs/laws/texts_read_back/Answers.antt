use Rattle.far.proofs.Written.{texts_back, same_back, bytes_above_space, fields_are_short}
use Rattle.far.proofs.laws.texts_read_back.Goals as goal

pub returns : goal.returns
returns c = record { texts = texts_back; same = same_back; short = fields_are_short; bytes = bytes_above_space }
