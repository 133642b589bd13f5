use Rattle.std.proofs.Common.{rules}
use Rattle.far.proofs.unpacked.Unpacked.fits_ahead.Goals as goal

-- answered by name, so that nothing is offered where an edit makes it false
pub returns-then-not-is_ahead : goal.returns-then-not-is_ahead
returns-then-not-is_ahead c = search rules steps 100000

pub returns : goal.returns
returns c = search rules steps 100000
