use Rattle.std.proofs.Common.{rules}
use Rattle.far.proofs.unpacked.Unpacked.hold.Goals as goal

-- answered by name, so that nothing is offered where an edit makes it false
pub fits-requires : goal.fits-requires
fits-requires c = search rules steps 100000
