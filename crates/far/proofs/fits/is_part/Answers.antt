use Rattle.std.proofs.Common.{arith}
use Rattle.std.proofs.lemmas.Bool.{eqb-true}
use Rattle.std.proofs.lemmas.Bool.Decides.{nat_tests}
use Rattle.far.proofs.Edges.{part_from, part_union}
use Rattle.far.proofs.fits.is_part.Goals as goal

pub returns : goal.returns
returns c = (λ same. part_from _ _ (eqb-true _ _ same), λ part. let same = part_union _ _ part in grind (arith, nat_tests, same))
