use Rattle.std.proofs.Common.{◌≡◌, false, true, arith}
use Rattle.far.proofs.ListedEdges.{not_there}
use Rattle.far.proofs.listed_fits.is_part_of_near.Goals as goal

pub returns-then-j-b : goal.returns-then-j-b
returns-then-j-b c = (
  λ t. absurd (let clash : false ≡ true = t in cc),
  λ part. absurd (not_there _ _ _ _ c.requires.second c.items.invariant c.items-test.true (λ less. absurd (omega arith)) part),
)

pub returns-then-b-j : goal.returns-then-b-j
returns-then-b-j c = (
  λ t. absurd (let clash : false ≡ true = t in cc),
  λ part. absurd (not_there _ _ _ _ c.requires.second c.items.invariant c.items-test.true (λ less. c.if-b-j.true) part),
)
