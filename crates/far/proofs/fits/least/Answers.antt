use Rattle.std.specs.Int.{w128}
use Rattle.std.proofs.lemmas.Nat.Bits.{bit_at-trailing_zeros}
use Rattle.far.proofs.fits.least.Goals as goal

pub returns : goal.returns
returns c =
    let h = bit_at-trailing_zeros w128 c.args.set c.requires c.ranges.set.fits in
    record {
      member = h.1;
      none = h.2;
      limit = h.0;
    }
