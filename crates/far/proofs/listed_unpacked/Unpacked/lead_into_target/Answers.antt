use Rattle.std.proofs.Common.{rules}
use Rattle.far.proofs.Listing.{lead_more}
use Rattle.far.proofs.listed_unpacked.Unpacked.lead_into_target.Goals as goal

pub loop-i-preserved : goal.loop-i-preserved
loop-i-preserved c = (lead_more _ _ _ _ _ c.loop-i.invariant.0 (c.leads_into_target.ensures.fits.0 (search rules)), c.leads_into_target.ensures.seen)
