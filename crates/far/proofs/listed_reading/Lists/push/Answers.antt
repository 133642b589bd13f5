use Rattle.std.proofs.Common.{rules}
use Rattle.far.proofs.Listing.{pushed}
use Rattle.far.proofs.listed_reading.Lists.push.Goals as goal

pub returns-clause-ok : goal.returns-clause-ok
returns-clause-ok c =
    pushed _ _ _ _ _ _ _ _ c.self.view_is c.self.invariant c.reserve.ensures.items c.in_ok-extend_from_slice.ensures.items c.in_ok-push.ensures.items (search rules)
