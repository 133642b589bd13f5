use Rattle.std.proofs.Common.{subst, rules}
use Rattle.far.specs.inside.Steps.{LeadsInto}
use Rattle.far.specs.inside.ListedUnpacked.{numbers_of_unpacked}
use Rattle.far.proofs.Listing.{seen_more}
use Rattle.far.proofs.listed_unpacked.Unpacked.leads_into_target.Goals as goal

pub returns-clause-seen : goal.returns-clause-seen
returns-clause-seen c =
    seen_more _ _ _ _ _ _ _ c.requires.seen (search rules)
    (subst (LeadsInto (numbers_of_unpacked c.args.self.now) c.args.u c.args.s) c.row.ensures.row (c.leads_into.ensures.0 (search rules)))
