use Rattle.std.proofs.Common.{◌-◌}
use Rattle.ngram_cps.specs.inside.{StandsBetween}
use Rattle.ngram_cps.proofs.lists.Listing.contains.Given as goal

abbrev pub decreases-search : goal.decreases-search
decreases-search l = l.high - l.low

-- if the bytes are an item at all, it stands between the two places
abbrev pub invariant-search : goal.invariant-search
invariant-search l = StandsBetween l.self.width l.self.count l.self.text.now l.bytes l.low l.high
