use Rattle.std.proofs.Common.{arith}
use Rattle.far.proofs.Edges.{united_first, united_none, united_past, united_more, less_left}
use Rattle.far.proofs.fits.union_over.Goals as goal

pub members-init : goal.members-init
members-init c = record { united = united_first _ _ _; within = omega arith }

pub members-preserved : goal.members-preserved
members-preserved c = record { united = united_more _ _ _ _ _ _ _ c.least-gap.ensures.member c.least-gap.ensures.none c.members.invariant.united; within = omega arith }

pub members-smaller : goal.members-smaller
members-smaller c = less_left _ _ c.members-test.true

pub returns-then-j-reach : goal.returns-then-j-reach
returns-then-j-reach c = united_past _ _ _ _ _ _ _ _ c.members.invariant.within (omega arith) c.least-gap.ensures.none c.members.invariant.united

pub returns : goal.returns
returns c = united_none _ _ _ _ _ _ _ c.members.invariant.within (omega arith) c.members.invariant.united
