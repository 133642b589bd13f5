use Rattle.std.proofs.Common.{sym, ◌∙◌, ap}
use Rattle.leases.specs.inside.{without_each}
use Rattle.leases.proofs.Moments.{next_ended, without_no_more, drop_past}
use Rattle.leases.proofs.live_leases.LiveLeases.end_each.Goals as goal

pub loop-number-preserved : goal.loop-number-preserved
loop-number-preserved c =
    c.loop-number.invariant ∙ next_ended c.args.numbers.now c.loop-number.number-index _ c.loop-number.self c.end.new.self c.loop-number-test.true c.end.ensures

pub returns : goal.returns
returns c =
    sym (c.loop-number.invariant ∙ (ap (λ ns. without_each ns c.loop-number.self) (drop_past c.args.numbers.now c.loop-number.number-index c.loop-number-test.false) ∙ without_no_more c.loop-number.self))
