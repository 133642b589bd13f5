use Rattle.std.proofs.Common.{refl, inl, inr}
use Rattle.cmd_dispatch.proofs.host.Host.walk_saved.Goals as goal

pub returns-then-has_failed-clause-walks : goal.returns-then-has_failed-clause-walks
returns-then-has_failed-clause-walks g c =
    inr (refl, (c.in_ok-outcome.outcome, (c.args.root, c.requires.root, (c.in_ok-outcome.outcome, c.in_ok-outcome.ensures.walks, inl refl))))
