use Rattle.std.proofs.Common.{◌∙◌}
use Rattle.leases.proofs.Moments.{lives_by}
use Rattle.leases.proofs.live_leases.LiveLeases.lives.Goals as goal

pub returns : goal.returns
returns c = c.is_some.ensures ∙ lives_by c.args.number c.args.self.now c.place.result c.place.ensures.at c.place.ensures.none
