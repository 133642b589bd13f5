use Rattle.std.specs.Prelude.{is_ok}
use Rattle.peers.proofs.Cores.{longer, within_more}
use Rattle.peers.proofs.pool.Crew.add.Goals as goal

pub invariant_of-self : goal.invariant_of-self
invariant_of-self g c = within_more _ _ _ _ (longer (is_ok c.push.result) _ _ _ c.push.ensures.items) c.self.invariant
