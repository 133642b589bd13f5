use Rattle.std.proofs.Common.{ap}
use Rattle.leases.specs.inside.{Free}
use Rattle.leases.proofs.FreeLaws.{loses}
use Rattle.leases.proofs.free_tables.FreeTables.pop.Goals as goal

pub returns-clause-others : goal.returns-clause-others
returns-clause-others c =
    rw (← ap (λ (f : Free). f.tables) c.self.view_is) (loses _ _ _ c.in_ok-top.ensures.permutation)
