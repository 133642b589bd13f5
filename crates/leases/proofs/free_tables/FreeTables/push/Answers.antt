use Rattle.std.proofs.Common.{ap}
use Rattle.leases.specs.inside.{Free}
use Rattle.leases.proofs.FreeLaws.{gains}
use Rattle.leases.proofs.free_tables.FreeTables.push.Goals as goal

pub returns-clause-ok : goal.returns-clause-ok
returns-clause-ok c =
    rw (← ap (λ (f : Free). f.tables) c.self.view_is) (gains _ _ _ c.in_ok-push.ensures.permutation)
