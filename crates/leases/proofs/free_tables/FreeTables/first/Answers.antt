use Rattle.std.proofs.Common.{ap}
use Rattle.leases.specs.inside.{Free}
use Rattle.leases.proofs.FreeLaws.{is_first}
use Rattle.leases.proofs.free_tables.FreeTables.first.Goals as goal

pub returns-clause-first : goal.returns-clause-first
returns-clause-first c =
    rw (← ap (λ (f : Free). f.tables) c.self.view_is) (is_first _ _ (c.in_ok-top.ensures.greatest c.self.invariant))
