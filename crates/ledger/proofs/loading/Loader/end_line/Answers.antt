use Rattle.std.proofs.Common.{refl}
use Rattle.ledger.proofs.StageLaws.{loader_stops}
use Rattle.ledger.proofs.loading.Loader.end_line.Goals as goal

pub returns-in-Err-clause-stopped : goal.returns-in-Err-clause-stopped
returns-in-Err-clause-stopped c = rw (← c.self.view_is) (loader_stops _ _ c.args.part.now c.in-Err.stop refl refl c.in-Err.ensures.stopped)
