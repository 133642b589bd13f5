use Rattle.std.proofs.Common.{refl}
use Rattle.ledger.proofs.StageLaws.{loader_grows, stop_none}
use Rattle.ledger.proofs.loading.Loader.add.Goals as goal

pub returns-in-Ok-clause-ok : goal.returns-in-Ok-clause-ok
returns-in-Ok-clause-ok c = rw (← c.self.view_is) (loader_grows _ _ _ refl refl (λ text size is. c.in-Ok.ensures.ok text is))

pub returns-in-Err-clause-stopped : goal.returns-in-Err-clause-stopped
returns-in-Err-clause-stopped c = rw (← c.self.view_is) (stop_none _ _ _ refl refl c.in-Err.ensures.err.0 c.in-Err.ensures.err.1)
