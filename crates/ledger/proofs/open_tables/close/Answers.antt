use Rattle.std.proofs.Common.{sym, subst}
use Rattle.ledger.specs.inside.Waiting.{ClosesTable}
use Rattle.ledger.specs.declared.places.Waiting.{Waiting}
use Rattle.ledger.proofs.Sets.{removed}
use Rattle.ledger.proofs.open_tables.close.Goals as goal

pub returns-in-Open : goal.returns-in-Open
returns-in-Open c =
    subst (λ (w : Waiting). ClosesTable w c.args.t.now c.args.tables.now c.remove.new.self) (sym c.in-Open.is)
    ((λ q. removed c.args.tables.now c.remove.new.self c.args.t.now q (c.remove.ensures.updates.0 q)), c.remove.ensures.entries)
