use Rattle.std.proofs.Common.{Option, Ok, sym, subst, take}
use Rattle.machine_text.specs.Terms.{Packed}
use Rattle.ledger.specs.Terms.{PeekGives}
use Rattle.cmd_options.specs.declared.ended.Ended.{Ended}
use Rattle.cmd_ledgers.specs.LedgerReport.{EndsReading}
use Rattle.cmd_options.specs.declared.ended.Stopped.TheVariants.{Ended as EndedBy}
use Rattle.cmd_ledgers.proofs.ReadLedgers.{torn_stops, peek_stops}
use Rattle.cmd_ledgers.proofs.reading.begin_reading.Goals as goal

pub returns-in-Ok-None-clause-err : goal.returns-in-Ok-None-clause-err
returns-in-Ok-None-clause-err g c =
    let first = take c.in-Ok.len c.fill.new.buffer in
    torn_stops (g.R.Read.remaining c.args.from.now) (g.R.Read.remaining c.fill.new.from) c.args.limit first c.in-Ok.ensures.ok
    (subst (λ (o : Option Packed). PeekGives first (Ok o)) c.in-Ok-None.field-0-is c.in-Ok-None.ensures)

pub returns-in-Err-peek_root-clause-err : goal.returns-in-Err-peek_root-clause-err
returns-in-Err-peek_root-clause-err g c =
    let first = take c.in-Ok.len c.fill.new.buffer in
    subst (λ (e : Ended). EndsReading (g.R.Read.remaining c.args.from.now) c.args.limit (EndedBy e)) (sym c.by_load.ensures)
    (peek_stops (g.R.Read.remaining c.args.from.now) (g.R.Read.remaining c.fill.new.from) c.args.limit first c.in-Ok.ensures.ok c.in-Err-peek_root.fault c.in-Err-peek_root.ensures)
