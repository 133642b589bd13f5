use Rattle.std.proofs.Common.{take}
use Rattle.ledger.proofs.StageLaws.{if_err}
use Rattle.cmd_ledgers.proofs.ReadLedgers.{behind_ends, if_loaded, loaded_alone, left_behind}
use Rattle.cmd_ledgers.proofs.reading.load_from.Goals as goal

pub returns-clause-ok : goal.returns-clause-ok
returns-clause-ok g c =
    let begins = c.in_ok-root.ensures.ok in
    loaded_alone _ c.args.limit c.in_ok-root.root c.load_behind.result
    (if_loaded (g.R.Read.remaining c.args.from.now) (g.R.Read.remaining c.begin_reading.new.from) c.args.limit _ (take c.in_ok-root.len c.begin_reading.new.buffer) c.in_ok-root.root c.load_behind.result begins.1
    (left_behind c.args.limit c.in_ok-root.len c.begin_reading.new.buffer begins.0) c.load_behind.ensures.ok)

pub returns-clause-err : goal.returns-clause-err
returns-clause-err g c =
    let begins = c.in_ok-root.ensures.ok in
    if_err c.load_behind.result
    (behind_ends (g.R.Read.remaining c.args.from.now) (g.R.Read.remaining c.begin_reading.new.from) c.args.limit (take c.in_ok-root.len c.begin_reading.new.buffer) c.in_ok-root.root begins.1) c.load_behind.ensures.err
