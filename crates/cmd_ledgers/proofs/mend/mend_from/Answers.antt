use Rattle.std.proofs.Common.{take}
use Rattle.cmd_ledgers.proofs.ReadLedgers.{left_behind}
use Rattle.cmd_ledgers.proofs.Offered.{if_mended}
use Rattle.cmd_ledgers.proofs.mend.mend_from.Goals as goal

pub returns : goal.returns
returns g c =
    let begins = c.in_ok-root.ensures.ok in
    if_mended (g.R.Read.remaining c.args.from.now) (g.R.Read.remaining c.begin_reading.new.from) c.args.limit _ (take c.in_ok-root.len c.begin_reading.new.buffer) c.behind_header-first.result.now c.in_ok-root.root
    c.mend_behind.result begins.1 (left_behind c.args.limit c.in_ok-root.len c.begin_reading.new.buffer begins.0)
    (c.behind_header-first.ensures c.in_ok-root.root begins.1.rest begins.1.header) c.mend_behind.ensures
