use Rattle.std.proofs.Common.{take}
use Rattle.cmd_ledgers.proofs.ReadLedgers.{left_behind}
use Rattle.cmd_page.proofs.SummedLedgers.{summed_from}
use Rattle.cmd_page.proofs.sums.load_summed.Goals as goal

pub returns : goal.returns
returns g c =
    let begins = c.in_ok-root.ensures.ok in
    summed_from (g.R.Read.remaining c.args.from.now) (g.R.Read.remaining c.begin_reading.new.from) c.args.limit _ (take c.in_ok-root.len c.begin_reading.new.buffer) c.in_ok-root.root c.load_behind.result (λ l. l.0) (λ l. l.1) (λ l. l.2) begins.1
    (left_behind c.args.limit c.in_ok-root.len c.begin_reading.new.buffer begins.0) c.load_behind.ensures
