use Rattle.cert.specs.Terms.{recorded}
use Rattle.cmd_ledgers.proofs.RetriedLedgers.{offer_changes}
use Rattle.cmd_ledgers.proofs.retry.take.Goals as goal

pub returns-in-Ok-clause-changes : goal.returns-in-Ok-clause-changes
returns-in-Ok-clause-changes c =
    offer_changes c.args.board.now c.offer_judged_line.new.self (recorded c.args.r.now) _ _ c.offer_judged_line.result c.offer_judged_line.ensures c.in-Ok.field-0 c.requires.holdout c.in-Ok.is
