use Rattle.cmd_ledgers.proofs.ReadLedgers.{fed_all}
use Rattle.cmd_ledgers.proofs.reading.feed_all.Goals as goal

pub returns-in-Ok-feed_from-clause-ok : goal.returns-in-Ok-feed_from-clause-ok
returns-in-Ok-feed_from-clause-ok g c = fed_all c.args.loader.now c.feed.new.self c.feed_from.new.self _ _ c.args.limit c.args.first.now c.in-Ok.ensures.ok c.in-Ok-feed_from.ensures.ok
