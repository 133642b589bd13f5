use Rattle.cmd_page.proofs.SummedLedgers.{summed_behind}
use Rattle.cmd_page.proofs.sums.load_behind.Goals as goal

pub returns-in-Ok : goal.returns-in-Ok
returns-in-Ok g c =
    let (rest, header) = c.requires.header in
    summed_behind c.new-loader.result c.feed_both.new.loader c.feed_all.new.loader c.new-hasher.result c.feed_both.new.hasher c.feed_all.new.hasher c.args.root c.args.first.now
    (g.R.Read.remaining c.args.from.now) c.args.limit rest _ _ c.new-loader.ensures.root c.new-loader.ensures.stands c.new-hasher.ensures header c.in_ok-feed_both.ensures c.in_ok-feed_all.ensures
    c.in-Ok.ensures c.finalize.ensures
