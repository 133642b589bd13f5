use Rattle.std.proofs.Common.{◌++◌, Ok, Err, ◌∙◌}
use Rattle.ledger.specs.Terms.{LoadGives}
use Rattle.ledger.proofs.Feeding.{header_more}
use Rattle.cmd_ledgers.proofs.ReadLedgers.{finish_ends, behind_loads, behind_stands}
use Rattle.cmd_ledgers.proofs.reading.load_behind.Goals as goal

pub returns-in-Ok-finish-clause-ok : goal.returns-in-Ok-finish-clause-ok
returns-in-Ok-finish-clause-ok g c =
    let (more, are, fed) = c.in-Ok.ensures.ok in
    let (rest, header) = c.requires.header in
    let gives : LoadGives c.args.root (c.args.first.now ++ more) (Ok c.in-Ok-finish.loaded) =
    behind_loads c.new-loader.result c.feed_all.new.loader c.args.root (c.args.first.now ++ more) (Ok c.in-Ok-finish.loaded) c.new-loader.ensures.root c.new-loader.ensures.stands fed c.in-Ok-finish.ensures in
    behind_stands _ c.args.limit c.args.root c.args.first.now more rest c.in-Ok-finish.loaded header are gives

pub returns-in-Err-finish-clause-err : goal.returns-in-Err-finish-clause-err
returns-in-Err-finish-clause-err g c =
    let (more, are, fed) = c.in-Ok.ensures.ok in
    let (rest, header) = c.requires.header in
    let gives : LoadGives c.args.root (c.args.first.now ++ more) (Err c.in-Err-finish.fault) =
    behind_loads c.new-loader.result c.feed_all.new.loader c.args.root (c.args.first.now ++ more) (Err c.in-Err-finish.fault) c.new-loader.ensures.root c.new-loader.ensures.stands fed c.in-Err-finish.ensures in
    c.by_load.ensures ∙ finish_ends (c.args.first.now ++ more) c.args.root (rest ++ more) c.in-Err-finish.fault (header_more c.args.first.now more c.args.root rest header) gives
