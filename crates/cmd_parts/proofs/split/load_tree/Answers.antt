use Rattle.std.proofs.Common.{[], ◌∙◌}
use Rattle.cmd_ledgers.proofs.ReadLedgers.{all_first}
use Rattle.cmd_parts.proofs.SplitTrees.{if_tree}
use Rattle.cmd_parts.proofs.split.load_tree.Goals as goal

pub returns-in-Ok : goal.returns-in-Ok
returns-in-Ok g c =
    let (text, all, fed) = c.in-Ok.ensures.ok in
    if_tree (g.R.Read.remaining c.args.from.now) c.args.limit c.args.n text _ c.finished.result
    (all_first _ _ c.args.limit text all.is_read.consumed all.is_read.within all.whole)
    (fed.root ∙ (c.new-loader.ensures.root ∙ c.root.ensures))
    (c.finished.ensures text (fed.stands [] c.new-loader.ensures.stands))
