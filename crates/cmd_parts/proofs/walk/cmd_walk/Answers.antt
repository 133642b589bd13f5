use Rattle.cmd_ledgers.proofs.TreeReports.{tells}
use Rattle.cmd_parts.specs.Settle.{IsWalkedBoard}
use Rattle.cmd_parts.proofs.SettledTables.{walks_settle}
use Rattle.cmd_parts.proofs.walk.cmd_walk.Goals as goal

pub returns-clause-tells : goal.returns-clause-tells
returns-clause-tells g c = λ n some limit is.
    let settles = walks_settle (g.P.ReportForm.is_text c.args.form.now) c.args.root (IsWalkedBoard _ g.D.Decider.answers) (g.W.Write.contents c.args.answers.now) (g.W.Write.contents c.walk_tree.new.answers)
    n c.walk_tree.result some limit is c.walk_tree.ensures in
    tells _ _ (g.W.Write.contents c.args.answers.now) (g.W.Write.contents c.walk_tree.new.answers) c.walk_tree.result _ _ c.told.result settles c.told.ensures
