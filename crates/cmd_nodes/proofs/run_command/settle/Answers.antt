use Rattle.std.specs.Prelude.{All}
use Rattle.cmd_nodes.specs.Served.{HasTakenRounds}
use Rattle.cmd_nodes.specs.Settled.{IsRunBoard}
use Rattle.cmd_nodes.proofs.Coordinators.{reported, run_board, served_root}
use Rattle.cmd_nodes.proofs.run_command.settle.Goals as goal

pub returns : goal.returns
returns g c =
    let node = c.run_workers.new.node in
    let n = c.args.run.settling.now.states in
    let rounds = c.args.run.settling.now.rounds in
    let workers = c.args.run.workers.items in
    let old = g.L.LedgerOut.text c.args.ledger.now in
    let then = g.L.LedgerOut.text c.start_coordinator.new.ledger in
    let new = g.L.LedgerOut.text c.run_workers.new.ledger in
    let begins = c.in_ok-node.ensures.begins in
    let starts = c.in_ok-node.ensures.step in
    let ran = c.in_ok-run_workers.ensures in
    reported (g.P.ReportForm.is_text c.args.run.form.now) n (IsRunBoard g.N.Node.answers c.args.run.settling.now workers g.F.Read.remaining c.args.held old new)
    (g.W.Write.contents c.args.answers.now) (g.W.Write.contents c.report_board.new.answers) node c.report_board.result c.requires.0 c.requires.1
    (served_root n 1 g.F.Read.remaining c.args.held old then new c.in_ok-node.node node begins starts ran.served)
    (run_board n 1 g.F.Read.remaining c.args.held old then new c.in_ok-node.node node begins starts ran.served (All (HasTakenRounds g.N.Node.answers rounds) workers) ran.ends)
    c.report_board.ensures.ok c.report_board.ensures.err
