use Rattle.std.proofs.Common.{sym, subst}
use Rattle.std.proofs.lemmas.Result.{err_from_is_err_and}
use Rattle.lease_core.specs.Terms.{Coordinating}
use Rattle.cmd_nodes.specs.Served.{HasListened, traffic, IsBegunFrom}
use Rattle.cmd_nodes.specs.Settled.{IsSettledBoard}
use Rattle.cmd_nodes.specs.inside.{IsServed, IsSettled}
use Rattle.cmd_nodes.proofs.Coordinators.{reported, served_root, settled_board}
use Rattle.cmd_nodes.proofs.Traffic.{early_of, has_begun, until_end}
use Rattle.cmd_nodes.proofs.listening.serve_tree.Goals as goal

pub returns-clause-settles : goal.returns-clause-settles
returns-clause-settles g c =
    let node = c.node-last.result.now in
    let n = c.args.serving.beginning.states in
    let era = c.args.serving.beginning.era in
    let conduct = c.args.serving.conduct in
    let takes = g.K.Connections.takes c.args.connections.now in
    let old = g.L.LedgerOut.text c.args.ledger.now in
    let then = g.L.LedgerOut.text c.start_coordinator.new.ledger in
    let new = g.L.LedgerOut.text c.serve_connected.new.ledger in
    let before = traffic (g.K.Connections.arrived c.args.connections.now) (g.K.Connections.sent c.args.connections.now) in
    let after = traffic (g.K.Connections.arrived c.serve_connected.new.connections) (g.K.Connections.sent c.serve_connected.new.connections) in
    let begins = c.in_ok-node.ensures.begins in
    let starts = c.in_ok-node.ensures.step in
    let same = sym c.node-last.ensures in
    let served = subst (λ (last : Coordinating). IsServed c.in_ok-node.node last then new) same c.in_ok-guarded.ensures.served in
    let settled = subst IsSettled same c.in_ok-guarded.ensures.settled in
    let listened = subst (λ (last : Coordinating). HasListened conduct takes c.in_ok-node.node last new before after) same c.in_ok-guarded.ensures.listened in
    reported (g.P.ReportForm.is_text c.args.serving.form.now) n (IsSettledBoard n era g.F.Read.remaining c.args.held conduct takes old new before after)
    (g.W.Write.contents c.args.answers.now) (g.W.Write.contents c.report_board.new.answers) node c.report_board.result c.requires.0 c.requires.1
    (served_root n era g.F.Read.remaining c.args.held old then new c.in_ok-node.node node begins starts served)
    (settled_board n era g.F.Read.remaining c.args.held old then new c.in_ok-node.node node begins starts served conduct takes before after settled listened)
    c.report_board.ensures.ok c.report_board.ensures.err

pub returns-clause-early : goal.returns-clause-early
returns-clause-early g c =
    early_of c.report_board.result
    (until_end (IsBegunFrom c.args.serving.beginning.states c.args.serving.beginning.era g.F.Read.remaining c.args.held) c.args.serving.conduct
    (g.K.Connections.takes c.args.connections.now) c.in_ok-node.node c.in_ok-guarded.guarded.node (g.L.LedgerOut.text c.serve_connected.new.ledger)
    (traffic (g.K.Connections.arrived c.args.connections.now) (g.K.Connections.sent c.args.connections.now))
    (traffic (g.K.Connections.arrived c.serve_connected.new.connections) (g.K.Connections.sent c.serve_connected.new.connections))
    c.in_ok-node.ensures.begins c.in_ok-guarded.ensures.listened)

pub returns-in_err-guarded-clause-early : goal.returns-in_err-guarded-clause-early
returns-in_err-guarded-clause-early g c =
    let fault = err_from_is_err_and c.from_residual-in_err-guarded.result c.from_residual-in_err-guarded.ensures.1 in
    rw fault.1
    (has_begun (IsBegunFrom c.args.serving.beginning.states c.args.serving.beginning.era g.F.Read.remaining c.args.held) c.args.serving.conduct
    (g.K.Connections.takes c.args.connections.now) c.in_ok-node.node (g.L.LedgerOut.text c.start_coordinator.new.ledger)
    (traffic (g.K.Connections.arrived c.args.connections.now) (g.K.Connections.sent c.args.connections.now))
    (traffic (g.K.Connections.arrived c.serve_connected.new.connections) (g.K.Connections.sent c.serve_connected.new.connections))
    c.in_ok-node.ensures.begins c.in_err-guarded.ensures.early)
