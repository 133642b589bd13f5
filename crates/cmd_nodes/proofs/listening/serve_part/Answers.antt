use Rattle.std.proofs.Common.{sym, subst}
use Rattle.std.proofs.lemmas.Result.{err_from_is_err_and}
use Rattle.lease_core.specs.Terms.{Coordinating}
use Rattle.cmd_nodes.specs.Served.{HasListened, traffic}
use Rattle.cmd_nodes.specs.Settled.{IsBegunOfPart}
use Rattle.cmd_nodes.specs.inside.{IsServed, IsSettled}
use Rattle.cmd_nodes.proofs.Coordinators.{part_settles}
use Rattle.cmd_nodes.proofs.Traffic.{early_of, has_begun, until_end}
use Rattle.cmd_nodes.proofs.listening.serve_part.Goals as goal

pub returns-clause-settles : goal.returns-clause-settles
returns-clause-settles g c =
    let node = c.node-last.result.now in
    let new = g.L.LedgerOut.text c.serve_connected.new.ledger in
    let conduct = c.args.serving.conduct in
    let takes = g.K.Connections.takes c.args.connections.now in
    let come = traffic (g.K.Connections.arrived c.args.connections.now) (g.K.Connections.sent c.args.connections.now) in
    let gone = traffic (g.K.Connections.arrived c.serve_connected.new.connections) (g.K.Connections.sent c.serve_connected.new.connections) in
    let same = sym c.node-last.ensures in
    let served = subst (λ (last : Coordinating). IsServed c.in_ok-node.node last (g.L.LedgerOut.text c.start_part.new.ledger) new) same c.in_ok-guarded.ensures.served in
    let settled = subst IsSettled same c.in_ok-guarded.ensures.settled in
    let listened = subst (λ (last : Coordinating). HasListened conduct takes c.in_ok-node.node last new come gone) same c.in_ok-guarded.ensures.listened in
    part_settles (g.F.Read.remaining c.args.held.reader) c.args.held.length (g.L.LedgerOut.text c.args.ledger.now) (g.P.ReportForm.is_text c.args.serving.form.now) c.args.serving.era
    (g.L.LedgerOut.text c.start_part.new.ledger) new (g.W.Write.contents c.args.answers.now) (g.W.Write.contents c.report_board.new.answers) c.in_ok-node.node node c.in_ok-node.ensures
    served settled conduct takes come gone listened c.report_board.result c.report_board.ensures.ok c.report_board.ensures.err

pub returns-clause-early : goal.returns-clause-early
returns-clause-early g c =
    let starts = c.in_ok-node.ensures in
    early_of c.report_board.result
    (until_end (IsBegunOfPart c.args.serving.era (g.F.Read.remaining c.args.held.reader) c.args.held.length) c.args.serving.conduct
    (g.K.Connections.takes c.args.connections.now) c.in_ok-node.node c.in_ok-guarded.guarded.node (g.L.LedgerOut.text c.serve_connected.new.ledger)
    (traffic (g.K.Connections.arrived c.args.connections.now) (g.K.Connections.sent c.args.connections.now))
    (traffic (g.K.Connections.arrived c.serve_connected.new.connections) (g.K.Connections.sent c.serve_connected.new.connections))
    (starts.loaded, starts.left, starts.loads, starts.is) c.in_ok-guarded.ensures.listened)

pub returns-in_err-guarded-clause-early : goal.returns-in_err-guarded-clause-early
returns-in_err-guarded-clause-early g c =
    let fault = err_from_is_err_and c.from_residual-in_err-guarded.result c.from_residual-in_err-guarded.ensures.1 in
    let starts = c.in_ok-node.ensures in
    rw fault.1
    (has_begun (IsBegunOfPart c.args.serving.era (g.F.Read.remaining c.args.held.reader) c.args.held.length) c.args.serving.conduct
    (g.K.Connections.takes c.args.connections.now) c.in_ok-node.node (g.L.LedgerOut.text c.start_part.new.ledger)
    (traffic (g.K.Connections.arrived c.args.connections.now) (g.K.Connections.sent c.args.connections.now))
    (traffic (g.K.Connections.arrived c.serve_connected.new.connections) (g.K.Connections.sent c.serve_connected.new.connections))
    (starts.loaded, starts.left, starts.loads, starts.is) c.in_err-guarded.ensures.early)
