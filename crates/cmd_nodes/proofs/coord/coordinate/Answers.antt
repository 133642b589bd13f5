use Rattle.cmd_nodes.specs.Settled.{IsServedBoard}
use Rattle.cmd_nodes.specs.inside.{IsServed}
use Rattle.cmd_nodes.proofs.Coordinators.{holds_tree, served_board, served_root}
use Rattle.cmd_nodes.proofs.coord.coordinate.Goals as goal

pub returns : goal.returns
returns g c =
    let node = c.serve.new.node in
    let n = c.args.beginning.states in
    let era = c.args.beginning.era in
    let old = g.L.LedgerOut.text c.args.ledger.now in
    let then = g.L.LedgerOut.text c.start_coordinator.new.ledger in
    let new = g.L.LedgerOut.text c.serve.new.ledger in
    let begins = c.in_ok-node.ensures.begins in
    let starts = c.in_ok-node.ensures.step in
    let served : IsServed c.in_ok-node.node node then new = record { became = c.in_ok-serve.ensures.became; step = c.in_ok-serve.ensures.step } in
    holds_tree n (IsServedBoard n era g.F.Read.remaining c.args.held old new) node c.outcome_of.result
    (served_root n era g.F.Read.remaining c.args.held old then new c.in_ok-node.node node begins starts served)
    (served_board n era g.F.Read.remaining c.args.held old then new c.in_ok-node.node node begins starts served)
    c.outcome_of.ensures.board c.outcome_of.ensures.stands
