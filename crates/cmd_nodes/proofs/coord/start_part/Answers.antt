use Rattle.cmd_nodes.proofs.Coordinators.{part_starts}
use Rattle.cmd_nodes.proofs.coord.start_part.Goals as goal

pub returns-in-Ok : goal.returns-in-Ok
returns-in-Ok g c =
    part_starts (g.F.Read.remaining c.args.held.reader) c.args.held.length (g.L.LedgerOut.text c.args.ledger.now) (g.L.LedgerOut.text c.cut_off.new.ledger) c.args.era c.in_ok-board.board c.in_ok-board.left c.in-Ok.node
    c.in_ok-board.ensures c.in_ok-cut_off.ensures.ok c.in-Ok.ensures
