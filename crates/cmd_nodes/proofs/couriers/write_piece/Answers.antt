use Rattle.cmd_nodes.proofs.Traffic.{written_on}
use Rattle.cmd_nodes.proofs.couriers.write_piece.Goals as goal

pub writes-preserved : goal.writes-preserved
writes-preserved g c =
    let inv = c.writes.invariant in
    written_on c.args.piece.now inv.0 c.writes.left.now c.in_ok-count.count (g.W.Write.contents c.args.near.now) (g.W.Write.contents c.writes.near)
    (g.W.Write.contents c.write.new.self) inv.1 inv.2 c.in_ok-count.ensures.bytes
