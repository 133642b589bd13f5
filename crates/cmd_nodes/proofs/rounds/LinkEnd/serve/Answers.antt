use Rattle.cmd_nodes.proofs.NodeRounds.{handed_becomes, became_more}
use Rattle.cmd_nodes.proofs.rounds.LinkEnd.serve.Goals as goal

pub loop-preserved : goal.loop-preserved
loop-preserved g c = record {
  became =
      became_more g.N.Node.answers c.args.node.now c.loop.node c.turn.new.node c.loop.invariant.became
      (handed_becomes g.N.Node.answers _ _ _ _ c.in_ok-turn.ensures.turned.3.0);
  step = λ known. c.in_ok-turn.ensures.ends.step (λ e. cc) (c.loop.invariant.step known);
}
