use Rattle.std.proofs.Common.{sym, subst}
use Rattle.cmd_nodes.specs.Served.{Becomes}
use Rattle.cmd_nodes.proofs.NodeRounds.{became_more}
use Rattle.cmd_nodes.proofs.coord.take_turns.Goals as goal
use Rattle.cmd_nodes.proofs.coord.take_turns.Goals.{else-loop-test, then-loop-test+in_ok-take_turn+then-eq}

pub loop-preserved : goal.loop-preserved
loop-preserved g c = record {
  became = became_more g.N.Node.answers c.args.node.now c.loop.node c.take_turn.new.node c.loop.invariant.became c.in_ok-take_turn.ensures.became;
  step = λ known. c.in_ok-take_turn.ensures.step (c.loop.invariant.step known);
}

pub returns-clause-became : goal.returns-clause-became
returns-clause-became g c =
    elim c.loop-test.branch [
      | else-loop-test w ↦ subst (λ n. Becomes g.N.Node.answers c.args.node.now n) (sym w.node-is) c.loop.invariant.became
      | then-loop-test+in_ok-take_turn+then-eq w ↦
          subst (λ n. Becomes g.N.Node.answers c.args.node.now n) (sym w.node-is)
          (became_more g.N.Node.answers c.args.node.now c.loop.node w.take_turn.new.node c.loop.invariant.became w.in_ok-take_turn.ensures.became)
    ]
