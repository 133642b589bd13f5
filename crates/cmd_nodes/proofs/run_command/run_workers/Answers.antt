use Rattle.std.proofs.lemmas.Result.{on_ok_weaker}
use Rattle.cmd_nodes.specs.inside.{IsSettled}
use Rattle.cmd_nodes.proofs.NodeRounds.{rounds_end}
use Rattle.cmd_nodes.proofs.run_command.run_workers.Goals as goal

pub returns-clause-ends : goal.returns-clause-ends
returns-clause-ends g c =
    on_ok_weaker c.run_rounds.result
    (rounds_end (IsSettled c.run_rounds.new.coordinator) g.N.Node.answers c.args.run.settling.now.rounds c.args.run.workers.items c.in_ok-stations.stations.items c.run_rounds.new.stations.items
    c.in_ok-stations.ensures)
    c.run_rounds.ensures.ends
