use Rattle.cmd_nodes.proofs.rounds.Station.take_round.Goals as goal

pub returns-in-Ok-clause-taken : goal.returns-in-Ok-clause-taken
returns-in-Ok-clause-taken g c = (c.work_for.new.self.worker, c.in_ok-work_for.ensures, c.in-Ok.ensures.became)
