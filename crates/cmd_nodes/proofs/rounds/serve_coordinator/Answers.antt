use Rattle.cmd_nodes.proofs.rounds.serve_coordinator.Goals as goal

pub returns-in-Ok : goal.returns-in-Ok
returns-in-Ok g c = record { became = c.in-Ok.ensures.became; step = c.in-Ok.ensures.step }
