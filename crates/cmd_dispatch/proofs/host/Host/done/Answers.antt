use Rattle.cmd_dispatch.proofs.host.Host.done.Goals as goal

pub returns-in-Some : goal.returns-in-Some
returns-in-Some g c = rw c.in-Coord.is (rw c.in-Some.is c.serve.ensures)

pub returns-in-None : goal.returns-in-None
returns-in-None g c = rw c.in-Coord.is (rw c.in-None.is c.coord.ensures)

pub returns-in-Run : goal.returns-in-Run
returns-in-Run g c = rw c.in-Run.is c.run.ensures

pub returns-in-Loop : goal.returns-in-Loop
returns-in-Loop g c = rw c.in-Loop.is c.run-in-Loop.ensures
