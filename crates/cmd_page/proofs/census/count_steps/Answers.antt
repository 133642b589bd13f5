use Rattle.cmd_page.proofs.census.count_steps.Goals as goal

pub returns-in-Halts : goal.returns-in-Halts
returns-in-Halts c = rw c.in-Halts.is c.count_power.ensures

pub count_power-requires-clause-room : goal.count_power-requires-clause-room
count_power-requires-clause-room c = let room = c.requires.room in rw c.in-Halts.is at room
