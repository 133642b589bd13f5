use Rattle.cmd_dispatch.proofs.host.Host.coord.Goals as goal

pub returns-in-Some : goal.returns-in-Some
returns-in-Some g c = rw c.in-Some.is c.coord_kept.ensures
