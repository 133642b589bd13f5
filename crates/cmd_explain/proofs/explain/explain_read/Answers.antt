use Rattle.cmd_explain.proofs.explain.explain_read.Goals as goal

pub returns-in-Ok : goal.returns-in-Ok
returns-in-Ok c = rw c.in-Ok.is c.explain_record.ensures
