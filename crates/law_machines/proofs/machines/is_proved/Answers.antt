use Rattle.law_machines.proofs.Proved.{some_named, some_never}
use Rattle.law_machines.proofs.machines.is_proved.Goals as goal

pub returns-clause-text : goal.returns-clause-text
returns-clause-text c = some_named c.of.result c.args.t.now c.of.ensures.text c.is_some.result c.is_some.ensures

pub returns-clause-never : goal.returns-clause-never
returns-clause-never c = some_never c.of.result c.args.t.now c.of.ensures.never c.is_some.result c.is_some.ensures
