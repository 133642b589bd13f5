use Rattle.machine_text.specs.Packed.{entry_of}
use Rattle.std.proofs.lemmas.Grind.{common_steps}
use Rattle.std.proofs.Common.{arith}
use Rattle.machine_text.proofs.table.Table.get.Goals as goal

-- answered by name, so that nothing is offered where an edit makes it false
pub returns-clause-entry : goal.returns-clause-entry
unfolding entry_of
returns-clause-entry c = grind (arith, common_steps)
