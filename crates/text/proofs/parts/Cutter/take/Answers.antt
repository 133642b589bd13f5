use Rattle.std.proofs.lemmas.Grind.{common_steps}
use Rattle.std.proofs.Common.{rules, arith}
use Rattle.text.proofs.parts.Cutter.take.Goals as goal

-- answered by name, so that nothing is offered where an edit makes it false
pub overflow_sub-len : goal.overflow_sub-len
overflow_sub-len c = search rules steps 100000

pub returns-else-more-len-clause-ok : goal.returns-else-more-len-clause-ok
returns-else-more-len-clause-ok c = grind (arith, common_steps) steps 200000
