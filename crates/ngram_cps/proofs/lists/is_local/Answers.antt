use Rattle.std.proofs.lemmas.Grind.{common_steps}
use Rattle.std.proofs.Common.{arith}
use Rattle.ngram_cps.proofs.lists.is_local.Goals as goal

-- answered by name, so that nothing is offered where an edit makes it false
pub returns-then-is_digit : goal.returns-then-is_digit
returns-then-is_digit c = grind (arith, common_steps)
