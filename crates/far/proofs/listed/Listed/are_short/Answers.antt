use Rattle.std.proofs.Common.{rules}
use Rattle.far.proofs.listed.Listed.are_short.Goals as goal

-- answered by name, so that nothing is offered where an edit makes it false
pub returns-then-rows-most : goal.returns-then-rows-most
returns-then-rows-most c = search rules steps 100000
