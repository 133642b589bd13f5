use Rattle.std.proofs.Common.{rules}
use Rattle.loops.proofs.search.Search.find.Goals as goal

-- answered by name, so that nothing is offered where an edit makes it false
pub found_within-found-requires-clause-limit : goal.found_within-found-requires-clause-limit
found_within-found-requires-clause-limit g c = search rules steps 100000

pub returns-clause-within : goal.returns-clause-within
returns-clause-within g c = search rules steps 1000000
