use Rattle.std.proofs.Common.{rules}
use Rattle.wire.proofs.lines.Lines.next.Goals as goal

pub returns-clause-some : goal.returns-clause-some
returns-clause-some c = search rules steps 1000000
