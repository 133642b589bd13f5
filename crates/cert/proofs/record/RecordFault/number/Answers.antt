use Rattle.std.proofs.Common.{rules}
use Rattle.cert.proofs.record.RecordFault.number.Goals as goal

pub returns-in-BadKind : goal.returns-in-BadKind
returns-in-BadKind c = search rules steps 100000
