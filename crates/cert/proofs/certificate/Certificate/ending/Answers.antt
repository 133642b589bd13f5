use Rattle.std.proofs.Common.{rules}
use Rattle.cert.proofs.certificate.Certificate.ending.Goals as goal

-- answered by name, so that nothing is offered where an edit makes it false
pub returns-in-Halts : goal.returns-in-Halts
returns-in-Halts c = search rules steps 100000
