use Rattle.std.proofs.Common.{rules}
use Rattle.cert.proofs.certificate.OwnedCertificate.lent.Goals as goal

pub returns-in-Halts : goal.returns-in-Halts
returns-in-Halts c = search rules steps 1000000
