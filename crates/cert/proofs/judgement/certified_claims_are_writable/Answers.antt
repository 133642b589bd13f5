use Rattle.cert.proofs.RecordTexts.{certified_writable, certified_made}
use Rattle.cert.proofs.judgement.certified_claims_are_writable.Goals as goal

pub returns-clause-writable : goal.returns-clause-writable
returns-clause-writable c = certified_writable

pub returns-clause-made : goal.returns-clause-made
returns-clause-made c = certified_made
