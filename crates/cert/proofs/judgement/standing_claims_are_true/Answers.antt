use Rattle.cert.proofs.Claims.{standing_is_true}
use Rattle.cert.proofs.judgement.standing_claims_are_true.Goals as goal

pub returns : goal.returns
returns c = standing_is_true
