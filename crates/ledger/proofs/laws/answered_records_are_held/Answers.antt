use Rattle.ledger.proofs.Claims.{answered}
use Rattle.ledger.proofs.laws.answered_records_are_held.Goals as goal

pub returns : goal.returns
returns c = answered
