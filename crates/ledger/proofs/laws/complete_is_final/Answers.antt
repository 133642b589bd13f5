use Rattle.ledger.proofs.Merged.{offer_is_final}
use Rattle.ledger.proofs.laws.complete_is_final.Goals as goal

pub returns : goal.returns
returns c = offer_is_final
