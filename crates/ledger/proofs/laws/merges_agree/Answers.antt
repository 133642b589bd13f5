use Rattle.ledger.proofs.Merged.{either_order}
use Rattle.ledger.proofs.laws.merges_agree.Goals as goal

pub returns : goal.returns
returns c = either_order
