use Rattle.ledger.proofs.LedgerTexts.{grows}
use Rattle.ledger.proofs.laws.ledgers_grow.Goals as goal

pub returns : goal.returns
returns c = grows
