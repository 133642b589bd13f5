use Rattle.ledger.proofs.LedgerTexts.{whole_ledger}
use Rattle.ledger.proofs.laws.ledgers_load_whole.Goals as goal

pub returns : goal.returns
returns c = whole_ledger
