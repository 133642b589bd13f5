use Rattle.ledger.proofs.LedgerTexts.{read_apart}
use Rattle.ledger.proofs.laws.versions_read_apart.Goals as goal

pub returns : goal.returns
returns c = read_apart
