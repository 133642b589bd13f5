use Rattle.ledger.proofs.LedgerTexts.{cut_to_kept}
use Rattle.ledger.proofs.laws.kept_bytes_load.Goals as goal

pub returns : goal.returns
returns c = cut_to_kept
