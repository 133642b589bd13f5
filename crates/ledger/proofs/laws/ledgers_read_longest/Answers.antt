use Rattle.ledger.proofs.LongestLists.{longest}
use Rattle.ledger.proofs.laws.ledgers_read_longest.Goals as goal

pub returns : goal.returns
returns c = longest
