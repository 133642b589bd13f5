use Rattle.ledger.proofs.LongestLists.{beginning}
use Rattle.ledger.proofs.laws.beginnings_load.Goals as goal

pub returns : goal.returns
returns c = beginning
