use Rattle.ledger.proofs.LongestLists.{offers_are_held}
use Rattle.ledger.proofs.laws.offers_are_held.Goals as goal

pub returns : goal.returns
returns c = offers_are_held
