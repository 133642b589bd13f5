use Rattle.ledger.proofs.WholeTree.{one_tally, one_list_of_champions, one_list_of_ones_champions}
use Rattle.ledger.proofs.laws.trees_are_told_once.Goals as goal

pub returns-clause-tally : goal.returns-clause-tally
returns-clause-tally c = one_tally

pub returns-clause-champions : goal.returns-clause-champions
returns-clause-champions c = one_list_of_champions

pub returns-clause-ones_champions : goal.returns-clause-ones_champions
returns-clause-ones_champions c = one_list_of_ones_champions
