use Rattle.ledger.proofs.WholeTree.{all_halting, all_never, all_ones, whole_tally, whole_champions, whole_ones_champions}
use Rattle.ledger.proofs.laws.complete_boards_hold_the_tree.Goals as goal

pub returns-clause-halting : goal.returns-clause-halting
returns-clause-halting c = all_halting

pub returns-clause-never : goal.returns-clause-never
returns-clause-never c = all_never

pub returns-clause-tally : goal.returns-clause-tally
returns-clause-tally c = whole_tally

pub returns-clause-champions : goal.returns-clause-champions
returns-clause-champions c = whole_champions

pub returns-clause-scores : goal.returns-clause-scores
returns-clause-scores c = all_ones

pub returns-clause-ones_champions : goal.returns-clause-ones_champions
returns-clause-ones_champions c = whole_ones_champions
