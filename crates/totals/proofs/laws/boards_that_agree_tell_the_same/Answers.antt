use Rattle.totals.proofs.ToldRecords.{same_status, same_tally, same_champions, same_ones_champions, same_holdouts}
use Rattle.totals.proofs.laws.boards_that_agree_tell_the_same.Goals as goal

pub returns-clause-status : goal.returns-clause-status
returns-clause-status c = same_status

pub returns-clause-tally : goal.returns-clause-tally
returns-clause-tally c = same_tally

pub returns-clause-champions : goal.returns-clause-champions
returns-clause-champions c = same_champions

pub returns-clause-ones_champions : goal.returns-clause-ones_champions
returns-clause-ones_champions c = same_ones_champions

pub returns-clause-holdouts : goal.returns-clause-holdouts
returns-clause-holdouts c = same_holdouts
