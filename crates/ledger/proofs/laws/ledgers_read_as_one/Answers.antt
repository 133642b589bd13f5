use Rattle.ledger.proofs.LongestLists.{reads_as_one, reads_in_one}
use Rattle.ledger.proofs.laws.ledgers_read_as_one.Goals as goal

pub returns-clause-records : goal.returns-clause-records
returns-clause-records c = reads_as_one

pub returns-clause-version : goal.returns-clause-version
returns-clause-version c = reads_in_one
