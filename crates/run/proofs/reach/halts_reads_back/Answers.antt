use Rattle.run.proofs.HaltingClaims.{halts_back, halts_are_fields}
use Rattle.run.proofs.reach.halts_reads_back.Goals as goal

pub returns-clause-back : goal.returns-clause-back
returns-clause-back c = halts_back

pub returns-clause-fields : goal.returns-clause-fields
returns-clause-fields c = halts_are_fields
