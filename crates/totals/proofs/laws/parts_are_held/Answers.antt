use Rattle.totals.proofs.TrunkAndParts.{both_held, both_open, one_opens, both_marks, one_marks, closed_within}
use Rattle.totals.proofs.Wholes.{both_tally}
use Rattle.totals.proofs.laws.parts_are_held.Goals as goal

pub returns-clause-held : goal.returns-clause-held
returns-clause-held c = λ root r rs ps is_table held part. both_held root r rs is_table held part.is_open ps part.held

pub returns-clause-left_open : goal.returns-clause-left_open
returns-clause-left_open c = λ root r t rs ps is_table held part. both_open root r rs is_table held part.is_open ps part.held t

pub returns-clause-once : goal.returns-clause-once
returns-clause-once c = λ root r t rs ps is_table held part. one_opens root r rs is_table held part.is_open ps part.held t

pub returns-clause-marks : goal.returns-clause-marks
returns-clause-marks c = λ root r t rs ps m is_table held part. both_marks root r rs is_table held part.is_open ps part.held t m

pub returns-clause-apart : goal.returns-clause-apart
returns-clause-apart c = λ root r t rs ps is_table held part. one_marks root r rs is_table held part.is_open ps part.held t

pub returns-clause-tally : goal.returns-clause-tally
returns-clause-tally c = λ root r rs ps a b is_table held part. both_tally root r rs is_table held part.is_open ps part.held a b

pub returns-clause-closed : goal.returns-clause-closed
returns-clause-closed c = λ root r t rs ps is_table held part. closed_within root r rs is_table held part.is_open ps part.held t
