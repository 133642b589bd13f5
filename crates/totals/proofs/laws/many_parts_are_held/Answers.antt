use Rattle.totals.proofs.TrunkAndParts.{all_held, all_marks, all_open, all_complete, any_order}
use Rattle.totals.proofs.laws.many_parts_are_held.Goals as goal

pub returns-clause-held : goal.returns-clause-held
returns-clause-held c = λ root rs parts is_table. all_held root is_table rs parts

pub returns-clause-marks : goal.returns-clause-marks
returns-clause-marks c = λ root t rs parts m is_table. all_marks root is_table rs parts t m

pub returns-clause-left_open : goal.returns-clause-left_open
returns-clause-left_open c = λ root t rs parts is_table. all_open root is_table rs parts t

pub returns-clause-complete : goal.returns-clause-complete
returns-clause-complete c = λ root rs parts is_table. all_complete root is_table rs parts

pub returns-clause-order : goal.returns-clause-order
returns-clause-order c = λ root t rs parts others is_table. any_order root is_table rs parts others t
