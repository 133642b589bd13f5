use Rattle.law_machines.proofs.RuleLaws.{same_blank, same_word, same_repeat, same_right, same_left}
use Rattle.law_machines.proofs.zipper.blank_ends.Goals as goal

pub returns : goal.returns
returns c = record { blank = same_blank; word = same_word; words = same_repeat; right = same_right; left = same_left }
