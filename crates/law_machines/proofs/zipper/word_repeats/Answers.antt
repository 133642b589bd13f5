use Rattle.law_machines.proofs.RuleLaws.{repeat_last, repeat_swap, repeat_turned}
use Rattle.law_machines.proofs.zipper.word_repeats.Goals as goal

pub returns : goal.returns
returns c = record { last = repeat_last; swapped = repeat_swap; turned = repeat_turned }
