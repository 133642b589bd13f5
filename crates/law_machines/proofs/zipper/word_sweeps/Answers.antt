use Rattle.law_machines.proofs.RuleLaws.{sweep_right, sweep_left}
use Rattle.law_machines.proofs.zipper.word_sweeps.Goals as goal

pub returns : goal.returns
returns c = record { right = sweep_right; left = sweep_left }
