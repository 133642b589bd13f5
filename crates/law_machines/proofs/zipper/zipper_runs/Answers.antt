use Rattle.law_machines.proofs.RuleLaws.{describes_steps, halts_before, describes_start}
use Rattle.law_machines.proofs.zipper.zipper_runs.Goals as goal

pub returns : goal.returns
returns c = record { some = describes_steps; none = halts_before; blank = describes_start }
