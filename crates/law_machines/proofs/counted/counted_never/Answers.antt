use Rattle.law_machines.proofs.CountedLaws.{counted_never, stays_held}
use Rattle.law_machines.proofs.counted.counted_never.Goals as goal

pub returns : goal.returns
returns c = record { never = counted_never; held = stays_held }
