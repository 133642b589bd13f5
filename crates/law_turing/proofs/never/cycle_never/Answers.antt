use Rattle.law_turing.proofs.Cycles.{cycle_never}
use Rattle.law_turing.proofs.never.cycle_never.Goals as goal

pub returns : goal.returns
returns c = cycle_never
