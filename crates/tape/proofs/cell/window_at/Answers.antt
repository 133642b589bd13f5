use Rattle.tape.proofs.Sweeps.{window_bits}
use Rattle.tape.proofs.cell.window_at.Goals as goal

pub returns-clause-cells : goal.returns-clause-cells
returns-clause-cells c = window_bits c.args.word c.args.low
