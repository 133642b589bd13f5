use Rattle.std.proofs.Common.{arith}
use Rattle.tape.proofs.Sweeps.{other_here, other_others}
use Rattle.tape.proofs.cell.with_window.Goals as goal

pub returns-clause-here : goal.returns-clause-here
returns-clause-here c = other_here c.args.word c.args.low c.args.cells (omega arith) c.requires.low

pub returns-clause-others : goal.returns-clause-others
returns-clause-others c = other_others c.args.word c.args.low c.args.cells (omega arith) c.requires.few
