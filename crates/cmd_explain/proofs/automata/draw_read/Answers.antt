use Rattle.std.proofs.Common.{refl}
use Rattle.cmd_explain.proofs.automata.draw_read.Goals as goal

pub returns-in_ok-append_fault_comment-in-Err : goal.returns-in_ok-append_fault_comment-in-Err
returns-in_ok-append_fault_comment-in-Err c = rw c.in-Err.is (_, _, (refl, refl), refl, c.in_ok-append_fault_comment-in-Err.ensures)
