use Rattle.std.proofs.Common.{◌+◌, ◌-◌, ◌*◌, ◌/◌, ◌%◌, ◌-ℤ◌, pos, subst, arith}
use Rattle.std.proofs.lemmas.Int.{ints}
use Rattle.law_turing.specs.Terms.{Tape}
use Rattle.tape.specs.Cells.{HoldsCells, IsInWindow}
use Rattle.tape.proofs.Sweeps.{window-stored}
use Rattle.tape.proofs.tape.Tape.window.Goals as goal

pub returns-clause-cells : goal.returns-clause-cells
returns-clause-cells c =
    let a = c.self.inside in
    subst (λ (t : Tape). HoldsCells t.ones (t.head -ℤ pos (a.bit % 16)) c.window_at.result) c.self.view_is
    (window-stored a.block (a.bit - a.bit % 16) a.left.items a.word a.right.items c.window_at.result _ (omega (arith, c.self.invariant.inside)) (omega (arith, ints)) c.window_at.ensures.cells)

pub returns-clause-at : goal.returns-clause-at
returns-clause-at c =
    let a = c.self.inside in
    subst (λ (t : Tape). IsInWindow (a.bit % 16) t.head) c.self.view_is
    (record { number = 4 * a.block + a.bit / 16; place = omega (arith, ints); inside = omega arith })
