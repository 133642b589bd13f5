use Rattle.std.proofs.Common.{sum_by, ap, ◌∙◌, arith}
use Rattle.std.specs.FinSet as set
use Rattle.law_turing.specs.Terms.{Tape}
use Rattle.tape.specs.inside.{word_ones}
use Rattle.tape.proofs.PackedCells.{len-stored}
use Rattle.tape.proofs.tape.Tape.ones.Goals as goal

pub returns : goal.returns
returns c =
    let a = c.self.inside in
    let whole = len-stored a.block a.bit a.left.items a.word a.right.items in
    let same = ap (λ (t : Tape). set.len t.ones) c.self.view_is in
    let left = c.ones_on.ensures.ones ∙ ap (sum_by word_ones) c.deref.ensures.value in
    let right = c.ones_on-2.ensures.ones ∙ ap (sum_by word_ones) c.deref-2.ensures.value in
    omega (arith, left, c.ones_in.ensures.ones, right, whole, same)
