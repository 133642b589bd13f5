use Rattle.std.proofs.Common.{◌∙◌, ap, sym}
use Rattle.law_turing.specs.Terms.{symbol_read}
use Rattle.tape.proofs.PackedCells.{symbol_read-stored}
use Rattle.tape.proofs.tape.Tape.read.Goals as goal

pub returns : goal.returns
returns c =
    let a = c.self.inside in
    c.symbol_at.ensures ∙ sym (symbol_read-stored a.block a.bit a.left.items a.word a.right.items c.self.invariant.inside) ∙ ap symbol_read c.self.view_is
