use Rattle.std.proofs.Common.{◌∙◌, ap, sym}
use Rattle.law_turing.specs.Terms.{Tape, written}
use Rattle.tape.proofs.PackedCells.{written-stored}
use Rattle.tape.proofs.tape.Tape.write.Goals as goal

pub returns : goal.returns
returns c =
    let a = c.self.inside in
    sym (written-stored a.block a.bit a.left.items a.word _ a.right.items c.args.s c.self.invariant.inside c.with_symbol-self-inside.ensures.here c.with_symbol-self-inside.ensures.others)
    ∙ ap (λ (t : Tape). written t c.args.s) c.self.view_is
