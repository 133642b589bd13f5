use Rattle.std.proofs.Common.{◌∙◌, sym, arith}
use Rattle.tape.proofs.WordBits.{ones_here, ones_others, zeros_here, zeros_others, bit_inside}
use Rattle.tape.proofs.cell.with_symbols.Goals as goal

pub returns-in-Zero-clause-here : goal.returns-in-Zero-clause-here
returns-in-Zero-clause-here c = λ i less.
    zeros_here c.args.dir c.args.word c.up_to.result c.args.bit c.args.count c.lowest.result c.requires.some c.requires.inside c.lowest.ensures c.up_to.ensures (omega arith) i less (bit_inside c.args.dir c.args.bit c.args.count i c.requires.bit c.requires.inside less)
    ∙ sym c.in-Zero.is

pub returns-in-Zero-clause-others : goal.returns-in-Zero-clause-others
returns-in-Zero-clause-others c = λ j inside none.
    zeros_others c.args.dir c.args.word c.up_to.result c.args.bit c.args.count c.lowest.result c.requires.some c.requires.inside c.lowest.ensures c.up_to.ensures (omega arith) j inside none

pub returns-in-One-clause-here : goal.returns-in-One-clause-here
returns-in-One-clause-here c = λ i less.
    ones_here c.args.dir c.args.word c.up_to.result c.args.bit c.args.count c.lowest.result c.requires.some c.requires.inside c.lowest.ensures c.up_to.ensures i less (bit_inside c.args.dir c.args.bit c.args.count i c.requires.bit c.requires.inside less)
    ∙ sym c.in-One.is

pub returns-in-One-clause-others : goal.returns-in-One-clause-others
returns-in-One-clause-others c = λ j inside none.
    ones_others c.args.dir c.args.word c.up_to.result c.args.bit c.args.count c.lowest.result c.requires.some c.requires.inside c.lowest.ensures c.up_to.ensures j inside none
