use Rattle.std.proofs.Common.{◌∙◌, ap, sym}
use Rattle.std.specs.Int.{w16}
use Rattle.std.proofs.lemmas.Nat.Bits.{bit_at_set_same, bit_at_set_other, bit_at_clear_same, bit_at_clear_other}
use Rattle.tape.specs.Cells.{bit_symbol}
use Rattle.tape.proofs.window.Window.write.Goals as goal

pub returns-in-Zero-clause-here : goal.returns-in-Zero-clause-here
returns-in-Zero-clause-here c = ap bit_symbol (bit_at_clear_same w16 c.args.self.now.cells c.args.self.now.at c.requires) ∙ sym c.in-Zero.is

pub returns-in-Zero-clause-others : goal.returns-in-Zero-clause-others
returns-in-Zero-clause-others c = bit_at_clear_other w16 c.args.self.now.cells c.args.self.now.at c.requires

pub returns-in-One-clause-here : goal.returns-in-One-clause-here
returns-in-One-clause-here c = ap bit_symbol (bit_at_set_same w16 c.args.self.now.cells c.args.self.now.at c.requires) ∙ sym c.in-One.is

pub returns-in-One-clause-others : goal.returns-in-One-clause-others
returns-in-One-clause-others c = λ i within. bit_at_set_other w16 c.args.self.now.cells c.args.self.now.at c.requires i
