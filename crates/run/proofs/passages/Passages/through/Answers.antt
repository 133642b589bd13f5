use Rattle.std.proofs.Common.{◌≡◌, ◌/◌, ◌<◌, ℕ, length, sym, ◌∙◌, subst, arith}
use Rattle.machine_text.specs.Terms.{Packed, entry_of}
use Rattle.tape.specs.declared.window.Window.{Window}
use Rattle.run.specs.Steps.{IsRight, TellsPassage, window_numbered}
use Rattle.run.specs.declared.passages.Known.{Known}
use Rattle.run.specs.declared.passages.Known.TheVariants.{Leaves}
use Rattle.run.proofs.passages.Passages.through.Goals as goal

pub returns-in-Leaves-clause-passes : goal.returns-in-Leaves-clause-passes
returns-in-Leaves-clause-passes c =
    let size = c.self.invariant.0 in
    let number = c.in_ok-number.ensures in
    let k = c.in_ok-number.number in
    let p = c.in-Leaves.passage in
    let held : IsRight c.self.inside.table k (Leaves p) = subst (λ (known : Known). IsRight c.self.inside.table k known) (sym c.index.ensures ∙ c.in-Leaves.is) (c.self.invariant.1.each k c.index.result.now (omega (arith, size, number.small))) in
    subst (λ (t : Packed). TellsPassage (entry_of t) c.args.state.0 c.args.window p) c.self.view_is
    (subst (λ (w : Window). TellsPassage (entry_of c.self.inside.table) c.args.state.0 w p) number.window_is
    (subst (λ (q : ℕ). TellsPassage (entry_of c.self.inside.table) q (window_numbered k) p) number.state_is held))
