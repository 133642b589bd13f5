use Rattle.std.proofs.Common.{◌≡◌, Option, Some, None, sym, ◌∙◌, ap, refl, arith}
use Rattle.std.specs.Prelude.{IfSome}
use Rattle.machine_text.specs.declared.table.Sym.TheVariants.{Zero, One}
use Rattle.law_machines.specs.declared.counted.Transition.{Transition}
use Rattle.kind_counted.specs.Automata.{IsCount, no_exits}
use Rattle.std.proofs.lemmas.List.{get_or_default}
use Rattle.kind_counted.specs.declared.certificate.Exits.{Exits}
use Rattle.kind_counted.proofs.certificate.Automaton.get.Goals as goal

-- what is so of each transition, is so of one
if_some : (o : Option Transition) → ((t : Transition) → o ≡ Some t → IsCount t.count) → IfSome o (λ t. IsCount t.count)
if_some None each = tt
if_some (Some t) each = each t refl

pub returns-in-Zero-clause-count : goal.returns-in-Zero-clause-count
returns-in-Zero-clause-count c =
    let a = c.args.self.now in
    let q = c.args.state in
    let exits : Exits = c.index.result.now in
    if_some exits.zero (λ t is. (a.targets.each q Zero).count t (ap (λ (e : Exits). e.zero) (sym (c.index.ensures ∙ get_or_default a.states.items q exits no_exits (omega (arith, c.len.ensures)))) ∙ is))

pub returns-in-One-clause-count : goal.returns-in-One-clause-count
returns-in-One-clause-count c =
    let a = c.args.self.now in
    let q = c.args.state in
    let exits : Exits = c.index-in-One.result.now in
    if_some exits.one (λ t is. (a.targets.each q One).count t (ap (λ (e : Exits). e.one) (sym (c.index-in-One.ensures ∙ get_or_default a.states.items q exits no_exits (omega (arith, c.len.ensures)))) ∙ is))
