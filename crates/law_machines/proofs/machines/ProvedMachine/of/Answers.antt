use Rattle.std.proofs.Common.{true, false, sym, ◌∙◌, ap, refl}
use Rattle.machine_text.specs.Terms.{table_of}
use Rattle.law_machines.specs.declared.machines.ProvedMachine.TheVariants.{Skelet10}
use Rattle.law_machines.proofs.Proved.{all_machines, machine_named, never_by_text, first_here, first_later, first_none, tested}
use Rattle.law_machines.proofs.machines.ProvedMachine.of.Goals as goal

pub returns-then-eq-clause-text : goal.returns-then-eq-clause-text
returns-then-eq-clause-text c =
    let same = tested _ _ _ _ _ true c.eq.ensures c.text-text.ensures.text c.text.ensures c.if-eq.true in
    machine_named _ _
    (c.loop-machine.invariant.first
    ∙ first_here all_machines c.loop-machine.machine-index Skelet10 _ c.loop-machine-test.true same)

pub returns-then-eq-clause-never : goal.returns-then-eq-clause-never
returns-then-eq-clause-never c =
    let same = tested _ _ _ _ _ true c.eq.ensures c.text-text.ensures.text c.text.ensures c.if-eq.true in
    let here = c.loop-machine.invariant.first
    ∙ first_here all_machines c.loop-machine.machine-index Skelet10 _ c.loop-machine-test.true same in
    never_by_text _ c.args.t.now (ap table_of (sym c.text-text.ensures.text) ∙ c.text-text.ensures.parses)
    ((machine_named _ _ here _).0 refl)

pub loop-machine-preserved : goal.loop-machine-preserved
loop-machine-preserved c = record {
  first =
      let other = tested _ _ _ _ _ false c.eq.ensures c.text-text.ensures.text c.text.ensures c.if-eq.false in
      c.loop-machine.invariant.first
      ∙ first_later all_machines c.loop-machine.machine-index Skelet10 _ c.loop-machine-test.true other;
}

pub returns-clause-text : goal.returns-clause-text
returns-clause-text c =
    machine_named _ _
    (c.loop-machine.invariant.first ∙ first_none all_machines c.loop-machine.machine-index _ c.loop-machine-test.false)
