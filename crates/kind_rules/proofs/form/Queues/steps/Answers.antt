use Rattle.std.proofs.Common.{◌≡◌, Some}
use Rattle.machine_text.specs.Terms.{entry_of}
use Rattle.law_induction.specs.Terms.{form_stepped}
use Rattle.kind_rules.specs.Views.{queues_in}
use Rattle.kind_rules.proofs.RuleLaws.{steps_step}
use Rattle.kind_rules.proofs.form.Queues.steps.Goals as goal

pub loop-i-preserved : goal.loop-i-preserved
loop-i-preserved c =
    let one : form_stepped (entry_of c.args.t.now) (queues_in c.loop-i.self) ≡ Some (queues_in c.step.new.self) = c.in_ok-step.ensures in
    steps_step (entry_of c.args.t.now) c.args.n c.loop-i.i (queues_in c.loop-i.self) (queues_in c.step.new.self) _ c.loop-i-test.true one c.loop-i.invariant
