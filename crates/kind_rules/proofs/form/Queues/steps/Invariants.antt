use Rattle.std.proofs.Common.{◌≡◌, ◌-◌}
use Rattle.machine_text.specs.Terms.{entry_of}
use Rattle.law_induction.specs.Terms.{steps_done}
use Rattle.kind_rules.specs.Views.{queues_in}
use Rattle.kind_rules.proofs.form.Queues.steps.Given as goal

abbrev pub invariant-loop-i : goal.invariant-loop-i
invariant-loop-i l = steps_done (entry_of l.t) (l.n - l.i) (queues_in l.self) ≡ steps_done (entry_of l.t) l.n (queues_in l.fn.self)
