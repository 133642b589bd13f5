use Rattle.std.proofs.Common.{◌≡◌}
use Rattle.std.proofs.Math.ListN.{drop}
use Rattle.machine_text.specs.Terms.{text_of}
use Rattle.law_machines.proofs.Proved.{first_named, machine_of}
use Rattle.law_machines.proofs.machines.ProvedMachine.of.Given as goal

abbrev pub invariant-loop-machine : goal.invariant-loop-machine
invariant-loop-machine l = record {
  first : machine_of (text_of l.fn.t) ≡ first_named (drop l.machine-index l.machine-items) (text_of l.fn.t);
}
