use Rattle.std.proofs.Common.{◌≡◌, ◌<◌}
use Rattle.machine_text.specs.Terms.{entry_of}
use Rattle.cmd_lines.specs.Listed.{facing_right}
use Rattle.cmd_lines.proofs.ChangedTables.{IsNamed}
use Rattle.cmd_lines.proofs.normal.normal_form.Given as goal

-- the states below `named` have their names
abbrev pub invariant-loop-named : goal.invariant-loop-named
invariant-loop-named l = record {
  some : 0 < l.named;
  states : l.form.states ≡ l.fn.t.states;
  named : IsNamed l.named l.steps (facing_right (entry_of l.fn.t)) (entry_of l.form);
}
