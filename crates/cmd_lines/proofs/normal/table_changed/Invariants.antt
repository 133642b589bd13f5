use Rattle.std.proofs.Common.{◌≡◌}
use Rattle.machine_text.specs.Terms.{entry_of}
use Rattle.cmd_lines.proofs.ChangedTables.{AreChanged}
use Rattle.cmd_lines.proofs.normal.table_changed.Given as goal

-- the entries of the states before are those of the changed table
abbrev pub invariant-loop-q : goal.invariant-loop-q
invariant-loop-q l = record {
  states : l.new.states ≡ l.t.states;
  changed : AreChanged l.change (entry_of l.t) l.q (entry_of l.new);
}
