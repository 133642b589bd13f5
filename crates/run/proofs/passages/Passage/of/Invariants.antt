use Rattle.std.proofs.Common.{◌<◌, pos}
use Rattle.machine_text.specs.Terms.{entry_of}
use Rattle.run.specs.Steps.{LeavesSo}
use Rattle.run.proofs.passages.Passage.of.Given as goal

-- what was done so far leads to a cell of the window
abbrev pub invariant-loop-done : goal.invariant-loop-done
invariant-loop-done l = record {
  inside : l.now.at < 16;
  state : l.at_state.0 < l.fn.table.states;
  leads : LeavesSo (entry_of l.fn.table) l.fn.state.0 l.fn.window l.done l.at_state.0 l.now.cells (pos l.now.at);
}
