use Rattle.std.proofs.Common.{◌≡◌, ◌-◌, length}
use Rattle.std.specs.List.{range_with_len, filter_map}
use Rattle.machine_text.specs.Text.{fault_at, faults_of}
use Rattle.machine_text.proofs.grammar.leftmost_fault.Given as goal

-- the faults are those of the places that are left
abbrev pub invariant-loop-place : goal.invariant-loop-place
invariant-loop-place l =
    faults_of l.states l.text ≡ filter_map (fault_at l.states l.text) (range_with_len l.place (length l.text - l.place))
