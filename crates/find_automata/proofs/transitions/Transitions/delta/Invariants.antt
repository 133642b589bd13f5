use Rattle.std.proofs.Common.{◌≡◌, ℕ, ◌<◌, length}
use Rattle.std.specs.Prelude.{slice_index}
use Rattle.find_automata.proofs.transitions.Transitions.delta.Given as goal

abbrev pub invariant-loop-number : goal.invariant-loop-number
invariant-loop-number l = (length l.delta ≡ 32) × ((k : ℕ) → slice_index l.delta k < l.size) × (slice_index l.delta 0 ≡ 0)
