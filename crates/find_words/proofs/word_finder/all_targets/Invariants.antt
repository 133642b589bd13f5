use Rattle.std.proofs.Common.{◌≡◌, ℕ, ◌<◌, length}
use Rattle.std.specs.Prelude.{slice_index}
use Rattle.find_words.proofs.word_finder.all_targets.Given as goal

abbrev pub invariant-loop-k : goal.invariant-loop-k
invariant-loop-k l = (length l.delta ≡ 32) × ((k : ℕ) → slice_index l.delta k < l.size)
