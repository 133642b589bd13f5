use Rattle.std.proofs.Common.{◌≡◌, ◌≤◌, ◌*◌, sum_by, take}
use Rattle.tape.specs.inside.{word_ones}
use Rattle.tape.proofs.cell.ones_on.Given as goal

abbrev pub invariant-loop-word : goal.invariant-loop-word
invariant-loop-word l = (l.ones ≡ sum_by word_ones (take l.word-index l.side)) × (l.ones ≤ 64 * l.word-index)
