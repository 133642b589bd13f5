use Rattle.std.proofs.Common.{◌≡◌, ℕ, ◌/◌, ◌%◌, ◌<◌, get_or}
use Rattle.machine_text.proofs.grammar.bars_stand.Given as goal

-- the bars of the rows before this one stand
abbrev pub invariant-loop-row : goal.invariant-loop-row
invariant-loop-row l = (i : ℕ) → i % 7 ≡ 6 → i / 7 < l.row → get_or l.text i 0 ≡ 95
