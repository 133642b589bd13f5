use Rattle.std.proofs.Common.{ℕ, ◌<◌}
use Rattle.cmd_parts.proofs.FolderAnswers.{StaysRow}
use Rattle.cmd_parts.proofs.answer.has_entries.Given as goal

-- the rows before the state stay
abbrev pub invariant-loop-q : goal.invariant-loop-q
invariant-loop-q l = (q : ℕ) → q < l.q → StaysRow l.t l.root q
