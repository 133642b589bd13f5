use Rattle.std.proofs.Common.{◌≡◌, ◌++◌, take}
use Rattle.far.specs.Texts.{rows_text}
use Rattle.far.proofs.numbers.append_rows.Given as goal

abbrev pub invariant-loop-k : goal.invariant-loop-k
invariant-loop-k l = l.out.items ≡ l.fn.out.items ++ rows_text (take l.k l.rows)
