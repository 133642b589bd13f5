use Rattle.std.proofs.Common.{◌≡◌, ◌-◌, ◌++◌, []}
use Rattle.law_machines.specs.Terms.{repeat}
use Rattle.law_induction.specs.Terms.{word_symbols}
use Rattle.kind_rules.proofs.sides.spelled_often.Given as goal

abbrev pub invariant-loop-i : goal.invariant-loop-i
invariant-loop-i l = l.row.items ++ repeat (word_symbols l.word) (l.copies - l.i) [] ≡ repeat (word_symbols l.word) l.copies []
