use Rattle.std.proofs.Common.{◌≡◌, ◌-◌, ◌++◌}
use Rattle.law_induction.specs.Terms.{symbols_in, word_symbols}
use Rattle.kind_rules.proofs.numbers.spell.Given as goal

abbrev pub invariant-loop-i : goal.invariant-loop-i
invariant-loop-i l = l.row.items ++ symbols_in (63 - l.i) l.rest ≡ l.fn.row.items ++ word_symbols l.word
