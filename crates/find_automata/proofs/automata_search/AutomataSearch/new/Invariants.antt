use Rattle.std.proofs.Common.{◌≡◌, vec_len}
use Rattle.find_automata.proofs.automata_search.AutomataSearch.new.Given as goal

abbrev pub invariant-loop-level : goal.invariant-loop-level
invariant-loop-level l = vec_len l.levels ≡ l.level
