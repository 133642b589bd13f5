-- How large the automata may be that are searched for.
use Rattle.std.specs.Prelude.{ℕ}

-- the most states of an automaton
abbrev pub largest_size : ℕ
largest_size = 16

-- how many transitions such an automaton has
abbrev pub most_moves : ℕ
most_moves = 32
