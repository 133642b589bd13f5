-- How large automata may be, and what follows from that.
use Rattle.std.specs.Prelude.{ℕ, ◌+◌, ◌-◌, ◌*◌, ◌/◌}
use Rattle.machine_text.specs.Terms.{state_limit}

-- the most states of the first automaton
abbrev pub size_limit : ℕ
size_limit = 16

-- the bits of the numbers in which sets are kept
abbrev pub word_bits : ℕ
word_bits = 128

-- the most numbers of delta
abbrev pub move_limit : ℕ
move_limit = 2 * size_limit

-- the most pairs of a state of the first automaton and one of the machine; so a set has up to one bit more
abbrev pub pair_limit : ℕ
pair_limit = size_limit * state_limit

-- the most rows
abbrev pub row_limit : ℕ
row_limit = 2 * pair_limit

-- the most digits of a set in hexadecimal, of four bits each
abbrev pub digit_limit : ℕ
digit_limit = pair_limit / 4 + 1

-- the most bytes of delta, rows and keep, each behind a space, and each row with a comma
abbrev pub number_byte_limit : ℕ
number_byte_limit = 1 + move_limit + (1 + row_limit * (digit_limit + 1)) + (1 + digit_limit)

-- the same of automata whose second one has its edges listed: the most states of the first
abbrev pub listed_size_limit : ℕ
listed_size_limit = 4096

-- the most pairs of a state of the first automaton and one of the machine
abbrev pub listed_pair_limit : ℕ
listed_pair_limit = listed_size_limit * state_limit

-- the most bytes of m, delta, the rows and keep together in a record of 65,000 bytes: the others are the 7n - 1 of a
-- table of n states, the letters of the kind and of the side, and six spaces
abbrev pub listed_byte_limit : ℕ → ℕ
listed_byte_limit n = 64993 - 7 * n
