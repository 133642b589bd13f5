-- How large a table may be, and how long its text.
use Rattle.std.specs.Prelude.{ℕ, ◌-◌, ◌*◌}

-- the greatest number of states
abbrev pub state_limit : ℕ
state_limit = 7

-- the bytes of the longest text: seven a state, less one
abbrev pub text_byte_limit : ℕ
text_byte_limit = 7 * state_limit - 1
