-- How much of a link is received at once.
use Rattle.std.specs.Prelude.{ℕ}

-- the most bytes that one turn receives
abbrev pub piece_byte_limit : ℕ
piece_byte_limit = 4096
