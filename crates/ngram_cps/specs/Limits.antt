-- How large position sets may be.
use Rattle.std.specs.Prelude.{ℕ}

-- the greatest width of words
abbrev pub width_limit : ℕ
width_limit = 8

-- the most bytes of the three lists together, with their commas
abbrev pub list_byte_limit : ℕ
list_byte_limit = 49152
