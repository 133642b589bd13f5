-- How much of a text is kept while it is loaded in pieces.
use Rattle.std.specs.Prelude.{ℕ}

-- the bytes of a first line: more than a header has
abbrev pub header_byte_limit : ℕ
header_byte_limit = 64
