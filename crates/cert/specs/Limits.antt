-- How long records may be.
use Rattle.std.specs.Prelude.{ℕ}

-- the most bytes of a record's text
abbrev pub record_byte_limit : ℕ
record_byte_limit = 65000
