-- How long lines may be, and the fields of a record.
use Rattle.std.specs.Prelude.{ℕ}

-- the most bytes of a line, without its newline
abbrev pub line_byte_limit : ℕ
line_byte_limit = 65536

-- the most bytes of a record's fields, with their spaces
abbrev pub field_byte_limit : ℕ
field_byte_limit = 49200
