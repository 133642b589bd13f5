-- What only the code needs: the text of a table byte by byte as it is written, and entry by entry as it is read; and the number
-- that several bytes are.
use Rattle.std.specs.Prelude.{ℕ, ◌+◌, ◌*◌, ◌/◌, ◌%◌, ◌==◌, ◌&&◌, Bool, if◌then◌else◌, List, [], ◌∷◌, Option, Some, None, slice_index, slice_set}
use Rattle.machine_text.specs.declared.table.Entry.{Entry}
use Rattle.machine_text.specs.Packed.{Packed, symbol_of, code_of, entry_of}
use Rattle.machine_text.specs.Text.{symbol_byte, direction_byte, may_begin, may_direct, may_end, entry_named}

-- the bytes of an entry one by one, and the byte at a place of the text, whose rows are seven bytes apart
abbrev pub entry_byte : Option Entry → ℕ → ℕ
entry_byte None column = 45
entry_byte (Some e) column =
    if column == 0 then symbol_byte e.write
    else if column == 1 then direction_byte e.dir
    else 65 + e.next.0

unfoldable pub byte_at : Packed → ℕ → ℕ
byte_at p i =
    if i % 7 == 6 then 95
    else entry_byte (entry_of p (i / 7) (symbol_of (i % 7 / 3))) (i % 7 % 3)

-- bytes with those of an entry from a place on
abbrev pub with_entry_bytes : List ℕ → ℕ → Option Entry → List ℕ
with_entry_bytes bytes i o =
    slice_set (slice_set (slice_set bytes i (entry_byte o 0)) (i + 1) (entry_byte o 1)) (i + 2) (entry_byte o 2)

-- whether the three bytes from a place on may be an entry's, and the code of the entry that they name then
abbrev pub entry_fits : ℕ → List ℕ → ℕ → Bool
entry_fits n text i =
    let begun = slice_index text i in
    may_begin begun && (may_direct begun (slice_index text (i + 1)) && may_end n begun (slice_index text (i + 2)))

abbrev pub code_at : ℕ → List ℕ → ℕ → Option ℕ
code_at n text i = if entry_fits n text i then Some (code_of (entry_named n text i)) else None

-- bytes as the digits of one number, the first of them highest, behind the digits of another number or alone
abbrev pub word_behind : ℕ → List ℕ → ℕ
word_behind n [] = n
word_behind n (b ∷ bs) = word_behind (256 * n + b) bs

abbrev pub word_of : List ℕ → ℕ
word_of bytes = word_behind 0 bytes
