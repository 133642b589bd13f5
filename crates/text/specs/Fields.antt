-- The parts of a text, numbers in decimal, the fields of a record, and the lines of a stream that comes in pieces.
use Rattle.std.specs.Prelude.{ℕ, ◌==◌, List, if◌then◌else◌, [], ◌∷◌, Option, Some, None, option_map, ◌+◌, ◌-◌, ◌*◌, ◌^◌, ◌&&◌, nat_lt, fold, decimal, ◌≤◌, ◌++◌, length, All, Result, Ok, Err, ◌≡◌, ◌≢◌, nat_le, IfSome}
use Rattle.std.specs.List.{slice_split}
use Rattle.std.specs.Str.{bytes_eq}
use Rattle.std.specs.Borrow.{Bor}
use Rattle.text.specs.declared.fields.FieldFault.{FieldFault}
use Rattle.text.specs.declared.fields.FieldFault.TheVariants.{BadNumber}
use Rattle.text.specs.Limits.{field_byte_limit, line_byte_limit}

-- The parts of a text between its separators, of which each is the same byte.

-- one more than the text has such bytes
abbrev pub parts_of : ℕ → List ℕ → List (List ℕ)
parts_of byte text = slice_split (λ b. b == byte) text

-- A text cut at the first byte of a kind.

-- what stands before the byte's first place and what stands behind it; none where the byte has no place
abbrev pub cut_at : ℕ → List ℕ → Option (List ℕ × List ℕ)
cut_at byte [] = None
cut_at byte (b ∷ text) = if b == byte then Some ([], text) else option_map (λ cut. (b ∷ cut.0, cut.1))
    (cut_at byte text)

-- Numbers in decimal. Bytes are their ASCII codes: 48 is `0`.

-- what a row of digits is worth in base ten
abbrev pub worth_of : List ℕ → ℕ
worth_of digits = fold (λ n b. 10 * n + (b - 48)) 0 digits

-- the number of which a text is the decimal form: no sign, no leading zero, and at most 64 bits
unfoldable pub decimal_value : List ℕ → Option ℕ
decimal_value text = if nat_lt (worth_of text) (2 ^ 64) && bytes_eq (decimal (worth_of text)) text then Some
    (worth_of text) else None

-- The fields of a record: the parts of its text behind its kind, as they are read and written. Bytes are their ASCII
-- codes: 32 is the space.

-- what is made of a field that has to name something: a number, or a side
abbrev pub with_value : {A B : Type 0} → Option A → (A → Result B FieldFault) → Result B FieldFault
with_value None made = Err BadNumber
with_value (Some x) made = made x

-- what is made of what was read
abbrev pub made_of : {A B : Type 0} → (A → B) → Result A FieldFault → Result B FieldFault
made_of made (Ok x) = Ok (made x)
made_of made (Err fault) = Err fault

-- each byte of a field is above the space: so it has neither a space nor a newline
abbrev pub IsField : List ℕ → Type 0
IsField text = All (λ byte. 33 ≤ byte) text

-- fields as they are written, each behind a space
abbrev pub spaced : List (List ℕ) → List ℕ
spaced [] = []
spaced (field ∷ fields) = 32 ∷ (field ++ spaced fields)

-- fields that a record may have: each is one, and they aren't too long together
pub record AreFields (fields : List (List ℕ)) : Type 0 where
  pub each : All IsField fields
  pub short : length (spaced fields) ≤ field_byte_limit

-- The lines of a stream that comes in pieces: what stands before each newline, the byte 10. Of a line that is
-- longer than the limit only that is told.
abbrev pub HasNoNewline : List ℕ → Type 0
HasNoNewline text = All (λ byte. byte ≢ 10) text

-- the text begins with a whole line, behind which the rest stands
pub record BeginsWithLine (text line rest : List ℕ) : Type 0 where
  pub is : text ≡ line ++ (10 ∷ rest)
  pub one_line : HasNoNewline line

-- lines, each with its newline
abbrev pub joined : List (List ℕ) → List ℕ
joined [] = []
joined (line ∷ lines) = line ++ (10 ∷ joined lines)

-- a line as far as it has come: its bytes, or that there are too many
abbrev pub BoundedLine : Type 0
BoundedLine = Option (List ℕ)

abbrev pub bounded_line : List ℕ → BoundedLine
bounded_line bytes = if nat_le (length bytes) line_byte_limit then Some bytes else None

-- with more bytes of the same line
abbrev pub with_more : BoundedLine → List ℕ → BoundedLine
with_more None more = None
with_more (Some bytes) more = bounded_line (bytes ++ more)

-- no more bytes than the limit
abbrev pub IsShort : BoundedLine → Type 0
IsShort line = IfSome line (λ bytes. length bytes ≤ line_byte_limit)

-- a piece cut at its first newline, which stands in neither part; nothing follows where there is no newline
abbrev pub IsCut : List ℕ → List ℕ → Option (Bor (List ℕ)) → Type 0
IsCut piece line None = HasNoNewline piece × (line ≡ piece)
IsCut piece line (Some rest) = BeginsWithLine piece line rest.now
