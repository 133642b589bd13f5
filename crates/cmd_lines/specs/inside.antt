-- For the code alone.
use Rattle.std.specs.Prelude.{◌≡◌, ℕ, suc, ◌+◌, ◌-◌, ◌<◌, ◌≤◌, ◌==◌, ◌&&◌, nat_le, ltb, if◌then◌else◌, List, [], ◌∷◌, ◌++◌, length, map, Option, Some, None, flat_map}
use Rattle.std.specs.Borrow.{Bor}
use Rattle.std.specs.Io.KnownBytes.{Consumes, Appends}
use Rattle.machine_text.specs.declared.table.Sym.{Sym}
use Rattle.machine_text.specs.declared.table.Entry.{Entry}
use Rattle.machine_text.specs.Terms.{Packed, filled}
use Rattle.law_turing.specs.Terms.{Machine, mirrored_entry}
use Rattle.text.specs.Terms.{BoundedLine, HasNoNewline, bounded_line, joined}
use Rattle.cmd_options.specs.declared.options.Listing.{Listing}
use Rattle.cmd_options.specs.declared.ended.Outcome.{Outcome}
use Rattle.cmd_options.specs.declared.ended.Outcome.TheVariants.{Accepted}
use Rattle.cert.specs.Terms.{recorded}
use Rattle.cert.specs.declared.record.Record.{Record}
use Rattle.cmd_lines.specs.Listed.{Found, ArePrinted, IsFoundIn, alone, first_ones, found_line, of_record, tables_of, named_entry, columns, words, tables_in}
use Rattle.cmd_lines.specs.declared.normal.Change.{Change}
use Rattle.cmd_lines.specs.declared.normal.Change.TheVariants.{Mirrored, Lowered}
use Rattle.cmd_lines.specs.Lines.{AreOneLineEach, HasTakenLines, TakesMore}
use Rattle.cmd_lines.specs.Stream.{IsSaidToFirst, AreTakenBy, first_fault, SaysAnswer}

-- What only the code needs: how far a text is gone through.

-- what is left of a text
abbrev pub words_left : Option (Bor (List ℕ)) → List (List ℕ)
words_left None = []
words_left (Some rest) = words rest.now

abbrev pub columns_left : Option (Bor (List ℕ)) → List (List ℕ)
columns_left None = []
columns_left (Some rest) = columns rest.now

abbrev pub left_tables : Option (Bor (List ℕ)) → List Packed
left_tables None = []
left_tables (Some rest) = tables_in rest.now

abbrev pub size_left : Option (Bor (List ℕ)) → ℕ
size_left None = 0
size_left (Some rest) = suc (length rest.now)

-- what is found behind the tables that came: the first of each comes too, and is said
pub record PrintsFirst (came : List Packed) (found : List Found) (new : List Packed) (said : List ℕ) : Type 0 where
  pub came_new : new ≡ came ++ tables_of (first_ones came found)
  pub said_new : said ≡ flat_map found_line (first_ones came found)

-- and that, of what is printed of what is found
abbrev pub ListsFor : Listing → List Packed → List Found → List Packed → List ℕ → Type 0
ListsFor l came found new said =
    (printed : List Found) × ArePrinted l found printed × PrintsFirst came printed new said

-- what a line is found to have, as its record, if it is one, or by its tables
abbrev pub found_if : Option Record → List Packed → List Found
found_if None tables = map alone tables
found_if (Some r) tables = of_record (recorded r) ∷ []

abbrev pub ListsLine : {D : Type 0} → (D → Listing) → (D → List Packed) → D → BoundedLine → Outcome → D → List ℕ
    → Type 0
ListsLine {D} listing came old line o new said =
    (o ≡ Accepted) × (listing new ≡ listing old)
    × (found : List Found) × IsFoundIn (listing old).records line found
    × ListsFor (listing old) (came old) found (came new) said

-- the names where a state is named `low`, and those from there on up to it are named one higher; and the old names
abbrev pub lowered : ℕ → ℕ → ℕ → ℕ
lowered low state q = if q == state then low else if nat_le low q && ltb q state then q + 1 else q

abbrev pub raised : ℕ → ℕ → ℕ → ℕ
raised low state q = if q == low then state else if ltb low q && nat_le q state then q - 1 else q

-- the machine that a change makes of another
abbrev pub changed : Change → Machine → ℕ → Sym → Option Entry
changed Mirrored m q s = mirrored_entry (m q s)
changed (Lowered low state) m q s = named_entry (lowered low state) (m (raised low state q) s)

-- the states that a change names are among so many
abbrev pub FitsForm : Change → ℕ → Type 0
FitsForm Mirrored n = Unit {0}
FitsForm (Lowered low state) n = (low ≤ state) × (state < n)

-- a machine with an entry at a pair, if there is one
abbrev pub put_entry : Machine → ℕ → Sym → Option Entry → ℕ → Sym → Option Entry
put_entry m q s None p r = m p r
put_entry m q s (Some e) p r = filled m q s e p r

-- For the code: how far a piece, and what a reader has, is taken.

-- whatever was taken of a text before, it is so of the text up to what is left of the piece
abbrev pub TakesMoreUpTo : {D : Type 0} → (D → BoundedLine → D → Type 0) → List ℕ → List ℕ → BoundedLine → D
    → BoundedLine → D → Type 0
TakesMoreUpTo {D} Takes piece left begun old new_begun new =
    (start : D) → (text : List ℕ) → HasTakenLines Takes start text begun old → (done : List ℕ)
    × (text ++ piece ≡ done ++ left) × HasTakenLines Takes start done new_begun new

-- so much was read and taken, and so many bytes are left to read
pub record HasTakenFrom {D : Type 0} (Takes : D → BoundedLine → D → Type 0) (begun : BoundedLine) (old : D)
    (read : Option (List ℕ)) (limit : ℕ) (new_begun : BoundedLine) (new : D) (new_read : Option (List ℕ))
    (left : ℕ) : Type 0 where
  pub text : List ℕ
  pub consumed : Consumes read new_read text
  pub taken : TakesMore Takes text begun old new_begun new
  pub size : length text + left ≡ limit

-- what is said to a line comes behind what waits to be written, and the first outcome that isn't that all was accepted is kept
abbrev pub SaysBehind : {D : Type 0} → (D → BoundedLine → Outcome → D → List ℕ → Type 0) → D → Outcome → List ℕ
    → BoundedLine → D → Outcome → List ℕ → Type 0
SaysBehind {D} Takes old o waits line new new_o new_waits =
    (first : Outcome) × (more : List ℕ) × Takes old line first new more × (new_o ≡ first_fault o first)
    × (new_waits ≡ waits ++ more)

-- of a reader so much is read: the whole lines of that are taken, what was said to them is written, and a line is begun
pub record IsSaid {D : Type 0} (Takes : D → BoundedLine → Outcome → D → List ℕ → Type 0) (start : D)
    (read new_read held new_held : Option (List ℕ)) (begun : BoundedLine) (o : Outcome) (now : D) : Type 0 where
  pub text : List ℕ
  pub lines : List (List ℕ)
  pub last : List ℕ
  pub said : List ℕ
  pub consumed : Consumes read new_read text
  pub are_whole : AreOneLineEach lines
  pub one_line : HasNoNewline last
  pub is : text ≡ joined lines ++ last
  pub kept : begun ≡ bounded_line last
  pub taken : AreTakenBy Takes start lines o now said
  pub written : Appends held new_held said

-- of a reader the first lines are taken; what was said to them is written, but for what waits
pub record SaysBut {D : Type 0} (Takes : D → BoundedLine → Outcome → D → List ℕ → Type 0) (start : D)
    (read new_read held new_held : Option (List ℕ)) (waits : List ℕ) : Type 0 where
  pub said : List ℕ
  pub first : IsSaidToFirst Takes start read new_read (said ++ waits)
  pub written : Appends held new_held said

-- one who says what is asked for, and keeps that
abbrev pub KeepsForm : {D A : Type 0} → (D → A) → (A → BoundedLine → Outcome → List ℕ → Type 0) → D → BoundedLine
    → Outcome → D → List ℕ → Type 0
KeepsForm {D} {A} asked Says old line o new said =
    (asked new ≡ asked old) × SaysAnswer (Says (asked old)) old line o new said
