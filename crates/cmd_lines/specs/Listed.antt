-- The tables that stand in a text of any form, their normal form, and what `bb tables` says to the text.
use Rattle.std.specs.Prelude.{◌≡◌, ℕ, suc, ◌<◌, ◌≤◌, Bool, true, false, cond, Option, Some, None, ◌==◌, ◌&&◌, ◌||◌, nat_le, not, List, [], ◌∷◌, ◌++◌, length, flat_map, Result, Ok, Err, nat_eq, min, map}
use Rattle.std.specs.List.{slice_split, list_any}
use Rattle.std.specs.Cmp.Lexicographic.{pointwise}
use Rattle.std.specs.Io.KnownBytes.{Consumes, Appends, IsAtEnd}
use Rattle.std.specs.Str.{IsTrimAscii}
use Rattle.machine_text.specs.declared.table.Sym.{Sym}
use Rattle.machine_text.specs.declared.table.Sym.TheVariants.{Zero}
use Rattle.machine_text.specs.declared.table.Dir.{Dir}
use Rattle.machine_text.specs.declared.table.Dir.TheVariants.{L, R}
use Rattle.machine_text.specs.declared.table.Entry.{Entry}
use Rattle.machine_text.specs.Terms.{Packed, entry_of, table_of, text_of}
use Rattle.law_turing.specs.Terms.{Machine, mirrored, Config, after}
use Rattle.machine_text.specs.declared.grammar.TextFault.{TextFault}
use Rattle.text.specs.Terms.{BoundedLine, bounded_line}
use Rattle.cert.specs.Terms.{Claim, Recorded, record_text}
use Rattle.cert.specs.declared.record.RecordFault.{RecordFault}
use Rattle.cmd_lines.specs.Lines.{AreFirstLines, AreLines}
use Rattle.cmd_lines.specs.Answer.{read_line}
use Rattle.run.specs.Terms.{run_step_limit}
use Rattle.cmd_options.specs.declared.options.Listing.{Listing}

-- The normal form of a table by its run: mirrored where its first move is to the left, and its states named in the order
-- in which the run comes to them.

-- at the times before k the run is in states below low
abbrev pub StaysBelow : Machine → ℕ → ℕ → Type 0
StaysBelow m k low = (i : ℕ) (c : Config) → i < k → after m i ≡ Some c → c.state < low

-- the run comes to the state q in at most so many steps, and is in states below low before
pub record ComesFirstTo (m : Machine) (steps low q : ℕ) : Type 0 where
  pub time : ℕ
  pub within : time ≤ steps
  pub at : Config
  pub is : after m time ≡ Some at
  pub state : at.state ≡ q
  pub before : StaysBelow m time low

-- in so many steps the run comes to the states below `named`, to each one after those below it, and to no other
pub record IsInRunOrder (m : Machine) (steps named : ℕ) : Type 0 where
  pub each : (q : ℕ) → q < named → ComesFirstTo m steps q q
  pub only : StaysBelow m (suc steps) named

-- the entry with another name for its next state
abbrev pub named_entry : (ℕ → ℕ) → Option Entry → Option Entry
named_entry name None = None
named_entry name (Some e) = Some (record { write = e.write; dir = e.dir; next = record { 0 = name e.next.0 } })

-- the machine with other names for its states: A stays A, and the states that aren't named below `named` stay in their order
pub record IsRenamed (named : ℕ) (m new : Machine) : Type 0 where
  pub name : ℕ → ℕ
  pub old : ℕ → ℕ
  pub old_of_name : (q : ℕ) → old (name q) ≡ q
  pub name_of_old : (q : ℕ) → name (old q) ≡ q
  pub first : name 0 ≡ 0
  pub entries : (q : ℕ) (s : Sym) → new (name q) s ≡ named_entry name (m q s)
  pub others : (p q : ℕ) → p < q → named ≤ name p → named ≤ name q → name p < name q

-- whether there is an entry that moves to the left
abbrev pub is_left : Dir → Bool
is_left L = true
is_left R = false

abbrev pub moves_left : Option Entry → Bool
moves_left None = false
moves_left (Some e) = is_left e.dir

-- the machine, mirrored where its first move is to the left
abbrev pub facing_right : Machine → Machine
facing_right m = cond (moves_left (m 0 Zero)) (mirrored m) m

-- new is the normal form of t by so many steps of its run
pub record IsNormalForm (steps : ℕ) (t new : Packed) : Type 0 where
  pub named : ℕ
  pub states : new.states ≡ t.states
  pub renamed : IsRenamed named (facing_right (entry_of t)) (entry_of new)
  pub in_order : IsInRunOrder (entry_of new) steps named

-- t is in normal form by so many steps: its first move isn't to the left, and its run comes to its states in their order
pub record IsInNormalForm (steps : ℕ) (t : Packed) : Type 0 where
  pub right : moves_left (entry_of t 0 Zero) ≡ false
  pub named : ℕ
  pub in_order : IsInRunOrder (entry_of t) steps named

-- The tables that stand in a text of any form: its words that are tables, and the columns of words with commas. Bytes are their
-- ASCII codes.

-- a comma, which stands between the columns of lists
abbrev pub is_comma : ℕ → Bool
is_comma b = b == 44

-- a byte of which tables are made, or one that would make a word of them another: a digit, a capital letter, `-` (45), `_` (95),
-- or a comma
abbrev pub is_word_byte : ℕ → Bool
is_word_byte b = (nat_le 48 b && nat_le b 57) || (nat_le 65 b && nat_le b 90) || b == 45 || b == 95 || is_comma b

-- the words of a text: what stands between bytes that aren't those of a word
unfoldable pub words : List ℕ → List (List ℕ)
words text = slice_split (λ b. not (is_word_byte b)) text

-- and the columns of a word: what stands between its commas
unfoldable pub columns : List ℕ → List (List ℕ)
columns word = slice_split is_comma word

-- the table of a column, if it is one
abbrev pub table_in : Result Packed TextFault → List Packed
table_in (Ok t) = t ∷ []
table_in (Err f) = []

-- whether a column is as long as a row of a table. Rows with commas between them are no tables of one state
abbrev pub is_row : List ℕ → Bool
is_row column = length column == 6

abbrev pub tables_of_column : Bool → List ℕ → List Packed
tables_of_column is_behind_row column = cond (is_behind_row && is_row column) [] (table_in (table_of column))

abbrev pub tables_of_columns : Bool → List (List ℕ) → List Packed
tables_of_columns is_behind_row [] = []
tables_of_columns is_behind_row (column ∷ others) =
    tables_of_column is_behind_row column ++ tables_of_columns (is_row column) others

abbrev pub tables_of_word : List ℕ → List Packed
tables_of_word word = tables_of_columns false (columns word)

abbrev pub tables_in : List ℕ → List Packed
tables_in text = flat_map tables_of_word (words text)

-- those of a line, which is none where it is too long
abbrev pub tables_of_line : Option (List ℕ) → List Packed
tables_of_line None = []
tables_of_line (Some line) = tables_in line

-- What `bb tables` says to a text: the tables in it, as they are printed, each one where it comes first, a line each; or,
-- where records are kept, the records among its lines in place of their tables.

-- whether two tables are one
abbrev pub same_packed : Packed → Packed → Bool
same_packed a b = pointwise nat_eq a.codes b.codes && nat_eq a.states b.states

-- a table that stands in a text, with what is claimed of it where it is a record's
pub record Found : Type 0 where
  pub table : Packed
  pub claim : Option Claim

abbrev pub alone : Packed → Found
alone t = record { table = t; claim = None }

abbrev pub of_record : Recorded → Found
of_record r = record { table = r.table; claim = Some r.claim }

abbrev pub tables_of : List Found → List Packed
tables_of found = map (λ f. f.table) found

-- of what is found the first of each table, but for those that came before
unfoldable pub first_ones : List Packed → List Found → List Found
first_ones came [] = []
first_ones came (f ∷ found) =
    cond (list_any (same_packed f.table) came) (first_ones came found) (f ∷ first_ones (came ++ f.table ∷ []) found)

-- a table or a record with its newline
abbrev pub found_text : Packed → Option Claim → List ℕ
found_text t None = text_of t
found_text t (Some claim) = record_text (record { table = t; claim = claim })

abbrev pub found_line : Found → List ℕ
found_line f = found_text f.table f.claim ++ 10 ∷ []

-- what is found in a line that was read, with these tables in it: the record that it is, or the tables
abbrev pub found_by : Result Recorded RecordFault → List Packed → List Found
found_by (Ok r) tables = of_record r ∷ []
found_by (Err f) tables = map alone tables

-- a line without white space at its ends, if it isn't too long
abbrev pub IsTrimmed : BoundedLine → BoundedLine → Type 0
IsTrimmed None trimmed = trimmed ≡ None
IsTrimmed (Some line) trimmed = (text : List ℕ) × (trimmed ≡ Some text) × IsTrimAscii line text

-- what is found in a line, where records are kept or not
abbrev pub IsFoundIn : Bool → BoundedLine → List Found → Type 0
IsFoundIn false line found = found ≡ map alone (tables_of_line line)
IsFoundIn true line found =
    (trimmed : BoundedLine) × IsTrimmed line trimmed × (found ≡ found_by (read_line trimmed) (tables_of_line line))

-- in lines, one after another
abbrev pub AreFoundIn : Listing → List (List ℕ) → List Found → Type 0
AreFoundIn l [] found = found ≡ []
AreFoundIn l (line ∷ lines) found =
    (here : List Found) × (others : List Found) × IsFoundIn l.records (bounded_line line) here
    × AreFoundIn l lines others × (found ≡ here ++ others)

-- what is printed of a table: its normal form by so many steps, if that is wanted, or the table itself
abbrev pub IsInForm : Bool → ℕ → Packed → Packed → Type 0
IsInForm true steps t new = IsNormalForm steps t new
IsInForm false steps t new = new ≡ t

-- and of a record the record itself
abbrev pub IsPrintedTable : Listing → Option Claim → Packed → Packed → Type 0
IsPrintedTable l None t new = IsInForm l.normal (min l.steps run_step_limit) t new
IsPrintedTable l (Some claim) t new = new ≡ t

abbrev pub IsPrinted : Listing → Found → Found → Type 0
IsPrinted l f new = (new.claim ≡ f.claim) × IsPrintedTable l f.claim f.table new.table

-- of what is found, one after another
abbrev pub ArePrinted : Listing → List Found → List Found → Type 0
ArePrinted l [] printed = printed ≡ []
ArePrinted l (f ∷ found) printed =
    (first : Found) × (others : List Found) × (printed ≡ first ∷ others) × IsPrinted l f first
    × ArePrinted l found others

-- a reader is read to its end, and what is printed of what is found in its lines is written behind what a writer held, the
-- first of each table; of no line more is read than may be kept
pub record ListsTables (listing : Listing) (read new_read held new_held : Option (List ℕ)) : Type 0 where
  pub text : List ℕ
  pub lines : List (List ℕ)
  pub found : List Found
  pub printed : List Found
  pub consumed : Consumes read new_read text
  pub whole : IsAtEnd new_read
  pub are_lines : AreLines text lines
  pub are_found : AreFoundIn listing lines found
  pub are_printed : ArePrinted listing found printed
  pub written : Appends held new_held (flat_map found_line (first_ones [] printed))

-- this is printed of what is found in the first lines of what was read, the first of each table
pub record ListsFirst (listing : Listing) (read new_read : Option (List ℕ)) (said : List ℕ) : Type 0 where
  pub lines : List (List ℕ)
  pub found : List Found
  pub printed : List Found
  pub are_first : AreFirstLines read new_read lines
  pub are_found : AreFoundIn listing lines found
  pub are_printed : ArePrinted listing found printed
  pub is : said ≡ flat_map found_line (first_ones [] printed)
