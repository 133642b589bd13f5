-- For the code: what a line does to what is known.
use Rattle.std.specs.Prelude.{◌≡◌, ℕ, List, Option, Some, None, Result, Ok, true, false, cond}
use Rattle.std.specs.Option.{option_or}
use Rattle.std.specs.BTreeMap.{is_at}
use Rattle.machine_text.specs.Terms.{Packed, table_cmp}
use Rattle.text.specs.Terms.{BoundedLine}
use Rattle.cert.specs.Terms.{Recorded}
use Rattle.cert.specs.declared.record.RecordFault.{RecordFault}
use Rattle.cmd_lines.specs.Terms.{read_line}
use Rattle.find_search.specs.Known.{Saying, first_said, known_of, said_by, saying, tells_nothing, untold, next_number, with_number, with_numbers}
use Rattle.find_search.specs.declared.known.Known.{Known}

-- the record of what was read, where that tells something
abbrev pub IsNews : (Packed → Option Saying) → Result Recorded RecordFault → Option Recorded → Type 0
IsNews known read None = tells_nothing known read ≡ true
IsNews known read (Some r) = (read ≡ Ok r) × (tells_nothing known read ≡ false)

-- what the last line claims is known of its table, and of others what was
pub record RecordKept (old : Known) (r : Recorded) (new : Known) : Type 0 where
  pub lines : new.lines ≡ old.lines
  pub refused : new.refused ≡ old.refused
  pub known : (p : Packed) → known_of new p
      ≡ cond (is_at (table_cmp r.table) p) (Some (saying old.lines r.claim)) (known_of old p)

-- what a line, which is the next one, says is known, or the line is refused
pub record LineTells (old : Known) (line : BoundedLine) (new : Known) : Type 0 where
  pub lines : new.lines ≡ next_number old.lines
  pub known : (p : Packed) → known_of new p
      ≡ option_or (known_of old p) (said_by (next_number old.lines) (read_line line) p)
  pub refused : new.refused ≡ cond (tells_nothing (known_of old) (read_line line))
      (with_number old.refused (next_number old.lines)) old.refused

-- what was known at first, and then what lines say
pub record LinesTell (old : Known) (lines : List (List ℕ)) (new : Known) : Type 0 where
  pub known : (p : Packed) → known_of new p ≡ option_or (known_of old p) (first_said old.lines lines p)
  pub refused : new.refused ≡ with_numbers old.refused (untold (known_of old) old.lines lines)
