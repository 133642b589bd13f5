-- For the code: tables with few filled entries, parts that are added to a whole, and a walk whose records a decider answered.
use Rattle.std.specs.Prelude.{◌≡◌, ℕ, Bool, false, List, [], ◌++◌, Option, None, Some, Ok, nat_lt}
use Rattle.std.specs.List.{All}
use Rattle.std.specs.Io.KnownBytes.{Appends}
use Rattle.machine_text.specs.Terms.{Packed, text_of}
use Rattle.cert.specs.Terms.{Recorded}
use Rattle.ledger.specs.Terms.{Contents, ledger_text}
use Rattle.wire.specs.Terms.{grown}
use Rattle.totals.specs.Terms.{joined_with, AddGives, Collected, IsWhole, IsAnswered, IsWalked, Walked}
use Rattle.cmd_parts.specs.Join.{AreMet, Findings, is_silent, record_lines}
use Rattle.cmd_parts.specs.Settle.{filled_count, path_within}
use Rattle.cmd_ledgers.specs.Terms.{IsToldOf}
use Rattle.cmd_ledgers.specs.declared.board_report.Told.{Told}
-- For the code: tables with few filled entries, and parts that are added to a whole one after another.
pub mod Joining

abbrev pub is_below : ℕ → Packed → Bool
is_below limit t = nat_lt (filled_count t) limit

-- of the parts of these roots it is told that they aren't the ledger that is written
abbrev pub AreOthers : (List ℕ → Bool → Type 0) → List ℕ → List Packed → Type 0
AreOthers Tells folder roots = All (λ root. Tells (path_within folder (text_of root)) false) roots

-- a part that counts is added to a whole, and its lines to the one ledger; else nothing changes
abbrev pub AddsCounted : Option Contents → Collected → Collected → Option (List ℕ) → Option (List ℕ) → Type 0
AddsCounted None old new before after = (new ≡ old) × (after ≡ before)
AddsCounted (Some part) old new before after = AddGives old part (Ok tt) new
    × (after ≡ grown before (record_lines part.records))

-- its records; none where none counts
abbrev pub counted_records : Option Contents → List Recorded
counted_records None = []
counted_records (Some part) = part.records

-- where records may have been counted before, these may be counted behind them
abbrev pub CountsMore : (List Recorded → Type 0) → (List Recorded → Type 0) → List Recorded → Type 0
CountsMore Old New more = (rs : List Recorded) → Old rs → New (rs ++ more)

-- a part is met, added and counted where it counts, and what is wrong with it is said
pub record MeetsPart (IsMet : Option Contents → List ℕ → Type 0) (is_sound : Bool) (old new : Collected)
    (before after faults new_faults : Option (List ℕ)) (Old New : List Recorded → Type 0) : Type 0 where
  pub counted : Option Contents
  pub said : List ℕ
  pub met : IsMet counted said
  pub sound : is_sound ≡ is_silent said
  pub says : Appends faults new_faults said
  pub adds : AddsCounted counted old new before after
  pub counts : CountsMore Old New (counted_records counted)

-- so are the parts of these roots, behind a trunk without parts
pub record AreAdded (Finds : Findings) (folder : List ℕ) (roots : List Packed) (trunk : Contents) (whole : Collected)
    (is_sound : Bool) (before after faults new_faults : Option (List ℕ))
    (Old New : List Recorded → Type 0) : Type 0 where
  pub parts : List Contents
  pub lines : List ℕ
  pub met : AreMet Finds folder roots parts lines
  pub trunk_is : whole.trunk ≡ trunk
  pub whole_is : IsWhole whole parts
  pub sound : is_sound ≡ is_silent lines
  pub says : Appends faults new_faults lines
  pub writes : (start : Option (List ℕ)) → before ≡ grown start (ledger_text trunk.root trunk.records)
      → after ≡ grown start (ledger_text trunk.root (joined_with trunk.records parts))
  pub counts : (rs : List Recorded) → Old rs → New (joined_with rs parts)

-- what is wrong with the parts of the first of these roots is said
pub record SaysMet (Finds : Findings) (folder : List ℕ) (roots : List Packed)
    (faults new_faults : Option (List ℕ)) : Type 0 where
  pub met : List Packed
  pub later : List Packed
  pub are_all : roots ≡ met ++ later
  pub parts : List Contents
  pub lines : List ℕ
  pub are_met : AreMet Finds folder met parts lines
  pub says : Appends faults new_faults lines

-- A walk whose records a decider answered, and what is told of it.

-- it tells of records of the tree of a root that a decider answered
pub record IsOfAnswers (D : Type 0) (answers : D → Packed → Recorded → Type 0) (root : Packed)
    (w : Walked) : Type 0 where
  pub is_root : w.root ≡ root
  pub records : List Recorded
  pub are_answers : All (IsAnswered D answers) records
  pub walked : IsWalked w records

-- it is told of whichever records the walk tells of
abbrev pub IsToldOfWalk : Walked → Told → Type 0
IsToldOfWalk w told = (rs : List Recorded) → IsWalked w rs → IsToldOf w.root rs told
