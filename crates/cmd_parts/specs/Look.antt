-- What is recorded of given tables.
use Rattle.std.specs.Prelude.{◌≡◌, ◌⊎◌, ℕ, List, [], ◌∷◌, ◌++◌, Option, Some, None, Result, Ok, Err, ⊤, codes, map, IsSome}
use Rattle.std.specs.Io.KnownBytes.{Appends}
use Rattle.text.specs.Terms.{BoundedLine, joined}
use Rattle.machine_text.specs.Terms.{Packed, entry_of, text_of}
use Rattle.machine_text.specs.declared.table.Entry.{Entry}
use Rattle.law_turing.specs.Terms.{Extends}
use Rattle.cert.specs.Terms.{Claim, Recorded, record_text}
use Rattle.cert.specs.declared.record.RecordFault.{RecordFault}
use Rattle.ledger.specs.Terms.{Contents, IsOpenOn, claim_in, IsHoldout, AreAll}
use Rattle.cmd_options.specs.declared.ended.Outcome.{Outcome}
use Rattle.cmd_options.specs.declared.ended.Outcome.TheVariants.{Accepted, Refused}
use Rattle.cmd_lines.specs.Terms.{fault_text, read_line_table, AnswersFirst, AnswersStream}
use Rattle.ledger.specs.declared.loading.Left.{Left}
use Rattle.totals.specs.Terms.{joined_with}
use Rattle.cmd_parts.specs.Join.{Findings, HoldsTree, IsMet, IsReadAt}
use Rattle.cmd_parts.specs.Settle.{path_within}

-- What is said of a table by a board, and to a line by what is said of its table.
abbrev pub open_text : Packed → List ℕ
open_text t = text_of t ++ codes " open"

abbrev pub unknown_text : Packed → List ℕ
unknown_text t = text_of t ++ codes " unknown"

-- the table isn't of the tree, as far as that is known
abbrev pub SaysUnknown : Packed → Outcome → List ℕ → Type 0
SaysUnknown t o answer = (o ≡ Refused) × (answer ≡ unknown_text t)

abbrev pub SaysOpen : Packed → Outcome → List ℕ → Type 0
SaysOpen t o answer = (o ≡ Refused) × (answer ≡ open_text t)

-- what is said of a table of which a board has no record
abbrev pub SaysUnrecorded : Contents → Packed → Outcome → List ℕ → Type 0
SaysUnrecorded b t o answer = (IsOpenOn b t × SaysOpen t o answer) ⊎ ((IsOpenOn b t → ⊥) × SaysUnknown t o answer)

-- what is said of a table by what a board's record claims of it, where there is one
abbrev pub SaysByClaim : Contents → Packed → Option Claim → Outcome → List ℕ → Type 0
SaysByClaim b t (Some claim) o answer = (o ≡ Accepted) × (answer ≡ record_text (record { table = t; claim = claim }))
SaysByClaim b t None o answer = SaysUnrecorded b t o answer

-- its record on the board; or it is open there, or neither
abbrev pub SaysByBoard : Contents → Packed → Outcome → List ℕ → Type 0
SaysByBoard b t o answer = SaysByClaim b t (claim_in b.records t) o answer

-- a table is a root, or comes of it by more entries
abbrev pub ComesOf : Packed → Packed → Type 0
ComesOf t root = (t.states ≡ root.states) × Extends (entry_of t) (entry_of root)

-- it belongs to no part
abbrev pub ComesOfNone : Contents → Packed → Type 0
ComesOfNone trunk t = (root : Packed) → IsOpenOn trunk root → ComesOf t root → ⊥

-- what is said to a line, by what was read of it
abbrev pub SaysOfRead : (Packed → Outcome → List ℕ → Type 0) → Result Packed RecordFault → Outcome → List ℕ → Type 0
SaysOfRead Says (Ok t) o answer = Says t o answer
SaysOfRead Says (Err fault) o answer = (o ≡ Refused) × (answer ≡ fault_text fault)

abbrev pub SaysOfLine : (Packed → Outcome → List ℕ → Type 0) → BoundedLine → Outcome → List ℕ → Type 0
SaysOfLine Says line o answer = SaysOfRead Says (read_line_table line) o answer

-- an answer to a line, with its newline
abbrev pub SaysWith : (BoundedLine → Outcome → List ℕ → Type 0) → BoundedLine → Outcome → List ℕ → Type 0
SaysWith Says line o said = (answer : List ℕ) × Says line o answer × (said ≡ answer ++ 10 ∷ [])

-- an entry stays: where there is one, the other is that
abbrev pub StaysEntry : Option Entry → Option Entry → Type 0
StaysEntry None other = ⊤
StaysEntry (Some entry) other = other ≡ Some entry

-- What is recorded of given tables, and which tables are recorded without a verdict: by a ledger, or by a folder of a
-- trunk and its parts.

-- what is said of a table by the part that it belongs to, where that counts
abbrev pub SaysByPart : Option Contents → Packed → Outcome → List ℕ → Type 0
SaysByPart (Some part) t o answer = SaysByBoard part t o answer
SaysByPart None t o answer = SaysUnknown t o answer

-- what is said of a table that the trunk in a folder has no record of, by what is found of the part of a root
pub record SaysBelow (Finds : Findings) (folder : List ℕ) (trunk : Contents) (t : Packed) (o : Outcome)
    (answer : List ℕ) : Type 0 where
  pub root : Packed
  pub is_open : IsOpenOn trunk root
  pub of_root : ComesOf t root
  pub counted : Option Contents
  pub wrong : List ℕ
  pub met : IsMet Finds folder root counted wrong
  pub says : SaysByPart counted t o answer

-- what is said of a table by a folder: its record in the trunk; else by the part that it belongs to, where there is one
abbrev pub SaysByFolder : Findings → List ℕ → Contents → Packed → Outcome → List ℕ → Type 0
SaysByFolder Finds folder trunk t o answer =
    (IsSome (claim_in trunk.records t) × SaysByBoard trunk t o answer)
    ⊎ (SaysBelow Finds folder trunk t o answer ⊎ (ComesOfNone trunk t × SaysUnknown t o answer))

-- lines are answered by the ledger at a path
pub record AnswersByLedger (Finds : Findings) (path : List ℕ) (read new_read held new_held : Option (List ℕ))
    (o : Outcome) : Type 0 where
  pub board : Contents
  pub left : Left
  pub reads : IsReadAt Finds path board left
  pub answers : AnswersStream (SaysOfLine (SaysByBoard board)) read new_read held new_held o

-- or by the trunk and the parts in the folder at a path
pub record AnswersByFolder (Finds : Findings) (path : List ℕ) (read new_read held new_held : Option (List ℕ))
    (o : Outcome) : Type 0 where
  pub trunk : Contents
  pub left : Left
  pub reads : IsReadAt Finds (path_within path (codes "trunk")) trunk left
  pub answers : AnswersStream (SaysOfLine (SaysByFolder Finds path trunk)) read new_read held new_held o

abbrev pub AnswersLines : Findings → List ℕ → Option (List ℕ) → Option (List ℕ) → Option (List ℕ) → Option (List ℕ)
    → Outcome → Type 0
AnswersLines Finds path read new_read held new_held o =
    AnswersByLedger Finds path read new_read held new_held o
    ⊎ AnswersByFolder Finds path read new_read held new_held o

-- these are the answers to the first lines of what was read, by that ledger or folder; none is answered before it is read
abbrev pub AnswersFirstBy : Findings → List ℕ → Option (List ℕ) → Option (List ℕ) → List ℕ → Type 0
AnswersFirstBy Finds path read new_read answers = (answers ≡ [])
    ⊎ (((board : Contents) × (left : Left) × IsReadAt Finds path board left
    × AnswersFirst (SaysOfLine (SaysByBoard board)) read new_read answers)
    ⊎ ((trunk : Contents) × (left : Left) × IsReadAt Finds (path_within path (codes "trunk")) trunk left
    × AnswersFirst (SaysOfLine (SaysByFolder Finds path trunk)) read new_read answers))

-- the holdouts among records are printed, a line each, in the order of their texts
abbrev pub PrintsHoldouts : List Recorded → Option (List ℕ) → Option (List ℕ) → Type 0
PrintsHoldouts rs held new_held =
    (tables : List Packed) × AreAll (IsHoldout rs) tables × Appends held new_held (joined (map text_of tables))

-- those of the ledger at a path
pub record PrintsOfLedger (Finds : Findings) (path : List ℕ) (held new_held : Option (List ℕ)) : Type 0 where
  pub board : Contents
  pub left : Left
  pub reads : IsReadAt Finds path board left
  pub prints : PrintsHoldouts board.records held new_held

-- or those of the trunk and the parts that count in the folder at a path; what is wrong with them is said
pub record PrintsOfFolder (Finds : Findings) (path : List ℕ)
    (held new_held faults new_faults : Option (List ℕ)) : Type 0 where
  pub trunk : Contents
  pub parts : List Contents
  pub lines : List ℕ
  pub holds : HoldsTree Finds path trunk parts lines
  pub prints : PrintsHoldouts (joined_with trunk.records parts) held new_held
  pub warns : Appends faults new_faults lines

abbrev pub PrintsAt : Findings → List ℕ → Option (List ℕ) → Option (List ℕ) → Option (List ℕ) → Option (List ℕ)
    → Outcome → Type 0
PrintsAt Finds path held new_held faults new_faults o =
    (o ≡ Accepted) × ((PrintsOfLedger Finds path held new_held × (new_faults ≡ faults))
    ⊎ PrintsOfFolder Finds path held new_held faults new_faults)
