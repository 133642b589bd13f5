-- A trunk and its parts that are told of together.
use Rattle.std.specs.Prelude.{◌≡◌, ◌≢◌, ◌⊎◌, ℕ, Bool, true, false, List, [], ◌∷◌, ◌++◌, map, Option, None, Some, codes, decimal}
use Rattle.std.specs.Io.KnownBytes.{Appends}
use Rattle.text.specs.Terms.{joined}
use Rattle.machine_text.specs.Terms.{Packed, text_of}
use Rattle.cert.specs.Terms.{Recorded}
use Rattle.ledger.specs.Terms.{Contents, IsBoard, IsOpenOn, ledger_text, ledger_line, AreAll, IsStatus}
use Rattle.ledger.specs.declared.header.Format.TheVariants.{Two}
use Rattle.ledger.specs.declared.loading.Left.{Left}
use Rattle.ledger.specs.declared.loading.Left.TheVariants.{Nothing, From}
use Rattle.ledger.specs.declared.faults.Status.{Status}
use Rattle.wire.specs.Terms.{grown}
use Rattle.cmd_ledgers.specs.Terms.{outcome_by, EndsReading, IsLoadedFrom}
use Rattle.cmd_options.specs.declared.ended.Stopped.TheVariants.{Ended as EndedBy}
use Rattle.cmd_options.specs.Terms.{PrintsNothing, ended_line}
use Rattle.cmd_options.specs.declared.ended.Ended.{Ended}
use Rattle.cmd_options.specs.declared.ended.Ended.TheVariants.{BadHeader, WrongRoot}
use Rattle.cmd_options.specs.declared.ended.Outcome.{Outcome}
use Rattle.cmd_options.specs.declared.ended.Outcome.TheVariants.{Refused}
use Rattle.totals.specs.Terms.{AreParts, joined_with, Collected, IsWhole}
use Rattle.cmd_parts.specs.Settle.{path_within}

-- A trunk and its parts that are told of together, as one ledger would be that holds the records of all.

-- the lines of records in a ledger of version 2
abbrev pub record_lines : List Recorded → List ℕ
record_lines rs = joined (map (ledger_line Two) rs)

-- a line behind a path
abbrev pub line_behind : List ℕ → List ℕ → List ℕ
line_behind path what = path ++ codes ": " ++ what ++ 10 ∷ []

-- the line that says which line of a ledger wasn't kept; none where all was
abbrev pub left_line : List ℕ → Left → List ℕ
left_line path Nothing = []
left_line path (From line kept why) = line_behind path (codes "left " ++ decimal line)

-- nothing is said
abbrev pub is_silent : List ℕ → Bool
is_silent [] = true
is_silent (byte ∷ more) = false

-- what may be found at a path: nothing; or a ledger, with what its reader has, where that is known, and its length
abbrev pub Findings : Type 1
Findings = List ℕ → Option (Option (List ℕ) × ℕ) → Type 0

-- a ledger is found at a path, and loaded, up to what is left
abbrev pub IsReadAt : Findings → List ℕ → Contents → Left → Type 0
IsReadAt Finds path b left = (has : Option (List ℕ)) × (size : ℕ) × Finds path (Some (has, size))
    × IsLoadedFrom has size b left

-- a board is loaded where the part of a root is looked for: it counts where it has that root, and which line wasn't kept is
-- said; else it is refused
abbrev pub IsMetAs : Contents → Left → List ℕ → Packed → Option Contents → List ℕ → Type 0
IsMetAs part left path root (Some counted) said = (counted ≡ part) × (part.root ≡ root) × (said ≡ left_line path left)
IsMetAs part left path root None said = (part.root ≢ root) × (said ≡ line_behind path (codes "refused 406"))

-- a ledger that a reader has in its first bytes is loaded, and met so; or it has no root, or one that isn't in order, and is
-- refused
abbrev pub IsMetIn : Option (List ℕ) → ℕ → List ℕ → Packed → Option Contents → List ℕ → Type 0
IsMetIn has size path root counted said =
    ((part : Contents) × (left : Left) × IsLoadedFrom has size part left × IsMetAs part left path root counted said)
    ⊎ ((e : Ended) × (counted ≡ None) × ((e ≡ BadHeader) ⊎ (e ≡ WrongRoot)) × EndsReading has size (EndedBy e)
    × (said ≡ line_behind path (ended_line e)))

-- what is found of the part of a root, whether it counts, and what is said: nothing is there; or there is a ledger, which is met so
abbrev pub IsMet : Findings → List ℕ → Packed → Option Contents → List ℕ → Type 0
IsMet Finds folder root counted said =
    (Finds (path_within folder (text_of root)) None × (counted ≡ None)
    × (said ≡ line_behind (path_within folder (text_of root)) (codes "missing")))
    ⊎ ((has : Option (List ℕ)) × (size : ℕ) × Finds (path_within folder (text_of root)) (Some (has, size))
    × IsMetIn has size (path_within folder (text_of root)) root counted said)

-- the part that counts, if one does
abbrev pub counted_part : Option Contents → List Contents
counted_part None = []
counted_part (Some part) = part ∷ []

-- the parts of these roots are met one after another: those that count, and the lines that are said
abbrev pub AreMet : Findings → List ℕ → List Packed → List Contents → List ℕ → Type 0
AreMet Finds folder [] parts lines = (parts ≡ []) × (lines ≡ [])
AreMet Finds folder (root ∷ roots) parts lines =
    (counted : Option Contents) × (said : List ℕ) × (others : List Contents) × (more : List ℕ)
    × IsMet Finds folder root counted said
    × AreMet Finds folder roots others more × (parts ≡ counted_part counted ++ others) × (lines ≡ said ++ more)

-- a folder holds a trunk, which is loaded, and the parts of its open tables, which are met in the order of their texts
pub record HoldsTree (Finds : Findings) (folder : List ℕ) (trunk : Contents) (parts : List Contents)
    (lines : List ℕ) : Type 0 where
  pub left : Left
  pub reads : IsReadAt Finds (path_within folder (codes "trunk")) trunk left
  pub roots : List Packed
  pub are_open : AreAll (IsOpenOn trunk) roots
  pub said : List ℕ
  pub are_met : AreMet Finds folder roots parts said
  pub all_lines : lines ≡ left_line (path_within folder (codes "trunk")) left ++ said

-- accepted where a tree is complete, and all of it is sound
abbrev pub ended_by : Status → Bool → Outcome
ended_by status true = outcome_by status Nothing
ended_by status false = Refused

-- of a trunk and parts behind it the report is printed that one ledger has which holds all of their records
pub record TellsParts (IsText : Packed → List Recorded → Left → List ℕ → Type 0) (trunk : Contents)
    (parts : List Contents) (is_sound : Bool) (said new_said : Option (List ℕ)) (o : Outcome) : Type 0 where
  pub text : List ℕ
  pub is_text : IsText trunk.root (joined_with trunk.records parts) Nothing text
  pub says : Appends said new_said text
  pub status : Status
  pub stands : IsStatus trunk.root (joined_with trunk.records parts) status
  pub ends : o ≡ ended_by status is_sound

-- that is so of the trunk that a folder holds and of the parts that count; what is wrong with them is said, and the one ledger of
-- all is written
pub record TellsAll (IsText : Packed → List Recorded → Left → List ℕ → Type 0) (Finds : Findings) (folder : List ℕ)
    (before after said new_said faults new_faults : Option (List ℕ)) (o : Outcome) : Type 0 where
  pub trunk : Contents
  pub parts : List Contents
  pub lines : List ℕ
  pub holds : HoldsTree Finds folder trunk parts lines
  pub is_board : IsBoard trunk
  pub are_parts : AreParts trunk.root trunk.records parts
  pub tells : TellsParts IsText trunk parts (is_silent lines) said new_said o
  pub warns : Appends faults new_faults lines
  pub writes : after ≡ grown before (ledger_text trunk.root (joined_with trunk.records parts))

-- what is wrong with the trunk that a folder holds and with the first of its parts is said
pub record SaysFirst (Finds : Findings) (folder : List ℕ) (faults new_faults : Option (List ℕ)) : Type 0 where
  pub trunk : Contents
  pub left : Left
  pub reads : IsReadAt Finds (path_within folder (codes "trunk")) trunk left
  pub met : List Packed
  pub later : List Packed
  pub are_open : AreAll (IsOpenOn trunk) (met ++ later)
  pub parts : List Contents
  pub said : List ℕ
  pub are_met : AreMet Finds folder met parts said
  pub says : Appends faults new_faults (left_line (path_within folder (codes "trunk")) left ++ said)

-- where the telling ended early, nothing is said, or whole lines, those of the trunk and of the first parts; unless a
-- stream failed
abbrev pub WarnsFirst : Findings → List ℕ → Option (List ℕ) → Option (List ℕ) → Ended → Type 0
WarnsFirst Finds folder faults new_faults e =
    PrintsNothing e faults new_faults ⊎ SaysFirst Finds folder faults new_faults

-- A trunk and its parts that are gathered, before anything is printed of them.

-- it is the whole of what a folder holds, the one ledger of all stands behind what stood in its place, and all are counted
pub record IsGathered (Finds : Findings) (folder : List ℕ) (whole : Collected) (is_sound : Bool)
    (before after faults new_faults : Option (List ℕ)) (Counted : List Recorded → Type 0) : Type 0 where
  pub parts : List Contents
  pub lines : List ℕ
  pub holds : HoldsTree Finds folder whole.trunk parts lines
  pub whole_is : IsWhole whole parts
  pub sound : is_sound ≡ is_silent lines
  pub says : Appends faults new_faults lines
  pub writes : after ≡ grown before (ledger_text whole.trunk.root (joined_with whole.trunk.records parts))
  pub counts : Counted (joined_with whole.trunk.records parts)

-- A ledger that is written isn't one of those that are read for it.

-- of the trunk that a folder holds, and of the part of each of its open tables, it is told that they aren't that ledger
pub record IsSpared (Tells : List ℕ → Bool → Type 0) (Finds : Findings) (folder : List ℕ) : Type 0 where
  pub trunk : Contents
  pub left : Left
  pub reads : IsReadAt Finds (path_within folder (codes "trunk")) trunk left
  pub trunk_is_other : Tells (path_within folder (codes "trunk")) false
  pub parts_are_others : (root : Packed) → IsOpenOn trunk root → Tells (path_within folder (text_of root)) false
