-- What is printed for a ledger's text, and a ledger that is read up to a limit.
use Rattle.std.specs.Prelude.{◌≡◌, ℕ, ◌⊎◌, List, [], ◌∷◌, ◌++◌, Option, codes, decimal, ◌≤◌, None, Some, length, take}
use Rattle.std.specs.Io.KnownBytes.{Appends, Consumes}
use Rattle.machine_text.specs.Terms.{Packed, entry_of}
use Rattle.law_tree.specs.Terms.{InOrder}
use Rattle.cert.specs.Terms.{Recorded}
use Rattle.ledger.specs.Terms.{IsTornHeader, HasHeader, HasNoHeader, ReadsAs, ReadsIn, IsStatus, Contents}
use Rattle.ledger.specs.declared.loading.Left.{Left}
use Rattle.ledger.specs.declared.loading.Left.TheVariants.{Nothing, From}
use Rattle.ledger.specs.declared.faults.Status.{Status}
use Rattle.ledger.specs.declared.faults.Status.TheVariants.{Working, Holdouts, Complete}
use Rattle.cmd_ledgers.specs.Report.{IsReport}
use Rattle.cmd_options.specs.declared.ended.Outcome.{Outcome}
use Rattle.cmd_options.specs.declared.ended.Outcome.TheVariants.{Accepted, Refused}
use Rattle.cmd_options.specs.declared.ended.Ended.{Ended}
use Rattle.cmd_options.specs.declared.ended.Ended.TheVariants.{BadHeader, WrongRoot, Stream, Ledger, File, HasPart, OutInFolder, Locked, NoMemory}
use Rattle.ledger.specs.declared.faults.LoadFault.{LoadFault}
use Rattle.ledger.specs.declared.faults.LoadFault.TheVariants.{BadHeader as BadLedgerHeader, WrongRoot as OtherRoot, NoMemory as NoLedgerMemory}
use Rattle.ledger.specs.declared.faults.MergeFault.{MergeFault}
use Rattle.ledger.specs.declared.faults.MergeFault.TheVariants.{WrongRoot as RootsDiffer, NoMemory as NoMergeMemory}
use Rattle.cmd_options.specs.declared.ended.Stopped.{Stopped}
use Rattle.cmd_options.specs.declared.ended.Stopped.TheVariants.{Failed, Ended as EndedBy}

-- What is printed for a ledger's text, and how the command ends.

-- the line behind the report that says which line wasn't kept
abbrev pub left_text : Left → List ℕ
left_text Nothing = []
left_text (From line kept why) = codes "left " ++ decimal line ++ 10 ∷ []

-- accepted where a board is complete and all of its ledger was kept
abbrev pub outcome_by : Status → Left → Outcome
outcome_by (Complete best ones) Nothing = Accepted
outcome_by (Complete best ones) (From line kept why) = Refused
outcome_by (Working count) left = Refused
outcome_by (Holdouts count) left = Refused

-- the report of the records, and behind it what wasn't kept
abbrev pub IsLines : Packed → List Recorded → Left → List ℕ → Type 0
IsLines root rs left text = (report : List ℕ) × IsReport root rs report × (text ≡ report ++ left_text left)

-- behind what a writer held stands, in a form, the report of the records for which the text stands
pub record WritesLedger (IsText : Packed → List Recorded → Left → List ℕ → Type 0) (text : List ℕ) (o : Outcome)
    (left : Left) (held new_held : Option (List ℕ)) : Type 0 where
  pub root : Packed
  pub records : List Recorded
  pub loads : ReadsAs root text records left
  pub written : List ℕ
  pub is_text : IsText root records left written
  pub status : Status
  pub stands : IsStatus root records status
  pub ends : o ≡ outcome_by status left
  pub appends : Appends held new_held written

-- why there is no report: the text has no root, or one that isn't in order; memory may be refused where it has one in order
abbrev pub EndsLedger : List ℕ → Ended → Type 0
EndsLedger text BadHeader = IsTornHeader text ⊎ HasNoHeader text
EndsLedger text WrongRoot = (root : Packed) × (rest : List ℕ) × HasHeader text root rest
    × (((u : ℕ) × InOrder u (entry_of root)) → ⊥)
EndsLedger text Stream = ⊥
EndsLedger text Ledger = ⊥
EndsLedger text File = ⊥
EndsLedger text HasPart = ⊥
EndsLedger text OutInFolder = ⊥
EndsLedger text Locked = ⊥
EndsLedger text NoMemory = (root : Packed) × (rest : List ℕ) × HasHeader text root rest
    × ((u : ℕ) × InOrder u (entry_of root))

-- What ends a command by a ledger that can't be loaded, or two that can't be merged.
abbrev pub ended_by_load : LoadFault → Ended
ended_by_load BadLedgerHeader = BadHeader
ended_by_load OtherRoot = WrongRoot
ended_by_load NoLedgerMemory = NoMemory

abbrev pub ended_by_merge : MergeFault → Ended
ended_by_merge RootsDiffer = WrongRoot
ended_by_merge NoMergeMemory = NoMemory

-- A ledger that is read from its first byte, up to a limit.

-- the first bytes of what a reader has, up to a limit; where that isn't known, no more than the limit
abbrev pub AreFirstBytes : Option (List ℕ) → ℕ → List ℕ → Type 0
AreFirstBytes None limit text = length text ≤ limit
AreFirstBytes (Some all) limit text = text ≡ take limit all

-- they are read as a board, in its version, whose root names its states in order, up to what is left
pub record IsLoadedFrom (has : Option (List ℕ)) (limit : ℕ) (b : Contents) (left : Left) : Type 0 where
  pub text : List ℕ
  pub first : AreFirstBytes has limit text
  pub reads : ReadsIn b.format b.root text b.records left
  pub order : (u : ℕ) × InOrder u (entry_of b.root)

-- first bytes were read that have the header of a root in order
pub record BeginsWithRoot (old new : Option (List ℕ)) (limit : ℕ) (first : List ℕ) (root : Packed) : Type 0 where
  pub consumed : Consumes old new first
  pub within : length first ≤ limit
  pub rest : List ℕ
  pub header : HasHeader first root rest
  pub order : (u : ℕ) × InOrder u (entry_of root)

-- why they aren't loaded: a read failed, or there is a reason in their text
abbrev pub EndsReading : Option (List ℕ) → ℕ → Stopped → Type 0
EndsReading has limit (Failed fault) = Unit {0}
EndsReading has limit (EndedBy e) = (text : List ℕ) × AreFirstBytes has limit text × EndsLedger text e

-- why what stands behind a header isn't loaded: a read failed, or memory was refused
abbrev pub EndsBehindHeader : Stopped → Type 0
EndsBehindHeader (Failed fault) = Unit {0}
EndsBehindHeader (EndedBy e) = e ≡ NoMemory
