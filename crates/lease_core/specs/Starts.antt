-- What a start makes of a ledger's bytes, and why a node does not start.
use Rattle.std.specs.Prelude.{ℕ, List, length, Option, Some, None, codes, ◌≡◌, ◌≢◌, ◌⊎◌, ◌==◌, if◌then◌else◌, [], ◌∷◌, ◌++◌, true, false, Result, Ok, Err}
use Rattle.ledger.specs.declared.loading.Left.{Left}
use Rattle.ledger.specs.declared.loading.Left.TheVariants.{Nothing, From}
use Rattle.ledger.specs.declared.faults.LoadFault.{LoadFault}
use Rattle.ledger.specs.declared.faults.LoadFault.TheVariants.{BadHeader as BadLedgerHeader, WrongRoot as OtherRoot, NoMemory as NoLedgerMemory}
use Rattle.ledger.specs.declared.loading.ReadStop.{ReadStop}
use Rattle.ledger.specs.declared.loading.ReadStop.TheVariants.{Failed, NoMemory as NoReadMemory}
use Rattle.lease_core.specs.declared.starting.StartFault.{StartFault}
use Rattle.lease_core.specs.declared.starting.StartFault.TheVariants.{BadHeader, WrongRoot, LedgerFault, NoMemory}
use Rattle.machine_text.specs.Terms.{Packed, empty_table, text_of}
use Rattle.ledger.specs.Terms.{Contents, header_words, HasHeader, HasNoHeader, IsLedgerOf, IsTornHeader, LoadGives, IsRead, IsAllRead, IsBrokenOff}
use Rattle.ledger.specs.declared.header.Format.TheVariants.{Two}
use Rattle.wire.specs.Terms.{text_after}
use Rattle.wire.specs.declared.node.Note.TheVariants.{Quiet}
use Rattle.wire.specs.declared.node.Out.{Out}
use Rattle.leases.specs.Terms.{Leased, no_leases}
use Rattle.lease_core.specs.CoordinatorRules.{Coordinating}

-- How many of a ledger's bytes are kept, and to how many it is cut, which it is where not all are kept.
abbrev pub kept_bytes : List ℕ → Left → ℕ
kept_bytes text Nothing = length text
kept_bytes text (From line kept why) = kept

abbrev pub cut_of : Left → Option ℕ
cut_of Nothing = None
cut_of (From line kept why) = Some kept

-- The refusal number of each fault of a start, the sentence that says it, and the fault that a ledger or its reader brings.
abbrev pub start_fault_number : StartFault → Option ℕ
start_fault_number BadHeader = Some 404
start_fault_number WrongRoot = Some 405
start_fault_number LedgerFault = Some 604
start_fault_number NoMemory = None

abbrev pub start_fault_text : StartFault → List ℕ
start_fault_text BadHeader = codes "the ledger has no header with a table"
start_fault_text WrongRoot = codes "the ledger is of another root"
start_fault_text LedgerFault = codes "the ledger can't be read"
start_fault_text NoMemory = codes "out of memory"

abbrev pub start_fault_of : LoadFault → StartFault
start_fault_of BadLedgerHeader = BadHeader
start_fault_of OtherRoot = WrongRoot
start_fault_of NoLedgerMemory = NoMemory

abbrev pub start_fault_of_stop : ReadStop → StartFault
start_fault_of_stop (Failed fault) = LedgerFault
start_fault_of_stop NoReadMemory = NoMemory

-- What a start makes of a ledger's bytes, and of a reader that gives them.
abbrev pub header_line : Packed → List ℕ
header_line root = header_words Two ++ text_of root ++ (10 ∷ [])

-- the header, of version 2, is due where no byte was kept
abbrev pub header_due : Packed → ℕ → List ℕ
header_due root kept = if kept == 0 then header_line root else []

-- the answer of a start: the ledger is cut to what was kept of it, and gains a header where that is nothing
pub record Begins (root : Packed) (text : List ℕ) (left : Left) (out : Out) : Type 0 where
  pub cut_is : out.cut ≡ cut_of left
  pub append_is : out.append.items ≡ header_due root (kept_bytes text left)
  pub frames_are : out.frames.items ≡ []
  pub note_is : out.note ≡ Quiet

abbrev pub started : ℕ → Contents → Coordinating
started era board = record { era = era; held = Some (record { board = board; leases = no_leases }); stopped = false }

abbrev pub not_started : ℕ → Coordinating
not_started era = record { era = era; held = None; stopped = true }

-- why a coordinator doesn't start: the ledger has no header, or one of another root; where memory was refused it has
-- the header of this root, or is torn off within its header. Bytes that are there are read without a fault
abbrev pub CantStart : Packed → List ℕ → StartFault → Type 0
CantStart root text BadHeader = HasNoHeader text
CantStart root text WrongRoot = (other : Packed) × (rest : List ℕ) × HasHeader text other rest × (other ≢ root)
CantStart root text LedgerFault = ⊥
CantStart root text NoMemory = IsTornHeader text ⊎ ((rest : List ℕ) × HasHeader text root rest)

-- a coordinator for machines of n states is started from a ledger's text; or it can't start, and is stopped
abbrev pub Starts : ℕ → ℕ → List ℕ → Coordinating → Result Out StartFault → Type 0
Starts n era text new (Ok out) =
    (board : Contents) × (left : Left) × LoadGives (empty_table n) text (Ok (board, left)) × (new ≡ started era board)
    × Begins (empty_table n) text left out
Starts n era text new (Err fault) = CantStart (empty_table n) text fault × (new ≡ not_started era)

-- a ledger's text is in step with a coordinator: it is the ledger of its board; none is in step with a coordinator that
-- wasn't started
abbrev pub HeldInStep : Option Leased → List ℕ → Type 0
HeldInStep None text = ⊥
HeldInStep (Some held) text = IsLedgerOf held.board text

abbrev pub InStep : Coordinating → List ℕ → Type 0
InStep s text = HeldInStep s.held text

-- a coordinator is started from a reader of its ledger, of which so many bytes are read, or all where there are fewer: as from
-- the bytes that were read. Where memory was refused more may be left to read. Where a read failed, before so many bytes, it
-- is stopped
abbrev pub StartsFrom : ℕ → ℕ → Option (List ℕ) → ℕ → Option (List ℕ) → Coordinating → Result Out StartFault → Type 0
StartsFrom n era read limit new_read new (Ok out) =
    (text : List ℕ) × IsAllRead read limit text new_read × Starts n era text new (Ok out)
    × InStep new (text_after out text)
StartsFrom n era read limit new_read new (Err BadHeader) = (text : List ℕ) × IsAllRead read limit text new_read
    × Starts n era text new (Err BadHeader)
StartsFrom n era read limit new_read new (Err WrongRoot) = (text : List ℕ) × IsAllRead read limit text new_read
    × Starts n era text new (Err WrongRoot)
StartsFrom n era read limit new_read new (Err NoMemory) = (text : List ℕ) × IsRead read limit text new_read
    × Starts n era text new (Err NoMemory)
StartsFrom n era read limit new_read new (Err LedgerFault) = (text : List ℕ) × IsBrokenOff read limit text new_read
    × (new ≡ not_started era)
