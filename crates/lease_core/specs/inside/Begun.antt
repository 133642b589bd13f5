-- For the code: what a start gives before the coordinator is made of it.
use Rattle.std.specs.Prelude.{◌≡◌, ℕ, List, Option, Some, None, Result, Ok, Err, false}
use Rattle.machine_text.specs.Terms.{empty_table}
use Rattle.ledger.specs.Terms.{IsBoard, LoadGives, IsRead, IsAllRead, IsBrokenOff}
use Rattle.ledger.specs.declared.loading.Left.{Left}
use Rattle.wire.specs.declared.node.Out.{Out}
use Rattle.leases.specs.Terms.{Leased, no_leases}
use Rattle.lease_core.specs.CoordinatorRules.{Coordinating}
use Rattle.lease_core.specs.Starts.{Begins, CantStart, not_started}
use Rattle.lease_core.specs.declared.starting.StartFault.{StartFault}
use Rattle.lease_core.specs.declared.starting.StartFault.TheVariants.{BadHeader, WrongRoot, LedgerFault, NoMemory}

abbrev pub BeginsSo : ℕ → List ℕ → Result (Leased × Out) StartFault → Type 0
BeginsSo n text (Ok begun) = (begun.0.leases ≡ no_leases)
    × ((left : Left) × LoadGives (empty_table n) text (Ok (begun.0.board, left))
    × Begins (empty_table n) text left begun.1)
BeginsSo n text (Err fault) = CantStart (empty_table n) text fault

abbrev pub BeginsFrom : ℕ → Option (List ℕ) → ℕ → Option (List ℕ) → Result (Leased × Out) StartFault → Type 0
BeginsFrom n read limit new_read (Ok begun) = (text : List ℕ) × IsAllRead read limit text new_read
    × BeginsSo n text (Ok begun)
BeginsFrom n read limit new_read (Err BadHeader) = (text : List ℕ) × IsAllRead read limit text new_read
    × BeginsSo n text (Err BadHeader)
BeginsFrom n read limit new_read (Err WrongRoot) = (text : List ℕ) × IsAllRead read limit text new_read
    × BeginsSo n text (Err WrongRoot)
BeginsFrom n read limit new_read (Err NoMemory) = (text : List ℕ) × IsRead read limit text new_read
    × BeginsSo n text (Err NoMemory)
BeginsFrom n read limit new_read (Err LedgerFault) = (text : List ℕ) × IsBrokenOff read limit text new_read

-- the coordinator that is made of what a start gives, and its answer
abbrev pub coordinator_of : ℕ → Result (Leased × Out) StartFault → Coordinating
coordinator_of era (Ok begun) = record { era = era; held = Some begun.0; stopped = false }
coordinator_of era (Err fault) = not_started era

abbrev pub answer_of : Result (Leased × Out) StartFault → Result Out StartFault
answer_of (Ok begun) = Ok begun.1
answer_of (Err fault) = Err fault

abbrev pub HoldsBoard : Option Leased → Type 0
HoldsBoard None = Unit {0}
HoldsBoard (Some held) = IsBoard held.board
