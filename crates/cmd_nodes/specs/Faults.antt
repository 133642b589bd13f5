-- What ends a command by a fault of a node, and how often workers call.
use Rattle.std.specs.Prelude.{◌≡◌, ◌⊎◌, ◌≤◌, ℕ}
use Rattle.cmd_options.specs.declared.ended.Ended.{Ended}
use Rattle.cmd_options.specs.declared.ended.Ended.TheVariants.{BadHeader, WrongRoot, Stream, Ledger, NoMemory}
use Rattle.lease_core.specs.declared.starting.StartFault.{StartFault}
use Rattle.lease_core.specs.declared.starting.StartFault.TheVariants.{BadHeader as BadStartHeader, WrongRoot as OtherStartRoot, LedgerFault as StartLedgerFault, NoMemory as NoStartMemory}
use Rattle.wire.specs.declared.node.NodeFault.TheVariants.{Stopped, NoMemory as NoNodeMemory}
use Rattle.wire.specs.declared.handing.TurnFault.{TurnFault}
use Rattle.wire.specs.declared.handing.TurnFault.TheVariants.{LinkFault, LedgerFault, Node, NoMemory as NoTurnMemory}
use Rattle.peers.specs.Terms.{capped_sum}

-- What ends a command by a fault of a node.

-- a node's start is refused
abbrev pub ended_by_start : StartFault → Ended
ended_by_start BadStartHeader = BadHeader
ended_by_start OtherStartRoot = WrongRoot
ended_by_start StartLedgerFault = Ledger
ended_by_start NoStartMemory = NoMemory

-- a turn isn't fulfilled; a node is stopped where its ledger has failed
abbrev pub ended_by_turn : TurnFault → Ended
ended_by_turn LinkFault = Stream
ended_by_turn LedgerFault = Ledger
ended_by_turn (Node Stopped) = Ledger
ended_by_turn (Node NoNodeMemory) = NoMemory
ended_by_turn NoTurnMemory = NoMemory

-- a turn over a link in memory isn't fulfilled: such a link fails where memory is refused
abbrev pub ended_in_memory : TurnFault → Ended
ended_in_memory LinkFault = NoMemory
ended_in_memory LedgerFault = ended_by_turn LedgerFault
ended_in_memory (Node fault) = ended_by_turn (Node fault)
ended_in_memory NoTurnMemory = ended_by_turn NoTurnMemory

-- How often workers call their coordinator before they give up.

-- the ledger of a worker failed, or memory was refused
abbrev pub IsOwnFault : Ended → Type 0
IsOwnFault e = (e ≡ Ledger) ⊎ (e ≡ NoMemory)

-- or the stream failed
abbrev pub EndsTalk : Ended → Type 0
EndsTalk e = IsOwnFault e ⊎ (e ≡ Stream)

-- they have called once or more, as far as calls are counted
abbrev pub HasCalled : ℕ → ℕ → Type 0
HasCalled before after = capped_sum before 1 ≤ after

-- they give up by a fault of their own, or, once they have called so many times, as far as calls are counted, by a stream
-- that failed
abbrev pub GivesUp : ℕ → ℕ → ℕ → Ended → Type 0
GivesUp tries before after e = IsOwnFault e ⊎ ((e ≡ Stream) × (capped_sum before tries ≤ after))
