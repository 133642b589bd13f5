-- The rules of a coordinator: what it answers to each event, and what becomes of its board and its leases.
use Rattle.std.specs.Prelude.{◌≡◌, ◌⊎◌, ℕ, ◌<◌, ◌==◌, Bool, true, false, max, [], ◌∷◌, Option, Some, None, Result, Ok, Err}
use Rattle.run.specs.declared.reach.Reach.{Reach}
use Rattle.run.specs.declared.reach.Reach.TheVariants.{Early, Late}
use Rattle.kind_evidence.specs.Terms.{refused_number}
use Rattle.kind_evidence.specs.declared.verdicts.Refused.TheVariants.{TooLong}
use Rattle.cert.specs.Terms.{Claim, HaltsClaim, NeverClaim, NoClaim, Recorded, with_score}
use Rattle.ledger.specs.Terms.{offer_fault_number, IsKnown, KeepsTree, OfferGives}
use Rattle.ledger.specs.declared.header.Format.{Format}
use Rattle.ledger.specs.declared.faults.Taken.{Taken}
use Rattle.ledger.specs.declared.faults.Taken.TheVariants.{New, Known, Settled}
use Rattle.ledger.specs.declared.faults.OfferFault.{OfferFault}
use Rattle.ledger.specs.declared.faults.OfferFault.TheVariants.{WrongSize, NotOpen, Refused as NotStanding, NoMemory as OfferNoMemory}
use Rattle.wire.specs.Terms.{Happening, Came, Ticked, Worked, message_of, Message, Ask, Grant, Rec, Ack, Later, Done, Stop}
use Rattle.wire.specs.declared.messages.MsgFault.{MsgFault}
use Rattle.wire.specs.declared.node.Note.{Note}
use Rattle.wire.specs.declared.node.Note.TheVariants.{Quiet, Strange, Stale}
use Rattle.wire.specs.declared.node.NodeFault.{NodeFault}
use Rattle.wire.specs.declared.node.NodeFault.TheVariants.{Stopped, NoMemory}
use Rattle.wire.specs.declared.node.Out.{Out}
use Rattle.leases.specs.Terms.{Leased, SomeEnds, is_live, ticked, IsDone, Asks, LeasesAfter}
use Rattle.lease_core.specs.Limits.{peer_step_limit}
use Rattle.lease_core.specs.Says.{Says, NotesRefusal, lines_of}
use Rattle.leases.specs.declared.held_leases.Reply.{Reply}
use Rattle.leases.specs.declared.held_leases.Reply.TheVariants.{Stop as ToStop, Later as ToWait, Grant as ToGrant}

-- its era, its board with the leases on it, which there are unless its start was refused, and whether it was stopped
pub record Coordinating : Type 0 where
  pub era : ℕ
  pub held : Option Leased
  pub stopped : Bool

-- ASK: the answer as a message
abbrev pub reply_of : ℕ → Reply → Message
reply_of era ToStop = Stop
reply_of era ToWait = Later None
reply_of era (ToGrant number table) = Grant era number table

-- REC, by what the board says of the record; a line has what the board then holds, in the version of its ledger
abbrev pub RecRow : Format → Recorded → Result Taken OfferFault → Out → Type 0
RecRow format r (Ok New) out = Says out None (lines_of format (with_score r ∷ [])) (Ack r.table ∷ []) Quiet
RecRow format r (Ok Settled) out = Says out None (lines_of format (with_score r ∷ [])) (Ack r.table ∷ []) Quiet
RecRow format r (Ok Known) out = Says out None [] (Ack r.table ∷ []) Quiet
RecRow format r (Err NotOpen) out = Says out None [] (Later (Some r.table) ∷ []) Quiet
RecRow format r (Err WrongSize) out = NotesRefusal (offer_fault_number WrongSize) out
RecRow format r (Err (NotStanding f)) out = NotesRefusal (offer_fault_number (NotStanding f)) out
RecRow format r (Err OfferNoMemory) out = ⊥

abbrev pub OfferRow : Leased → Recorded → Out → Leased → Type 0
OfferRow old r out new =
    (said : Result Taken OfferFault) × OfferGives old.board.root old.board.records r said new.board.records
    × KeepsTree old.board new.board × LeasesAfter r.table said old new × RecRow old.board.format r said out

-- a late halt of more steps than those that are judged for a peer
abbrev pub IsOverLong : Reach → ℕ → Type 0
IsOverLong Early k = ⊥
IsOverLong Late k = peer_step_limit < k

abbrev pub IsBeyondPeers : Claim → Type 0
IsBeyondPeers (HaltsClaim e) = IsOverLong e.reach e.steps
IsBeyondPeers (NeverClaim reason) = ⊥
IsBeyondPeers NoClaim = ⊥

-- a record with one, of a table of the root's size, that would bring something new
pub record IsTooLate (old : Leased) (r : Recorded) : Type 0 where
  pub size : r.table.states ≡ old.board.root.states
  pub new : IsKnown old.board.records r → ⊥
  pub steps : IsBeyondPeers r.claim

-- it isn't judged, and nothing changes; any other record is offered
abbrev pub RecordRow : Leased → Recorded → Out → Leased → Type 0
RecordRow old r out new = (IsTooLate old r × NotesRefusal (refused_number TooLong) out × (new ≡ old))
    ⊎ ((IsTooLate old r → ⊥) × OfferRow old r out new)

-- DONE of its own era: the lease of that number ends, if it lives; else it is stale
abbrev pub note_of : Bool → Note
note_of true = Quiet
note_of false = Stale

abbrev pub DoneRow : Bool → ℕ → Leased → Out → Leased → Type 0
DoneRow true number old out new = (lived : Bool) × IsDone number old.leases lived new.leases × (new.board ≡ old.board)
    × Says out None [] [] (note_of lived)
DoneRow false number old out new = Says out None [] [] Stale × (new ≡ old)

-- nothing happens, but that this is noted
abbrev pub OnlyNotes : Note → Leased → Out → Leased → Type 0
OnlyNotes note old out new = Says out None [] [] note × (new ≡ old)

abbrev pub MessageRow : ℕ → Leased → Message → Out → Leased → Type 0
MessageRow era old (Ask id) out new =
    (reply : Reply) × Asks old.board id old.leases reply new.leases × (new.board ≡ old.board)
    × Says out None [] (reply_of era reply ∷ []) Quiet
MessageRow era old (Rec r) out new = RecordRow old r out new
MessageRow era old (Done named number) out new = DoneRow (named == era) number old out new
MessageRow era old (Grant named number table) out new = OnlyNotes Strange old out new
MessageRow era old (Ack table) out new = OnlyNotes Strange old out new
MessageRow era old (Later table) out new = OnlyNotes Strange old out new
MessageRow era old Stop out new = OnlyNotes Strange old out new

abbrev pub FrameRow : ℕ → Leased → Result Message MsgFault → Out → Leased → Type 0
FrameRow era old (Ok m) out new = MessageRow era old m out new
FrameRow era old (Err fault) out new = OnlyNotes Strange old out new

-- the row of an event
abbrev pub Row : ℕ → Leased → Happening → Out → Leased → Type 0
Row era old (Came frame) out new = FrameRow era old (message_of frame) out new
Row era old (Ticked t) out new = Says out None [] [] Quiet
    × (new ≡ record { board = old.board; leases = ticked t old.leases })
Row era old Worked out new = OnlyNotes Quiet old out new

-- what may take memory to answer: ASK; REC of a table with as many states as the root; DONE of its own era, whose
-- lease lives; a tick at which a lease ends. Nothing else does
abbrev pub MayGrowFor : ℕ → Leased → Result Message MsgFault → Type 0
MayGrowFor era held (Ok (Ask id)) = Unit {0}
MayGrowFor era held (Ok (Rec r)) = r.table.states ≡ held.board.root.states
MayGrowFor era held (Ok (Done named number)) = (named ≡ era) × (is_live held.leases.live number ≡ true)
MayGrowFor era held (Ok (Grant named number table)) = ⊥
MayGrowFor era held (Ok (Ack table)) = ⊥
MayGrowFor era held (Ok (Later table)) = ⊥
MayGrowFor era held (Ok Stop) = ⊥
MayGrowFor era held (Err fault) = ⊥

abbrev pub MayGrow : ℕ → Leased → Happening → Type 0
MayGrow era held (Came frame) = MayGrowFor era held (message_of frame)
MayGrow era held (Ticked t) = SomeEnds (max held.leases.moment t) held.leases.live
MayGrow era held Worked = ⊥

-- what a coordinator with a board answers: by the row, or memory was refused where it may be, and nothing has changed
abbrev pub Gives : ℕ → Leased → Happening → Result Out NodeFault → Leased → Type 0
Gives era old e (Ok out) new = Row era old e out new
Gives era old e (Err NoMemory) new = MayGrow era old e × (new ≡ old)
Gives era old e (Err Stopped) new = ⊥

abbrev pub HeldGives : ℕ → Option Leased → Happening → Result Out NodeFault → Option Leased → Type 0
HeldGives era (Some old) e result (Some new) = Gives era old e result new
HeldGives era (Some old) e result None = ⊥
HeldGives era None e result new = ⊥

-- what a coordinator answers to an event: `Stopped` where it was stopped, and then nothing changes
abbrev pub On : Coordinating → Happening → Result Out NodeFault → Coordinating → Type 0
On old e (Err Stopped) new = (old.stopped ≡ true) × (new ≡ old)
On old e (Err NoMemory) new = (old.stopped ≡ false) × (new ≡ old) × HeldGives old.era old.held e (Err NoMemory) new.held
On old e (Ok out) new = (old.stopped ≡ false) × (new.stopped ≡ false) × (new.era ≡ old.era)
    × HeldGives old.era old.held e (Ok out) new.held
