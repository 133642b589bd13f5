-- What only the code of this crate needs.
use Rattle.std.specs.Prelude.{◌≡◌, ℕ, Bool, true, Result, Ok, Err, ◌≤◌, List, [], length, take}
use Rattle.cert.specs.Terms.{Recorded}
use Rattle.wire.specs.Terms.{Message, Ask, Grant, Rec, Ack, Later, Done, Stop}
use Rattle.wire.specs.declared.messages.MsgFault.{MsgFault}
use Rattle.wire.specs.declared.node.NodeFault.{NodeFault}
use Rattle.wire.specs.declared.node.NodeFault.TheVariants.{Stopped, NoMemory}
use Rattle.wire.specs.declared.node.Out.{Out}
use Rattle.leases.specs.Terms.{Leased, is_live}
use Rattle.lease_core.specs.CoordinatorRules.{FrameRow, MayGrowFor, MessageRow, OfferRow, RecordRow, DoneRow}
use Rattle.machine_text.specs.Terms.{Packed}
use Rattle.lease_core.specs.WorkerState.{unacknowledged}
use Rattle.lease_core.specs.declared.worker_answers.Tidings.{Tidings}
use Rattle.lease_core.specs.declared.worker_answers.Tidings.TheVariants.{Granted, Acknowledged, Later as NoneNow, Stop as Rest, Strange}
pub mod Begun

-- For the code: what each part of a coordinator answers.

-- by its row, or memory was refused where it may be, and nothing has changed
abbrev pub ByRow : (Out → Type 0) → Type 0 → Leased → Result Out NodeFault → Leased → Type 0
ByRow row may_grow old (Ok out) new = row out
ByRow row may_grow old (Err NoMemory) new = may_grow × (new ≡ old)
ByRow row may_grow old (Err Stopped) new = ⊥

abbrev pub GivesFrame : ℕ → Leased → Result Message MsgFault → Result Out NodeFault → Leased → Type 0
GivesFrame era old m result new = ByRow (λ out. FrameRow era old m out new) (MayGrowFor era old m) old result new

abbrev pub GivesMessage : ℕ → Leased → Message → Result Out NodeFault → Leased → Type 0
GivesMessage era old m result new = ByRow (λ out. MessageRow era old m out new) (MayGrowFor era old (Ok m)) old result
    new

abbrev pub GivesJudged : Leased → Recorded → Result Out NodeFault → Leased → Type 0
GivesJudged old r result new = ByRow (λ out. RecordRow old r out new) (r.table.states ≡ old.board.root.states) old
    result new

abbrev pub GivesOffer : Leased → Recorded → Result Out NodeFault → Leased → Type 0
GivesOffer old r result new = ByRow (λ out. OfferRow old r out new) (r.table.states ≡ old.board.root.states) old result
    new

abbrev pub GivesDone : Bool → ℕ → Leased → Result Out NodeFault → Leased → Type 0
GivesDone is_own number old result new = ByRow (λ out. DoneRow is_own number old out new)
    ((is_own ≡ true) × (is_live old.leases.live number ≡ true)) old result new

-- For the code: from which place on records may be due.

-- all records before the place are acknowledged, and it isn't past their end
pub record AreFirstAcknowledged (tables : List Packed) (rs : List Recorded) (place : ℕ) : Type 0 where
  pub none_due : unacknowledged tables (take place rs) ≡ []
  pub within : place ≤ length rs

-- For the code: what a frame tells a worker.
abbrev pub AreTidings : Result Message MsgFault → Tidings → Type 0
AreTidings (Ok (Grant era number t)) tidings_of = tidings_of ≡ Granted (record { era = era; number = number }) t
AreTidings (Ok (Ack t)) tidings_of = tidings_of ≡ Acknowledged t
AreTidings (Ok (Later t)) tidings_of = tidings_of ≡ NoneNow
AreTidings (Ok Stop) tidings_of = tidings_of ≡ Rest
AreTidings (Ok (Ask id)) tidings_of = tidings_of ≡ Strange
AreTidings (Ok (Rec r)) tidings_of = tidings_of ≡ Strange
AreTidings (Ok (Done era number)) tidings_of = tidings_of ≡ Strange
AreTidings (Err f) tidings_of = tidings_of ≡ Strange
