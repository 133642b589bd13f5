-- Complete is final, and which other records bring a board nothing new.
use Rattle.std.proofs.Common.{◌≡◌, Option, Some, None, ap, ℕ, Bool, true, false, nat_eq, inl, inr, Result, Ok, Err, sym, ◌∙◌, subst, List, [], ◌∷◌, refl, ◌↔◌, IsSome, option_map}
use Rattle.ledger.specs.Terms.{Contents, claim_in, mark_in, mark_by, mark_of, ending_where, ending_in}
use Rattle.cert.specs.Terms.{Recorded, ending_by}
use Rattle.ledger.proofs.Merged.{offer_is_final}
use Rattle.wire.specs.Terms.{Happening, Came, Ticked, Worked, message_of, Message, Ask, Grant, Rec, Ack, Later, Done, Stop}
use Rattle.wire.specs.declared.messages.MsgFault.{MsgFault}
use Rattle.wire.specs.declared.node.NodeFault.{NodeFault}
use Rattle.wire.specs.declared.node.NodeFault.TheVariants.{Stopped, NoMemory}
use Rattle.wire.specs.declared.node.Out.{Out}
use Rattle.leases.specs.Terms.{Leased}
use Rattle.lease_core.specs.CoordinatorRules as coordinating
use Rattle.lease_core.specs.CoordinatorRules.{Coordinating, On, HeldGives, OfferRow, RecordRow, DoneRow, MessageRow}
use Rattle.lease_core.specs.Says.{IsCompleteBoard, KeepsComplete, board_of, IsGrant}
use Rattle.machine_text.specs.Terms.{Packed}
use Rattle.lease_core.specs.WorkerState.{WorkerState, records_on, unacknowledged}
use Rattle.lease_core.specs.WorkerRules.{Answers, AckRow, FrameRow, IsLeft, WorkRow, TickBy, Row}
use Rattle.lease_core.proofs.WorkerLaws.{same_board}
use Rattle.kind_evidence.specs.declared.verdicts.Ending.{Ending}
use Rattle.kind_evidence.specs.declared.verdicts.Ending.TheVariants.{Halts, Never}
use Rattle.law_tree.specs.Terms.{IsVerdict}

-- What is in a place is one thing.
or_else : Option Contents → Contents → Contents
or_else None b = b
or_else (Some a) b = a

pub same_inside : (a b : Contents) → Some a ≡ Some b → a ≡ b
unfolding or_else
same_inside a b e = ap (λ (o : Option Contents). or_else o a) e

-- Complete is final: a coordinator keeps a complete board.
board_of_parts : (old new : Contents) → new.root ≡ old.root → new.records ≡ old.records → new.format ≡ old.format → new ≡ old
board_of_parts old new root records format = λ i. record { root = root i; records = records i; format = format i }

done_keeps : (own : Bool) (number : ℕ) (old new : Leased) (out : Out) → DoneRow own number old out new → new.board ≡ old.board
done_keeps true number old new out row = row.2
done_keeps false number old new out row = ap (λ (l : Leased). l.board) row.1

offer_keeps : (old new : Leased) (r : Recorded) (out : Out) → OfferRow old r out new → IsCompleteBoard old.board → new.board ≡ old.board
offer_keeps old new r out row complete =
    board_of_parts old.board new.board row.2.root (offer_is_final old.board.root old.board.records new.board.records r row.0 complete row.1) row.2.format

record_keeps : (old new : Leased) (r : Recorded) (out : Out) → RecordRow old r out new → IsCompleteBoard old.board → new.board ≡ old.board
record_keeps old new r out row complete = elim row [
  | inl late ↦ ap (λ (l : Leased). l.board) late.2
  | inr offered ↦ offer_keeps old new r out offered.1 complete
]

message_keeps : (era : ℕ) (old new : Leased) (m : Message) (out : Out) → MessageRow era old m out new → IsCompleteBoard old.board → new.board ≡ old.board
message_keeps era old new (Ask id) out row complete = row.2
message_keeps era old new (Rec r) out row complete = record_keeps old new r out row complete
message_keeps era old new (Done named number) out row complete = done_keeps (nat_eq named era) number old new out row
message_keeps era old new (Grant named number table) out row complete = ap (λ (l : Leased). l.board) row.1
message_keeps era old new (Ack table) out row complete = ap (λ (l : Leased). l.board) row.1
message_keeps era old new (Later table) out row complete = ap (λ (l : Leased). l.board) row.1
message_keeps era old new Stop out row complete = ap (λ (l : Leased). l.board) row.1

frame_keeps : (era : ℕ) (old new : Leased) (m : Result Message MsgFault) (out : Out) → coordinating.FrameRow era old m out new → IsCompleteBoard old.board → new.board ≡ old.board
frame_keeps era old new (Ok m) out row complete = message_keeps era old new m out row complete
frame_keeps era old new (Err fault) out row complete = ap (λ (l : Leased). l.board) row.1

row_keeps : (era : ℕ) (old new : Leased) (e : Happening) (out : Out) → coordinating.Row era old e out new → IsCompleteBoard old.board → new.board ≡ old.board
row_keeps era old new (Came frame) out row complete = frame_keeps era old new (message_of frame) out row complete
row_keeps era old new (Ticked t) out row complete = ap (λ (l : Leased). l.board) row.1
row_keeps era old new Worked out row complete = ap (λ (l : Leased). l.board) row.1

held_keeps : (era : ℕ) (old new : Option Leased) (e : Happening) (out : Out) → HeldGives era old e (Ok out) new → KeepsComplete (board_of old) (board_of new)
held_keeps era (Some old) (Some new) e out gives = λ b is complete.
    let same : old.board ≡ b = same_inside old.board b is in
    ap (λ (c : Contents). Some c) (row_keeps era old new e out gives (subst IsCompleteBoard (sym same) complete) ∙ same)
held_keeps era (Some old) None e out gives = absurd gives
held_keeps era None new e out gives = absurd gives

pub coordinator_keeps : (old : Coordinating) (e : Happening) (r : Result Out NodeFault) (new : Coordinating) → On old e r new → KeepsComplete (board_of old.held) (board_of new.held)
coordinator_keeps old e (Ok out) new on = held_keeps old.era old.held new.held e out on.3
coordinator_keeps old e (Err Stopped) new on = λ b is complete. ap (λ (c : Coordinating). board_of c.held) on.1 ∙ is
coordinator_keeps old e (Err NoMemory) new on = λ b is complete. ap (λ (c : Coordinating). board_of c.held) on.1 ∙ is

-- Complete is final: a worker keeps a complete board, unless it is granted another table.
ack_keeps : {D : Type 0} (old : WorkerState D) (t : Packed) (out : Out) (new : WorkerState D) → AckRow old t out new → new.board ≡ old.board
ack_keeps old t out new row = elim row [
  | inl held ↦ same_board held.2
  | inr stale ↦ same_board stale.1.1
]

told_keeps : {D : Type 0} (old : WorkerState D) (m : Result Message MsgFault) (out : Out) (new : WorkerState D) → FrameRow old m out new
    → ((era : ℕ) (number : ℕ) (t : Packed) → m ≡ Ok (Grant era number t) → ⊥) → new.board ≡ old.board
told_keeps old (Ok (Grant era number t)) out new row other = absurd (other era number t refl)
told_keeps old (Ok (Ack t)) out new row other = ack_keeps old t out new row
told_keeps old (Ok (Later t)) out new row other = same_board row.1
told_keeps old (Ok Stop) out new row other = same_board row.1
told_keeps old (Ok (Ask id)) out new row other = same_board row.1
told_keeps old (Ok (Rec r)) out new row other = same_board row.1
told_keeps old (Ok (Done era number)) out new row other = same_board row.1
told_keeps old (Err f) out new row other = same_board row.1

tick_keeps : {D : Type 0} (old : WorkerState D) (rests : Bool) (rs : List Recorded) (out : Out) (new : WorkerState D) → TickBy rests rs old out new → new.board ≡ old.board
tick_keeps old true rs out new row = same_board row.1
tick_keeps old false (r ∷ rs) out new row = same_board row.1
tick_keeps old false [] out new row = elim row [
  | inl works ↦ same_board works.1.1
  | inr asks ↦ same_board asks.2
]

work_keeps : {D : Type 0} (asked : D → Packed → Recorded → Type 0) (old : WorkerState D) (out : Out) (new : WorkerState D) → WorkRow asked old out new → KeepsComplete old.board new.board
work_keeps asked old out new row = λ b is complete. elim row [
  | inl none ↦ same_board none.1.1 ∙ is
  | inr made ↦
      let same : made.0 ≡ b = same_inside made.0 b (sym made.2 ∙ is) in
      absurd ((subst IsCompleteBoard (sym same) complete).none_open made.1.table made.4.first.0)
]

happens_keeps : {D : Type 0} (asked : D → Packed → Recorded → Type 0) (old : WorkerState D) (e : Happening) (out : Out) (new : WorkerState D) → Row asked old e out new → (IsGrant e → ⊥) → KeepsComplete old.board new.board
happens_keeps asked old (Came frame) out new row other = λ b is complete.
    told_keeps old (message_of frame) out new row (λ era number t m. other (era, number, t, m)) ∙ is
happens_keeps asked old (Ticked t) out new row other = λ b is complete. tick_keeps old old.rests (unacknowledged old.acknowledged (records_on old.board)) out new row ∙ is
happens_keeps asked old Worked out new row other = work_keeps asked old out new row

left_board : {D : Type 0} (old : WorkerState D) (e : Happening) (new : WorkerState D) → IsLeft e old new → new.board ≡ old.board
left_board old (Came frame) new left = same_board left
left_board old (Ticked t) new left = same_board left
left_board old Worked new left = same_board left

pub worker_keeps : {D : Type 0} (asked : D → Packed → Recorded → Type 0) (old : WorkerState D) (e : Happening) (r : Result Out NodeFault) (new : WorkerState D) → Answers asked old e r new → (IsGrant e → ⊥) → KeepsComplete old.board new.board
worker_keeps asked old e (Ok out) new gives other = happens_keeps asked old e out new gives.1 other
worker_keeps asked old e (Err Stopped) new gives other = λ b is complete. same_board gives.1 ∙ is
worker_keeps asked old e (Err NoMemory) new gives other = λ b is complete. left_board old e new gives.2 ∙ is

-- Which records bring a board nothing new, by what is recorded of their tables.
has_verdict : (v : Option Ending) → IsSome v → IsVerdict (Some (mark_by v))
has_verdict (Some (Halts k)) some = tt
has_verdict (Some Never) some = tt
has_verdict None some = absurd (cc)

of_verdict : (v : Option Ending) → IsVerdict (Some (mark_by v)) → IsSome v
of_verdict (Some v) is = refl
of_verdict None is = absurd is

marked : (rs : List Recorded) (r : Recorded) → IsSome (ending_in rs r.table) → IsVerdict (mark_in rs r.table)
marked rs r some = elim (claim_in rs r.table) as (λ o. IsSome (ending_where o) → IsVerdict (option_map mark_of o)) [
  | Some c ↦ λ some. has_verdict (ending_by c) some
  | None ↦ λ some. absurd (cc)
] some

shown : (rs : List Recorded) (r : Recorded) → IsVerdict (mark_in rs r.table) → IsSome (ending_in rs r.table)
shown rs r is = elim (claim_in rs r.table) as (λ o. IsVerdict (option_map mark_of o) → IsSome (ending_where o)) [
  | Some c ↦ λ is. of_verdict (ending_by c) is
  | None ↦ λ is. absurd is
] is
