-- What a worker answers to each thing that happens, and what it is then.
use Rattle.std.specs.Prelude.{◌≡◌, ℕ, ◌<◌, ◌⊎◌, Bool, true, false, List, [], ◌∷◌, ◌++◌, Option, Some, None, Result, Ok, Err, map, take, length}
use Rattle.std.specs.List.{list_any}
use Rattle.std.specs.Ordering.{nat_cmp}
use Rattle.std.specs.declared.cmp.Ordering.TheVariants.{Less}
use Rattle.std.specs.Cmp.Lexicographic.{slice_cmp}
use Rattle.machine_text.specs.Terms.{Packed, entry_of, text_of}
use Rattle.law_tree.specs.Terms.{InOrder}
use Rattle.cert.specs.Terms.{Recorded, with_score}
use Rattle.ledger.specs.Terms.{Contents, IsBoard, IsOpenOn, IsFit, same_table, ledger_text}
use Rattle.wire.specs.declared.node.Out.{Out}
use Rattle.wire.specs.declared.node.Note.{Note}
use Rattle.wire.specs.declared.node.Note.TheVariants.{Quiet, Strange, Stale, Refused}
use Rattle.wire.specs.declared.node.NodeFault.{NodeFault}
use Rattle.wire.specs.declared.node.NodeFault.TheVariants.{Stopped, NoMemory}
use Rattle.wire.specs.declared.messages.MsgFault.{MsgFault}
use Rattle.wire.specs.Terms.{Happening, Came, Ticked, Worked, Message, Ask, Grant, Rec, Ack, Later, Done, Stop, message_of}
use Rattle.lease_core.specs.Limits.{work_record_limit, tick_record_limit}
use Rattle.lease_core.specs.Says.{Says, lines_of}
use Rattle.lease_core.specs.declared.worker_answers.LeaseName.{LeaseName}
use Rattle.lease_core.specs.WorkerState.{WorkerState, empty_board, with_record, HasRoot, IsRecordedOn, MayWork, records_on, with_table, unacknowledged}

-- the first open table, in the order of texts: each other one comes after it
abbrev pub IsFirstOpen : Contents → Packed → Type 0
IsFirstOpen b t = IsOpenOn b t × ((q : Packed) → IsOpenOn b q → (q ≡ t)
    ⊎ (slice_cmp nat_cmp (text_of t) (text_of q) ≡ Less))

-- a record of the first open table was made: it is fit, it comes last on the board with its score, and is sent so
pub record Makes (b : Contents) (r : Recorded) (out : Out) (board : Option Contents) : Type 0 where
  pub is_board : IsBoard b
  pub first : IsFirstOpen b r.table
  pub few : length b.records < work_record_limit
  pub fit : IsFit b.root b.records r
  pub says : Says out None (lines_of b.format (with_score r ∷ [])) (Rec (with_score r) ∷ []) Quiet
  pub taken : board ≡ Some (with_record b r)

-- a lease that ends
abbrev pub done_with : Option LeaseName → List Message
done_with None = []
done_with (Some name) = Done name.era name.number ∷ []

module _ {D : Type 0} where
  -- it stays as it is, and only notes this
  abbrev pub Notes : Note → WorkerState D → Out → WorkerState D → Type 0
  Notes note old out new = Says out None [] [] note × (new ≡ old)

  -- under a lease of this name, with this board: no record of it is acknowledged, and a former `STOP` is forgotten
  abbrev pub granted : WorkerState D → LeaseName → Option Contents → WorkerState D
  granted w name board = record {
    id = w.id;
    decider = w.decider;
    board = board;
    lease = Some name;
    acknowledged = [];
    rests = false;
    stopped = w.stopped;
  }

  -- `GRANT`: of a table that doesn't name its states in order; of the root of its board; of another table, whose board is begun
  abbrev pub GrantRow : WorkerState D → LeaseName → Packed → Out → WorkerState D → Type 0
  GrantRow old name t out new =
      ((((u : ℕ) × InOrder u (entry_of t)) → ⊥) × Notes (Refused 401) old out new)
      ⊎ (((u : ℕ) × InOrder u (entry_of t)) × HasRoot old.board t × Says out None [] [] Quiet
      × (new ≡ granted old name old.board))
      ⊎ (IsBoard (empty_board t) × (HasRoot old.board t → ⊥) × Says out (Some 0) (ledger_text t []) [] Quiet
      × (new ≡ granted old name (Some (empty_board t))))

  -- `ACK`: of a record of its board, which is acknowledged; of no such record
  abbrev pub AckRow : WorkerState D → Packed → Out → WorkerState D → Type 0
  AckRow old t out new =
      (IsRecordedOn old.board t × Says out None [] [] Quiet
      × (new ≡ record old { acknowledged = with_table old.acknowledged t }))
      ⊎ ((IsRecordedOn old.board t → ⊥) × Notes Stale old out new)

  -- a frame, by the message that it is
  abbrev pub FrameRow : WorkerState D → Result Message MsgFault → Out → WorkerState D → Type 0
  FrameRow old (Ok (Grant era number t)) out new = GrantRow old (record { era = era; number = number }) t out new
  FrameRow old (Ok (Ack t)) out new = AckRow old t out new
  FrameRow old (Ok (Later t)) out new = Notes Quiet old out new
  FrameRow old (Ok Stop) out new = Says out None [] [] Quiet × (new ≡ record old { rests = true })
  FrameRow old (Ok (Ask id)) out new = Notes Strange old out new
  FrameRow old (Ok (Rec r)) out new = Notes Strange old out new
  FrameRow old (Ok (Done era number)) out new = Notes Strange old out new
  FrameRow old (Err f) out new = Notes Strange old out new

  -- a tick, by whether it rests and by the records that aren't acknowledged
  abbrev pub TickBy : Bool → List Recorded → WorkerState D → Out → WorkerState D → Type 0
  TickBy true rs old out new = Notes Quiet old out new
  TickBy false (r ∷ rs) old out new = Says out None [] (map Rec (take tick_record_limit (r ∷ rs))) Quiet × (new ≡ old)
  TickBy false [] old out new =
      (MayWork old.board × Notes Quiet old out new)
      ⊎ ((MayWork old.board → ⊥) × Says out None [] (done_with old.lease ++ (Ask old.id ∷ [])) Quiet
      × (new ≡ record old { lease = None }))

  abbrev pub TickRow : WorkerState D → Out → WorkerState D → Type 0
  TickRow old out new = TickBy old.rests (unacknowledged old.acknowledged (records_on old.board)) old out new

  -- what may take memory to answer: `GRANT` of a table that names its states in order and isn't the root of its
  -- board; `ACK` of a record of its board that isn't acknowledged yet; a tick at which something is sent; a work turn
  -- that makes a record. Nothing else does
  abbrev pub MayGrowFor : WorkerState D → Result Message MsgFault → Type 0
  MayGrowFor w (Ok (Grant era number t)) = ((u : ℕ) × InOrder u (entry_of t)) × (HasRoot w.board t → ⊥)
  MayGrowFor w (Ok (Ack t)) = IsRecordedOn w.board t × (list_any (same_table t) w.acknowledged ≡ false)
  MayGrowFor w (Ok (Later t)) = ⊥
  MayGrowFor w (Ok Stop) = ⊥
  MayGrowFor w (Ok (Ask id)) = ⊥
  MayGrowFor w (Ok (Rec r)) = ⊥
  MayGrowFor w (Ok (Done era number)) = ⊥
  MayGrowFor w (Err fault) = ⊥

  -- at a tick, by whether it rests and by the records that aren't acknowledged
  abbrev pub MayGrowBy : Bool → List Recorded → WorkerState D → Type 0
  MayGrowBy true rs w = ⊥
  MayGrowBy false (r ∷ rs) w = Unit {0}
  MayGrowBy false [] w = MayWork w.board → ⊥

  abbrev pub MayGrowAtTick : WorkerState D → Type 0
  MayGrowAtTick w = MayGrowBy w.rests (unacknowledged w.acknowledged (records_on w.board)) w

  abbrev pub MayGrow : WorkerState D → Happening → Type 0
  MayGrow w (Came frame) = MayGrowFor w (message_of frame)
  MayGrow w (Ticked t) = MayGrowAtTick w
  MayGrow w Worked = MayWork w.board

  -- what is there after refused memory: all as it was, but that a work turn may have asked the decider
  abbrev pub IsLeft : Happening → WorkerState D → WorkerState D → Type 0
  IsLeft (Came frame) old new = new ≡ old
  IsLeft (Ticked t) old new = new ≡ old
  IsLeft Worked old new = new ≡ record old { decider = new.decider }

-- by what a decider may answer for a table
module _ {D : Type 0} (asked : D → Packed → Recorded → Type 0) where
  -- a work turn: of the first open table the record is made that the decider answers; where none is to be made, it isn't asked
  abbrev pub WorkRow : WorkerState D → Out → WorkerState D → Type 0
  WorkRow old out new =
      ((MayWork old.board → ⊥) × Notes Quiet old out new)
      ⊎ ((b : Contents) × (r : Recorded) × (old.board ≡ Some b) × asked old.decider r.table r × Makes b r out new.board
      × (new ≡ record old { decider = new.decider; board = new.board }))

  abbrev pub Row : WorkerState D → Happening → Out → WorkerState D → Type 0
  Row old (Came frame) out new = FrameRow old (message_of frame) out new
  Row old (Ticked t) out new = TickRow old out new
  Row old Worked out new = WorkRow old out new

  -- how a worker answers: `Stopped` where it is stopped; else by the row of what happens, or memory was refused where it
  -- may be
  abbrev pub Answers : WorkerState D → Happening → Result Out NodeFault → WorkerState D → Type 0
  Answers old e (Ok out) new = (old.stopped ≡ false) × Row old e out new
  Answers old e (Err Stopped) new = (old.stopped ≡ true) × (new ≡ old)
  Answers old e (Err NoMemory) new = (old.stopped ≡ false) × MayGrow old e × IsLeft e old new
