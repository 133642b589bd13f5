-- The cores of a pool, what they wait for, its work, and what it does with the lines that come from the coordinator.
use Rattle.std.specs.Prelude.{ℕ, ◌+◌, ◌-◌, ◌^◌, ◌==◌, ◌&&◌, min, Bool, ◌<◌, ◌≤◌, false, List, Option, IfSome, All, length, ◌≡◌, ◌⊎◌, ◌++◌, Some, Result, Ok, Err, set, slice_get, replicate, not, true, if◌then◌else◌, [], map, zero, suc, ◌∷◌, position, unwrap_or}
use Rattle.std.specs.List.{list_any}
use Rattle.peers.specs.declared.pool_core.Awaited.{Awaited}
use Rattle.wire.specs.Terms.{Stream, Happening, grown, Answering, Faulted, kept_text, scene, Ticked, Worked, Came, fed, frame_of, message_of}
use Rattle.peers.specs.declared.pool_core.Core.{Core}
use Rattle.peers.specs.declared.pool_core.Course.{Course}
use Rattle.peers.specs.declared.pool_core.Course.TheVariants.{Work, Later, Stop}
use Rattle.wire.specs.declared.node.Out.{Out}
use Rattle.wire.specs.declared.handing.TurnFault.{TurnFault}
use Rattle.wire.specs.declared.handing.TurnFault.TheVariants.{NoMemory}
use Rattle.peers.specs.Frames.{asks_in, records_in, heard_as}
use Rattle.wire.specs.declared.node.Note.{Note}
use Rattle.wire.specs.declared.node.Note.TheVariants.{Quiet, Strange, Stale, Refused}
use Rattle.peers.specs.declared.pool.Waits.{Waits}
use Rattle.peers.specs.declared.pool.Waits.TheVariants.{Answers, Later as Pause, Nothing}
use Rattle.peers.specs.Limits.{work_turn_limit}
use Rattle.text.specs.Terms.{BoundedLine}
use Rattle.peers.specs.declared.hearing.Heard.{Heard}
use Rattle.peers.specs.declared.hearing.Heard.TheVariants.{Answer, Receipt, Other}

-- How many answers a core waits for: to an `ASK`, and on a record.
abbrev pub none : Awaited
none = record { asks = 0; records = 0 }

abbrev pub is_none : Awaited → Bool
is_none due = (due.asks == 0) && (due.records == 0)

-- a sum, as far as 64 bits go
abbrev pub capped_sum : ℕ → ℕ → ℕ
capped_sum count more = min (count + more) (2 ^ 64 - 1)

abbrev pub added : Awaited → Awaited → Awaited
added due more = record { asks = capped_sum due.asks more.asks; records = capped_sum due.records more.records }

-- The cores of a pool, and what the pool knows of them.

-- the cores; the places of those whose `ASK`s are unanswered, the oldest first; and the place of the one that took the
-- last word on a record
pub record Crewed (N W : Type 0) : Type 0 where
  pub cores : List (Core N W)
  pub asks : List ℕ
  pub latest : ℕ

-- with what came over the stream
pub record Pooled (N W : Type 0) : Type 0 where
  pub crew : Crewed N W
  pub lines : Stream

-- a crew, and what its link took to be sent
pub record Hall (N W : Type 0) : Type 0 where
  pub crew : Crewed N W
  pub sent : Option (List ℕ)

abbrev pub hall : {N W : Type 0} → Crewed N W → Option (List ℕ) → Hall N W
hall crew sent = record { crew = crew; sent = sent }

-- each place is one of a core
abbrev pub ArePlaces : {N W : Type 0} → List ℕ → List (Core N W) → Type 0
ArePlaces places cores = All (λ place. place < length cores) places

-- and the place of the last word is one where there is one
abbrev pub IsLatest : {N W : Type 0} → ℕ → List (Core N W) → Type 0
IsLatest latest cores = latest ≤ length cores - 1

-- a core that joins: nothing of it is due
abbrev pub joining : {N W : Type 0} → N → W → Core N W
joining node ledger = record { node = node; ledger = ledger; due = none; course = Work }

-- a word came on one of its records
abbrev pub with_word : {N W : Type 0} → Core N W → Core N W
with_word core = record core { due = record core.due { records = core.due.records - 1 } }

-- an `ASK` of it was answered, which says how it goes on
abbrev pub directed : {N W : Type 0} → Course → Core N W → Core N W
directed course core = record core { due = record core.due { asks = core.due.asks - 1 }; course = course }

-- a core is ticked where nothing of it is due, and it wasn't told to come later or to stop
abbrev pub is_ready_at : Course → Awaited → Bool
is_ready_at Work due = is_none due
is_ready_at Later due = false
is_ready_at Stop due = false

abbrev pub is_ready : {N W : Type 0} → Core N W → Bool
is_ready core = is_ready_at core.course core.due

-- each ledger whose text is known is in step with its node
abbrev pub AreInStep : {N W : Type 0} → (N → List ℕ → Type 0) → (W → Option (List ℕ)) → List (Core N W) → Type 0
AreInStep in_step text cores = All (λ core. IfSome (text core.ledger) (in_step core.node)) cores

-- What it means that a core of a pool is handed an event: it alone answers, and its answer is fulfilled.

-- what some frames wait for
abbrev pub due_in : List ℕ → Awaited
due_in frames = record { asks = asks_in frames; records = records_in frames }

-- the core at this place became another one, and no other changed
pub record Replaces {N W : Type 0} (place : ℕ) (core next : Core N W) (old new : List (Core N W)) : Type 0 where
  pub at : slice_get old place ≡ Some core
  pub others : new ≡ set old place next

-- what follows, unless there was a fault, with which all ends
abbrev pub Then : {N W : Type 0} → Result (Unit {0}) TurnFault → Hall N W → Result (Unit {0}) TurnFault → Hall N W
    → Type 0 → Type 0
Then (Ok done) at result new more = more
Then (Err fault) at result new more = (result ≡ Err fault) × (new ≡ at)

-- an answer, without what it says
abbrev pub without_answer : Result Out TurnFault → Result (Unit {0}) TurnFault
without_answer (Ok out) = Ok tt
without_answer (Err fault) = Err fault

module _ {N W : Type 0} (answers : Answering N) (is_stopped : N → Type 0) (text : W → Option (List ℕ)) where
  -- a core's answer is fulfilled whole: its ledger has its part, its frames were sent, and so many more of them are due
  -- as the coordinator answers
  abbrev pub Fulfils : Core N W → Happening → Out → Core N W → Option (List ℕ) → Option (List ℕ) → Type 0
  Fulfils core event out next old new =
      answers core.node event (Ok out) next.node × (text next.ledger ≡ kept_text out (text core.ledger))
      × (next.due ≡ added core.due (due_in out.frames.items)) × (next.course ≡ core.course)
      × (new ≡ grown old out.frames.items)

  -- or it isn't, as `wire` says of a node, its ledger and its link; or memory was refused for the places of its `ASK`s
  abbrev pub Fails : Core N W → Happening → TurnFault → Core N W → Option (List ℕ) → Option (List ℕ) → Type 0
  Fails core event fault next old new =
      Faulted answers is_stopped (scene core.node (text core.ledger) old) event fault
      (scene next.node (text next.ledger) new)
      ⊎ ((fault ≡ NoMemory) × (out : Out) × Fulfils core event out next old new)

  -- the core at this place was handed an event. Each `ASK` of its answer is remembered behind the others. After a fault
  -- the other cores are as they were
  abbrev pub Handed : ℕ → Happening → Result Out TurnFault → Hall N W → Hall N W → Type 0
  Handed place event (Ok out) old new =
      (core : Core N W) × (next : Core N W) × Replaces place core next old.crew.cores new.crew.cores
      × Fulfils core event out next old.sent new.sent
      × (new.crew.asks ≡ old.crew.asks ++ replicate (asks_in out.frames.items) place)
      × (new.crew.latest ≡ old.crew.latest)
  Handed place event (Err fault) old new =
      (core : Core N W) × (next : Core N W) × Replaces place core next old.crew.cores new.crew.cores
      × Fails core event fault next old.sent new.sent

-- What a pool waits for, and what becomes of its cores between the turns.
abbrev pub is_stopped_at : Course → Bool
is_stopped_at Work = false
is_stopped_at Later = false
is_stopped_at Stop = true

abbrev pub is_later_at : Course → Bool
is_later_at Work = false
is_later_at Later = true
is_later_at Stop = false

-- told to ask again later, whoever wasn't told to stop
abbrev pub later_at : Course → Course
later_at Work = Later
later_at Later = Later
later_at Stop = Stop

abbrev pub woken_at : Course → Course
woken_at Work = Work
woken_at Later = Work
woken_at Stop = Stop

module _ {N W : Type 0} where
  abbrev pub is_awaiting : Core N W → Bool
  is_awaiting core = not (is_none core.due)

  abbrev pub is_going : Core N W → Bool
  is_going core = not (is_stopped_at core.course)

  abbrev pub is_later : Core N W → Bool
  is_later core = is_later_at core.course

  -- for answers where some core has a frame that is unanswered, else for a later moment where some core wasn't told to
  -- stop
  abbrev pub waits_of : List (Core N W) → Waits
  waits_of cores = if list_any is_awaiting cores then Answers else if list_any is_going cores then Pause else Nothing

  -- who was told to come later is to work again
  abbrev pub woken : Core N W → Core N W
  woken core = record core { course = woken_at core.course }

  -- who doesn't take the answer to its `ASK` asks again later
  abbrev pub heeding : Note → Core N W → Core N W
  heeding Quiet core = core
  heeding Strange core = record core { course = later_at core.course }
  heeding Stale core = record core { course = later_at core.course }
  heeding (Refused number) core = record core { course = later_at core.course }

  -- nothing that was sent counts as unanswered
  abbrev pub forgiven : Core N W → Core N W
  forgiven core = record core { due = none }

  abbrev pub with_nothing_due : Crewed N W → Crewed N W
  with_nothing_due crew = record { cores = map forgiven crew.cores; asks = []; latest = crew.latest }

-- What a pool's cores do where there is time: each in turn works as long as its answers have frames, and then is
-- ticked.
module _ {N W : Type 0} where
  -- by the frames of an answer: none, and the turns end; or more turns follow
  abbrev pub AfterTurn : List ℕ → Hall N W → Result (Unit {0}) TurnFault → Hall N W → Type 0 → Type 0
  AfterTurn [] at result new more = (result ≡ Ok tt) × (new ≡ at)
  AfterTurn (byte ∷ frames) at result new more = more

  abbrev pub AfterWork : Result Out TurnFault → Hall N W → Result (Unit {0}) TurnFault → Hall N W → Type 0 → Type 0
  AfterWork (Ok out) at result new more = AfterTurn out.frames.items at result new more
  AfterWork (Err fault) at result new more = (result ≡ Err fault) × (new ≡ at)

module _ {N W : Type 0} (answers : Answering N) (is_stopped : N → Type 0) (text : W → Option (List ℕ)) where
  -- the core at a place gets work turns, until one's answer has no frames, but so many at most
  unfoldable pub Turns : ℕ → ℕ → Result (Unit {0}) TurnFault → Hall N W → Hall N W → Type 0
  Turns zero place result old new = (result ≡ Ok tt) × (new ≡ old)
  Turns (suc left) place result old new =
      (answer : Result Out TurnFault) × (at : Hall N W) × Handed answers is_stopped text place Worked answer old at
      × AfterWork answer at result new (Turns left place result at new)

  -- it is ticked where it is ready. The moment of the tick says nothing to a worker
  abbrev pub TicksWhen : Bool → ℕ → Result (Unit {0}) TurnFault → Hall N W → Hall N W → Type 0
  TicksWhen true place result old new =
      (answer : Result Out TurnFault) × Handed answers is_stopped text place (Ticked 0) answer old new
      × (result ≡ without_answer answer)
  TicksWhen false place result old new = (result ≡ Ok tt) × (new ≡ old)

  abbrev pub Ticks : ℕ → Result (Unit {0}) TurnFault → Hall N W → Hall N W → Type 0
  Ticks place result old new =
      (core : Core N W) × (slice_get old.crew.cores place ≡ Some core) × TicksWhen (is_ready core) place result old new

  -- both, one after the other
  abbrev pub Serves : ℕ → ℕ → Result (Unit {0}) TurnFault → Hall N W → Hall N W → Type 0
  Serves limit place result old new =
      (first : Result (Unit {0}) TurnFault) × (at : Hall N W) × Turns limit place first old at
      × Then first at result new (Ticks place result at new)

  -- the cores from a place on, so many of them
  unfoldable pub ServesFrom : ℕ → ℕ → ℕ → Result (Unit {0}) TurnFault → Hall N W → Hall N W → Type 0
  ServesFrom limit zero place result old new = (result ≡ Ok tt) × (new ≡ old)
  ServesFrom limit (suc left) place result old new =
      (first : Result (Unit {0}) TurnFault) × (at : Hall N W) × Serves limit place first old at
      × Then first at result new (ServesFrom limit left (suc place) result at new)

  -- every core in its turn
  abbrev pub Works : Result (Unit {0}) TurnFault → Hall N W → Hall N W → Type 0
  Works result old new = ServesFrom work_turn_limit (length old.crew.cores) 0 result old new

-- What a pool does with the lines that come from the coordinator, which answers the frames of a stream in their order:
-- the answer to an `ASK` is for the core whose `ASK` is the oldest that is unanswered, the word on a record for one
-- that has the record.

-- the place behind a place, the first behind the last
abbrev pub next_place : ℕ → ℕ → ℕ
next_place count place = if suc place == count then 0 else suc place

-- whether a core that notes this has the record
abbrev pub has_it : Note → Bool
has_it Stale = false
has_it Quiet = true
has_it Strange = true
has_it (Refused number) = true

module _ {N W : Type 0} where
  -- the oldest `ASK` is answered, that of the core at a place, which goes on so
  abbrev pub with_course : Course → ℕ → List ℕ → Core N W → Crewed N W → Crewed N W
  with_course course place asks core crew =
      record { cores = set crew.cores place (directed course core); asks = asks; latest = crew.latest }

  -- a word is due on a record of a core
  abbrev pub is_word_due : Core N W → Bool
  is_word_due core = not (core.due.records == 0)

  -- as whose a word on a record counts: as that of the core that took it, or, where none is due on a record of that
  -- one, of the first on whose record one is
  abbrev pub owing : ℕ → Core N W → List (Core N W) → ℕ
  owing place core cores = if is_word_due core then place else unwrap_or (position is_word_due cores) place

-- the core at a place took the word on a record
pub record TakesWord {N W : Type 0} (place : ℕ) (old new : Crewed N W) : Type 0 where
  pub core : Core N W
  pub at : slice_get old.cores place ≡ Some core
  pub other : Core N W
  pub owes : slice_get old.cores (owing place core old.cores) ≡ Some other
  pub cores : new.cores ≡ set old.cores (owing place core old.cores) (with_word other)
  pub asks : new.asks ≡ old.asks
  pub latest : new.latest ≡ place

-- the core at a place goes on as it notes the answer to its `ASK`
pub record Heeds {N W : Type 0} (place : ℕ) (note : Note) (old new : Crewed N W) : Type 0 where
  pub core : Core N W
  pub at : slice_get old.cores place ≡ Some core
  pub cores : new.cores ≡ set old.cores place (heeding note core)
  pub asks : new.asks ≡ old.asks
  pub latest : new.latest ≡ old.latest

module _ {N W : Type 0} where
  abbrev pub AfterAnswer : Result Out TurnFault → ℕ → Hall N W → Hall N W → Type 0
  AfterAnswer (Ok out) place at new = Heeds place out.note at.crew new.crew × (new.sent ≡ at.sent)
  AfterAnswer (Err fault) place at new = new ≡ at

  -- a core that has the record took the word; else the next one is asked
  abbrev pub AfterNote : Bool → ℕ → Hall N W → Result (Unit {0}) TurnFault → Hall N W → Type 0 → Type 0
  AfterNote true place at result new more = TakesWord place at.crew new.crew × (new.sent ≡ at.sent) × (result ≡ Ok tt)
  AfterNote false place at result new more = more

  abbrev pub AfterOffer : Result Out TurnFault → ℕ → Hall N W → Result (Unit {0}) TurnFault → Hall N W → Type 0 → Type 0
  AfterOffer (Ok out) place at result new more = AfterNote (has_it out.note) place at result new more
  AfterOffer (Err fault) place at result new more = (result ≡ Err fault) × (new ≡ at)

  -- what is left behind a line, unless it brought a fault: then the lines behind it are left
  abbrev pub AfterLine : Result (Unit {0}) TurnFault → List BoundedLine → Hall N W → Result (Unit {0}) TurnFault
      → List BoundedLine → Hall N W → Type 0 → Type 0
  AfterLine (Ok done) behind at result left new more = more
  AfterLine (Err fault) behind at result left new more = (result ≡ Err fault) × (left ≡ behind) × (new ≡ at)

module _ {N W : Type 0} (answers : Answering N) (is_stopped : N → Type 0) (text : W → Option (List ℕ)) where
  -- the answer to an `ASK`: nobody gets one that nobody asked for, and who doesn't take it asks again later
  abbrev pub AnswersOldest : Course → List ℕ → List ℕ → Result (Unit {0}) TurnFault → Hall N W → Hall N W → Type 0
  AnswersOldest course frame [] result old new = (result ≡ Ok tt) × (new ≡ old)
  AnswersOldest course frame (place ∷ asks) result old new =
      (core : Core N W) × (slice_get old.crew.cores place ≡ Some core) × (answer : Result Out TurnFault)
      × (at : Hall N W) × Handed answers is_stopped text place (Came frame) answer
      (hall (with_course course place asks core old.crew) old.sent) at
      × AfterAnswer answer place at new × (result ≡ without_answer answer)

  -- the word on a record is handed to so many cores in turn from a place on, as far as one that took it
  unfoldable pub Offers : ℕ → ℕ → List ℕ → Result (Unit {0}) TurnFault → Hall N W → Hall N W → Type 0
  Offers zero place frame result old new = (result ≡ Ok tt) × (new ≡ old)
  Offers (suc left) place frame result old new =
      (answer : Result Out TurnFault) × (at : Hall N W)
      × Handed answers is_stopped text place (Came frame) answer old at
      × AfterOffer answer place at result new
      (Offers left (next_place (length at.crew.cores) place) frame result at new)

  -- a line, by what it is
  abbrev pub HearsAs : Heard → List ℕ → Result (Unit {0}) TurnFault → Hall N W → Hall N W → Type 0
  HearsAs (Answer course) frame result old new = AnswersOldest course frame old.crew.asks result old new
  HearsAs Receipt frame result old new = Offers (length old.crew.cores) old.crew.latest frame result old new
  HearsAs Other frame result old new = (result ≡ Ok tt) × (new ≡ old)

  abbrev pub HearsLine : BoundedLine → Result (Unit {0}) TurnFault → Hall N W → Hall N W → Type 0
  HearsLine line result old new = HearsAs (heard_as (message_of (frame_of line))) (frame_of line) result old new

  -- lines in their order
  unfoldable pub HearsAll : List BoundedLine → Result (Unit {0}) TurnFault → List BoundedLine → Hall N W → Hall N W
      → Type 0
  HearsAll [] result left old new = (result ≡ Ok tt) × (left ≡ []) × (new ≡ old)
  HearsAll (line ∷ lines) result left old new =
      (first : Result (Unit {0}) TurnFault) × (at : Hall N W) × HearsLine line first old at
      × AfterLine first lines at result left new (HearsAll lines result left at new)

  -- a piece of the stream: each line that then is whole; or memory was refused for its lines, and nothing of it was
  -- taken
  abbrev pub Hears : Pooled N W → Option (List ℕ) → List ℕ → Result (Unit {0}) TurnFault → Pooled N W → Option (List ℕ)
      → Type 0
  Hears old sent piece result new then_sent =
      ((result ≡ Err NoMemory) × (new ≡ old) × (then_sent ≡ sent))
      ⊎ (HearsAll (fed old.lines piece).waiting result new.lines.waiting (hall old.crew sent) (hall new.crew then_sent)
      × (new.lines.rest ≡ (fed old.lines piece).rest))
