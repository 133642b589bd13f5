-- What links and ledgers hold, that a node's answers are fulfilled, and what a turn does with the lines of a piece.
use Rattle.std.specs.Prelude.{◌≡◌, ◌<◌, ℕ, List, Option, Some, None, ◌++◌, take, length, ◌⊎◌, [], ◌∷◌, Result, Ok, Err, map, ◌+◌, ◌-◌, ◌%◌, ◌^◌, false, if◌then◌else◌, min, ◌≢◌, IfSome}
use Rattle.std.specs.List.{flat_map}
use Rattle.wire.specs.declared.node.Event.{Event}
use Rattle.wire.specs.declared.node.Event.TheVariants.{Frame, Tick, Work}
use Rattle.wire.specs.declared.node.Out.{Out}
use Rattle.wire.specs.declared.node.NodeFault.{NodeFault}
use Rattle.wire.specs.declared.handing.TurnFault.{TurnFault}
use Rattle.wire.specs.declared.handing.TurnFault.TheVariants.{LinkFault, LedgerFault, Node, NoMemory}
use Rattle.wire.specs.declared.memory.Trouble.{Trouble}
use Rattle.text.specs.Terms.{BoundedLine, bounded_line, with_more, IsShort, parts_of}
use Rattle.wire.specs.declared.lines.Line.{Line}
use Rattle.wire.specs.declared.lines.Line.TheVariants.{Whole, Overlong}
use Rattle.wire.specs.declared.handing.Turn.{Turn}
use Rattle.wire.specs.declared.handing.Turn.TheVariants.{More, End}

-- What links and ledgers hold, where that is known: of a file or a socket it isn't.

-- followed by more bytes
abbrev pub grown : Option (List ℕ) → List ℕ → Option (List ℕ)
grown (Some text) bytes = Some (text ++ bytes)
grown None bytes = None

-- its first bytes
abbrev pub shortened : ℕ → Option (List ℕ) → Option (List ℕ)
shortened len (Some text) = Some (take len text)
shortened len None = None

-- what waits, where these bytes come first
abbrev pub preceded : List ℕ → Option (List ℕ) → Option (List ℕ)
preceded bytes (Some waiting) = Some (bytes ++ waiting)
preceded bytes None = None

-- it gained a beginning of the bytes
abbrev pub IsBegun : Option (List ℕ) → List ℕ → Option (List ℕ) → Type 0
IsBegun old bytes new = (k : ℕ) × (new ≡ grown old (take k bytes))

-- a call that takes none of some bytes is a failure
abbrev pub IsRefusal : ℕ → List ℕ → Type 0
IsRefusal taken bytes = (taken ≡ 0) × (0 < length bytes)

-- What happens to a node, as a value.
pub data Happening : Type 0 where
  Came : List ℕ → Happening
  Ticked : ℕ → Happening
  Worked : Happening

-- what an event says
abbrev pub seen : Event → Happening
seen (Frame frame) = Came frame.now
seen (Tick moment) = Ticked moment
seen Work = Worked

-- What it means that a node's answers are fulfilled.

-- what a cut leaves of a text; none cuts nothing
abbrev pub cut_by : Option ℕ → List ℕ → List ℕ
cut_by (Some len) text = take len text
cut_by None text = text

-- a ledger's text once an answer is fulfilled
abbrev pub text_after : Out → List ℕ → List ℕ
text_after out text = cut_by out.cut text ++ out.append.items

-- the same of a ledger whose text may not be known
abbrev pub cut_to : Option ℕ → Option (List ℕ) → Option (List ℕ)
cut_to cut (Some text) = Some (cut_by cut text)
cut_to cut None = None

abbrev pub kept_text : Out → Option (List ℕ) → Option (List ℕ)
kept_text out (Some text) = Some (text_after out text)
kept_text out None = None

-- at most the cut was made, and a beginning of what was to be appended
abbrev pub IsPartlyKept : Out → Option (List ℕ) → Option (List ℕ) → Type 0
IsPartlyKept out old new = (new ≡ old) ⊎ IsBegun (cut_to out.cut old) out.append.items new

-- a node, the text of its ledger, and what its link took to be sent
pub record Scene (N : Type 0) : Type 0 where
  pub node : N
  pub text : Option (List ℕ)
  pub sent : Option (List ℕ)

abbrev pub scene : {N : Type 0} → N → Option (List ℕ) → Option (List ℕ) → Scene N
scene node text sent = record { node = node; text = text; sent = sent }

-- an answer of a node that became so is fulfilled whole: its ledger's part, and its frames are sent
abbrev pub fulfilled : {N : Type 0} → Out → N → Scene N → Scene N
fulfilled out node old = scene node (kept_text out old.text) (grown old.sent out.frames.items)

-- something that happens, and the answer to it
pub record Reply : Type 0 where
  pub to : Happening
  pub out : Out

-- how nodes answer: the node before, what happens, its answer, and the node after
abbrev pub Answering : Type 0 → Type 1
Answering N = N → Happening → Result Out NodeFault → N → Type 0

-- these answers came in turn, and each was fulfilled whole; nothing else was written or sent
abbrev pub Fulfilled : {N : Type 0} → Answering N → Scene N → List Reply → Scene N → Type 0
Fulfilled answers old [] new = new ≡ old
Fulfilled {N} answers old (reply ∷ replies) new =
    (node : N) × answers old.node reply.to (Ok reply.out) node
    × Fulfilled answers (fulfilled reply.out node old) replies new

-- a beginning of what happened was handed over in its order, and the answers to it were fulfilled whole
pub record Handed {N : Type 0} (answers : Answering N) (old : Scene N) (events : List Happening) (left : List Happening)
    (new : Scene N) : Type 0 where
  pub replies : List Reply
  pub order : events ≡ map (λ reply. reply.to) replies ++ left
  pub whole : Fulfilled answers old replies new

-- one more was handed over, and brought a fault: of the link, when its ledger's part was whole; of the ledger,
-- before any frame of it was sent, and the node was stopped; of the node, which gave no answer
abbrev pub Faulted : {N : Type 0} → Answering N → (N → Type 0) → Scene N → Happening → TurnFault → Scene N → Type 0
Faulted answers is_stopped old event LinkFault new =
    (out : Out) × answers old.node event (Ok out) new.node × (new.text ≡ kept_text out old.text)
    × IsBegun old.sent out.frames.items new.sent
Faulted {N} answers is_stopped old event LedgerFault new =
    (out : Out) × (node : N) × answers old.node event (Ok out) node × is_stopped new.node
    × IsPartlyKept out old.text new.text × (new.sent ≡ old.sent)
Faulted answers is_stopped old event (Node fault) new =
    answers old.node event (Err fault) new.node × (new.text ≡ old.text) × (new.sent ≡ old.sent)
Faulted answers is_stopped old event NoMemory new = ⊥

-- these events were to be handed over, and one of them brought a fault when those before it were fulfilled
pub record BrokenOff {N : Type 0} (answers : Answering N) (is_stopped : N → Type 0) (old : Scene N)
    (events : List Happening) (fault : TurnFault) (left : List Happening) (new : Scene N) : Type 0 where
  pub event : Happening
  pub at : Scene N
  pub before : Handed answers old events (event ∷ left) at
  pub faulted : Faulted answers is_stopped at event fault new

-- what answers send, one after another
abbrev pub sent_by : List Reply → List ℕ
sent_by replies = flat_map (λ reply. reply.out.frames.items) replies

-- a ledger has the parts of the first of some answers whole, and at most the cut and a beginning of the next one's
abbrev pub AreKeptSoFar : List Reply → Option (List ℕ) → Option (List ℕ) → Type 0
AreKeptSoFar [] old new = new ≡ old
AreKeptSoFar (reply ∷ replies) old new =
    IsPartlyKept reply.out old new ⊎ AreKeptSoFar replies (kept_text reply.out old) new

-- what was handed over last, if it brought no answer
abbrev pub IsUnanswered : {N : Type 0} → Answering N → N → List Happening → N → Type 0
IsUnanswered answers old [] new = new ≡ old
IsUnanswered answers old (event ∷ []) new = (fault : NodeFault) × answers old event (Err fault) new
IsUnanswered answers old (event ∷ (next ∷ events)) new = ⊥

-- these answers came in turn, to be fulfilled together: the ledger's part of all of them before any frame is sent.
-- What came of that: the link failed, when their parts were whole, under their frames; the ledger failed under their
-- parts, before any of their frames was sent, and the node was stopped; or all was fulfilled, and the node gave no
-- answer to what was handed over next
abbrev pub FaultedTogether : {N : Type 0} → Answering N → (N → Type 0) → Scene N → List Reply → List Happening
    → TurnFault → Scene N → Type 0
FaultedTogether {N} answers is_stopped old replies unanswered LinkFault new =
    (whole : Scene N) × Fulfilled answers old replies whole × IsUnanswered answers whole.node unanswered new.node
    × (new.text ≡ whole.text) × IsBegun old.sent (sent_by replies) new.sent
FaultedTogether {N} answers is_stopped old replies unanswered LedgerFault new =
    (whole : Scene N) × (node : N) × Fulfilled answers old replies whole
    × IsUnanswered answers whole.node unanswered node × is_stopped new.node
    × AreKeptSoFar replies old.text new.text × (new.sent ≡ old.sent)
FaultedTogether answers is_stopped old replies unanswered (Node fault) new =
    (event : Happening) × (replies ≡ []) × (unanswered ≡ event ∷ [])
    × Faulted answers is_stopped old event (Node fault) new
FaultedTogether answers is_stopped old replies unanswered NoMemory new = ⊥

-- these events were to be handed over, and some that follow one another brought a fault, when those before them were
-- fulfilled
pub record BrokenTogether {N : Type 0} (answers : Answering N) (is_stopped : N → Type 0) (old : Scene N)
    (events : List Happening) (fault : TurnFault) (left : List Happening) (new : Scene N) : Type 0 where
  pub replies : List Reply
  pub unanswered : List Happening
  pub at : Scene N
  pub before : Handed answers old events (map (λ reply. reply.to) replies ++ (unanswered ++ left)) at
  pub faulted : FaultedTogether answers is_stopped at replies unanswered fault new

-- Links and ledgers that keep their bytes in memory.
pub record MemoryLedger : Type 0 where
  pub text : List ℕ
  pub trouble : Trouble

pub record MemoryLink : Type 0 where
  pub waiting : List ℕ
  pub sent : List ℕ
  pub trouble : Trouble

-- each call succeeds, and none has failed
abbrev pub no_trouble : Trouble
no_trouble = record { failing = 0; slow = false; failures = 0 }

-- the next call is the one that was to fail
abbrev pub IsDue : Trouble → Type 0
IsDue t = t.failing ≡ 1

-- a call less until the one that fails
abbrev pub called : Trouble → Trouble
called t = record t { failing = t.failing - 1 }

-- a failure more; the count begins anew where it is full
abbrev pub failed : Trouble → Trouble
failed t = record t { failures = (t.failures + 1) % 2 ^ 64 }

-- how many of so many bytes one call moves
abbrev pub share : Trouble → ℕ → ℕ
share t len = if t.slow then min len 1 else len

-- The lines of a stream: what stands before each newline, the byte 10, since the one before. What follows the last
-- newline is no line yet. Of a line that is longer than the limit only that is kept.

-- the parts of a text between its newlines, of which the first goes on with what was begun
abbrev pub going_on : BoundedLine → List (List ℕ) → List BoundedLine
going_on begun [] = []
going_on begun (part ∷ parts) = with_more begun part ∷ map bounded_line parts

unfoldable pub parts_from : BoundedLine → List ℕ → List BoundedLine
parts_from begun text = going_on begun (parts_of 10 text)

-- each part but the last is a line
abbrev pub but_last : List BoundedLine → List BoundedLine
but_last [] = []
but_last (part ∷ []) = []
but_last (part ∷ (next ∷ parts)) = part ∷ but_last (next ∷ parts)

unfoldable pub lines_from : BoundedLine → List ℕ → List BoundedLine
lines_from begun text = but_last (parts_from begun text)

-- the last part begins the next line
abbrev pub last_of : List BoundedLine → BoundedLine
last_of [] = Some []
last_of (part ∷ []) = part
last_of (part ∷ (next ∷ parts)) = last_of (next ∷ parts)

unfoldable pub rest_from : BoundedLine → List ℕ → BoundedLine
rest_from begun text = last_of (parts_from begun text)

-- a stream as far as it has come: the lines that wait to be taken, and what has begun behind its last newline
pub record Stream : Type 0 where
  pub waiting : List BoundedLine
  pub rest : BoundedLine

-- a stream after more of its bytes
abbrev pub fed : Stream → List ℕ → Stream
fed s piece = record { waiting = s.waiting ++ lines_from s.rest piece; rest = rest_from s.rest piece }

-- what is known of a line as it is handed out
abbrev pub known : Line → BoundedLine
known (Whole bytes) = Some bytes.items
known Overlong = None

-- and that is no longer than the limit
abbrev pub IsShortLine : Line → Type 0
IsShortLine line = IsShort (known line)

-- What a turn does: a piece comes over the link, and the lines that it ends are handed to the node.

-- a line as a frame: its bytes, and none of a line that was too long
abbrev pub frame_of : BoundedLine → List ℕ
frame_of (Some bytes) = bytes
frame_of None = []

abbrev pub event_of : BoundedLine → Happening
event_of line = Came (frame_of line)

abbrev pub events_of : List BoundedLine → List Happening
events_of lines = map event_of lines

-- the stream has ended where no byte came
abbrev pub turn_of : List ℕ → Turn
turn_of [] = End
turn_of (byte ∷ bytes) = More

-- nothing was handed over, written or sent, and the lines are as they were
abbrev pub IsUntouched : {N : Type 0} → Scene N → Stream → Stream → Scene N → Type 0
IsUntouched old lines left new = (new ≡ old) × (left ≡ lines)

-- the lines were handed over as far as some that brought a fault; those behind them are left
abbrev pub IsBroken : {N : Type 0} → Answering N → (N → Type 0) → Scene N → Stream → TurnFault → Stream → Scene N
    → Type 0
IsBroken answers is_stopped old lines fault left new =
    BrokenTogether answers is_stopped old (events_of lines.waiting) fault (events_of left.waiting) new
    × (left.rest ≡ lines.rest)

-- how a turn ended in which this piece came: all lines that then were whole were handed over; or it ended at one of
-- them; or before the first of them, where the link failed at once, or the lines of the piece weren't taken
abbrev pub Turned : {N : Type 0} → Answering N → (N → Type 0) → Scene N → Stream → List ℕ → Result Turn TurnFault
    → Stream → Scene N → Type 0
Turned answers is_stopped old lines piece (Ok turn) left new =
    Handed answers old (events_of (fed lines piece).waiting) [] new
    × (left ≡ record { waiting = []; rest = (fed lines piece).rest }) × (turn ≡ turn_of piece)
Turned answers is_stopped old lines piece (Err LinkFault) left new =
    ((piece ≡ []) × IsUntouched old lines left new)
    ⊎ IsBroken answers is_stopped old (fed lines piece) LinkFault left new
Turned answers is_stopped old lines piece (Err LedgerFault) left new =
    IsBroken answers is_stopped old (fed lines piece) LedgerFault left new
Turned answers is_stopped old lines piece (Err (Node fault)) left new =
    IsBroken answers is_stopped old (fed lines piece) (Node fault) left new
Turned answers is_stopped old lines piece (Err NoMemory) left new = IsUntouched old lines left new

-- how the taking of a piece ended: all lines that then were whole were handed over; or it ended at one of them; or the
-- lines of the piece weren't taken
abbrev pub TakesPiece : {N : Type 0} → Answering N → (N → Type 0) → Scene N → Stream → List ℕ
    → Result (Unit {0}) TurnFault → Stream → Scene N → Type 0
TakesPiece answers is_stopped old lines piece (Ok done) left new =
    Handed answers old (events_of (fed lines piece).waiting) [] new
    × (left ≡ record { waiting = []; rest = (fed lines piece).rest })
TakesPiece answers is_stopped old lines piece (Err LinkFault) left new =
    IsBroken answers is_stopped old (fed lines piece) LinkFault left new
TakesPiece answers is_stopped old lines piece (Err LedgerFault) left new =
    IsBroken answers is_stopped old (fed lines piece) LedgerFault left new
TakesPiece answers is_stopped old lines piece (Err (Node fault)) left new =
    IsBroken answers is_stopped old (fed lines piece) (Node fault) left new
TakesPiece answers is_stopped old lines piece (Err NoMemory) left new = IsUntouched old lines left new

-- a node with the ledger behind it, and how many failures of its link and of that ledger were counted
pub record Devices (N : Type 0) : Type 0 where
  pub node : N
  pub text : Option (List ℕ)
  pub link_failures : ℕ
  pub ledger_failures : ℕ

abbrev pub devices : {N : Type 0} → N → Option (List ℕ) → ℕ → ℕ → Devices N
devices node text link ledger = record { node = node; text = text; link_failures = link; ledger_failures = ledger }

-- however it ended: a device that is said to have failed has counted that; and a ledger that was in step with the node is
-- so still, unless it failed
pub record EndsInStep {N T : Type 0} (in_step : N → List ℕ → Type 0) (result : Result T TurnFault)
    (old new : Devices N) : Type 0 where
  pub step : result ≢ Err LedgerFault → IfSome old.text (in_step old.node) → IfSome new.text (in_step new.node)
  pub link : result ≡ Err LinkFault → old.link_failures ≢ new.link_failures
  pub ledger : result ≡ Err LedgerFault → old.ledger_failures ≢ new.ledger_failures
