-- What comes from outside, and what becomes of a node, its ledger and its peers by it.
use Rattle.std.specs.Prelude.{◌≤◌, ℕ, List, ◌++◌, Option, Some, None, take, ◌≡◌, ◌≢◌, ◌⊎◌, [], ◌∷◌, Result, Ok, Err, map, set}
use Rattle.peers.specs.declared.serving.Arrival.{Arrival}
use Rattle.peers.specs.declared.serving.Arrival.TheVariants.{Opened as ArrivalOpened, Came as ArrivalCame, Gone as ArrivalGone, Passed as ArrivalPassed, Room as ArrivalRoom}
use Rattle.wire.specs.declared.node.Out.{Out}
use Rattle.wire.specs.declared.handing.TurnFault.{TurnFault}
use Rattle.wire.specs.declared.handing.TurnFault.TheVariants.{LinkFault, NoMemory}
use Rattle.wire.specs.Terms.{Happening, Ticked, fed, Answering, Scene, Reply, BrokenOff, Fulfilled, Faulted, scene, sent_by, kept_text, TakesPiece, events_of}
use Rattle.peers.specs.declared.guard.Dismissal.{Dismissal}
use Rattle.peers.specs.declared.guard.Dismissed.{Dismissed}
use Rattle.peers.specs.declared.guarded.Guarded.{Guarded}
use Rattle.peers.specs.Guard.{Guards, returned}
use Rattle.peers.specs.Peers.{StoppedWithin, Through, behind, PeerState, at_first, dismissal_at, due_at, peer_at, failures_at, drained_at, KeepsOthers}

-- What comes from outside.
pub data Incoming : Type 0 where
  -- a peer came, and has the next place
  Opened : Incoming
  -- these bytes came from the peer at a place
  Came : ℕ → List ℕ → Incoming
  -- the one at a place is gone
  Gone : ℕ → Incoming
  -- it is this moment
  Passed : ℕ → Incoming
  -- the one at a place takes bytes again
  Room : ℕ → Incoming

-- what an arrival says, with the bytes at the front of a buffer
abbrev pub incoming : Arrival → List ℕ → Incoming
incoming ArrivalOpened buf = Opened
incoming (ArrivalCame place count) buf = Came place (take count buf)
incoming (ArrivalGone place) buf = Gone place
incoming (ArrivalPassed moment) buf = Passed moment
incoming (ArrivalRoom place) buf = Room place

-- how many of these bytes the peer at a place takes at once, as far as that is known
abbrev pub Taking : Type 1
Taking = ℕ → List ℕ → ℕ → Type 0

-- what is taken now would have been taken before
abbrev pub TakesAsBefore : Taking → Taking → Type 0
TakesAsBefore old new = (place : ℕ) (bytes : List ℕ) (count : ℕ) → new place bytes count → old place bytes count

-- what came stands within a buffer of so many bytes
abbrev pub FitsIn : ℕ → Arrival → Type 0
FitsIn size (ArrivalCame place count) = count ≤ size
FitsIn size other = Unit {0}

-- what has come, where that is known, and then this
abbrev pub noted : Option (List Incoming) → List Incoming → Option (List Incoming)
noted (Some came) more = Some (came ++ more)
noted None more = None

-- What becomes of a node, its ledger and its peers by what comes.

-- a node behind the guards of its peers, the text of its ledger, and the peers
pub record Served (N : Type 0) : Type 0 where
  pub node : Guarded N
  pub text : Option (List ℕ)
  pub peers : List (Option PeerState)

abbrev pub served : {N : Type 0} → Guarded N → Option (List ℕ) → List (Option PeerState) → Served N
served node text peers = record { node = node; text = text; peers = peers }

-- a node behind the guard of a peer, and its ledger, with that peer, for which answers wait as they are sent
abbrev pub scene_with : {N : Type 0} → Guarded N → Option (List ℕ) → PeerState → Scene (Guarded N)
scene_with node text peer = scene (behind peer.guard node) text (Some peer.due)

-- a node and its ledger, whatever is sent to whom
abbrev pub unseen : {N : Type 0} → Served N → Scene N
unseen old = scene old.node.node old.text None

-- what comes; the lines of it, and what their peer is told, in their order; and what the node is handed by it, and its
-- answers
pub record Exchange : Type 0 where
  pub came : Incoming
  pub replies : List Reply
  pub handed : List Reply

-- how the taking of a piece from a peer ends, as `TakesPiece` says, where the node is seen through the guard of that peer;
-- one from a peer that is gone is passed over
abbrev pub Hears : {N : Type 0} → Answering N → (N → Type 0) → Guarded N → Option (List ℕ) → Option PeerState → List ℕ
    → Result (Unit {0}) TurnFault → Guarded N → Option (List ℕ) → Option PeerState → Type 0
Hears answers is_stopped node text None piece result node' text' left =
    (result ≡ Ok tt) × (node' ≡ node) × (text' ≡ text) × (left ≡ None)
Hears answers is_stopped node text (Some peer) piece result node' text' left =
    (next : PeerState) × (left ≡ Some next)
    × TakesPiece (Through answers) (StoppedWithin is_stopped) (scene_with node text peer) peer.lines piece result
    next.lines (scene_with node' text' next)

-- each line of a peer that its piece ends was taken by its guard, in their order: what the guard makes of it the node was
-- handed, and the ledger's part of the answer is fulfilled; and what the peer is told waits for it
pub record AnswersPiece {N : Type 0} (answers : Answering N) (old : Served N) (peer : PeerState) (piece : List ℕ)
    (replies handed : List Reply) (new : Served N) (next : PeerState) : Type 0 where
  pub asked : events_of (fed peer.lines piece).waiting ≡ map (λ reply. reply.to) replies
  pub guarded : Guards old.node.conduct.takes_holdouts peer.guard replies handed next.guard
  pub whole : Fulfilled answers (unseen old) handed (unseen new)
  pub due : next.due ≡ peer.due ++ sent_by replies
  pub lines : next.lines ≡ record { waiting = []; rest = (fed peer.lines piece).rest }
  pub conduct : new.node.conduct ≡ old.node.conduct

-- nothing where the peer is gone
abbrev pub AnswersWhereThere : {N : Type 0} → Answering N → Served N → Option PeerState → List ℕ → List Reply
    → List Reply → Served N → Option PeerState → Type 0
AnswersWhereThere answers old None piece replies handed new left =
    (replies ≡ []) × (handed ≡ []) × (new.node ≡ old.node) × (new.text ≡ old.text) × (left ≡ None)
AnswersWhereThere answers old (Some peer) piece replies handed new left =
    (next : PeerState) × (left ≡ Some next) × AnswersPiece answers old peer piece replies handed new next

-- the node is handed something, and nothing else of what stands before it changes
abbrev pub OnlyNode : {N : Type 0} → Guarded N → Guarded N → Type 0
OnlyNode old new = new ≡ record old { node = new.node }

-- the frames that give back the leases of a peer; none where it is gone
abbrev pub returned_at : Option PeerState → List Happening
returned_at (Some peer) = returned peer.guard.askers
returned_at None = []

-- a peer leaves: the node is handed the frames that give its leases back, what the ledger gains by them is kept, and
-- nobody is sent anything. What it began and hasn't ended is no line
pub record Leaves {N : Type 0} (answers : Answering N) (old : Served N) (place : ℕ) (handed : List Reply)
    (new : Served N) : Type 0 where
  pub returned : returned_at (peer_at old.peers place) ≡ map (λ reply. reply.to) handed
  pub whole : Fulfilled answers (unseen old) handed (unseen new)
  pub node : OnlyNode old.node new.node
  pub peers : new.peers ≡ set old.peers place None

-- time has passed: what the ledger gains by it is kept, and nobody is sent anything
pub record Ticks {N : Type 0} (answers : Answering N) (old : Served N) (moment : ℕ) (handed : List Reply)
    (new : Served N) : Type 0 where
  pub out : Out
  pub told : handed ≡ record { to = Ticked moment; out = out } ∷ []
  pub answer : answers old.node.node (Ticked moment) (Ok out) new.node.node
  pub node : new.node ≡ record old.node { node = new.node.node; moment = moment }
  pub kept : new.text ≡ kept_text out old.text
  pub peers : new.peers ≡ old.peers

-- what comes is taken: a new peer gets the next place; a piece is answered to the peer from which it came; one that leaves
-- gives its leases back
abbrev pub TakesArrival : {N : Type 0} → Answering N → Served N → Incoming → List Reply → List Reply → Served N → Type 0
TakesArrival answers old Opened replies handed new =
    (replies ≡ []) × (handed ≡ []) × (new ≡ record old { peers = old.peers ++ (Some at_first ∷ []) })
TakesArrival answers old (Came place piece) replies handed new =
    AnswersWhereThere answers old (peer_at old.peers place) piece replies handed new (peer_at new.peers place)
    × KeepsOthers place old.peers new.peers
TakesArrival answers old (Gone place) replies handed new = (replies ≡ []) × Leaves answers old place handed new
TakesArrival answers old (Passed moment) replies handed new = (replies ≡ []) × Ticks answers old moment handed new
TakesArrival answers old (Room place) replies handed new = (replies ≡ []) × (handed ≡ []) × (new ≡ old)

-- who is dismissed by what comes is let go, once
abbrev pub let_go : ℕ → Option Dismissal → Option Dismissal → Option Dismissed → Option Dismissed
let_go place None (Some why) last = Some (record { place = place; why = why })
let_go place None None last = last
let_go place (Some was) now last = last

abbrev pub let_go_by : Incoming → List (Option PeerState) → List (Option PeerState) → Option Dismissed
    → Option Dismissed
let_go_by Opened old new last = last
let_go_by (Came place piece) old new last =
    let_go place (dismissal_at (peer_at old place)) (dismissal_at (peer_at new place)) last
let_go_by (Gone place) old new last = last
let_go_by (Passed moment) old new last = last
let_go_by (Room place) old new last = last

-- the peer to which there may be something to send
abbrev pub asker : Incoming → Option ℕ
asker Opened = None
asker (Came place piece) = Some place
asker (Gone place) = None
asker (Passed moment) = None
asker (Room place) = Some place

-- a peer is sent as much of what waits for it as it takes
abbrev pub Flushes : Taking → Option ℕ → List (Option PeerState) → List (Option PeerState) → Type 0
Flushes takes None old new = new ≡ old
Flushes takes (Some place) old new =
    (count : ℕ) × takes place (due_at (peer_at old place)) count
    × (new ≡ set old place (drained_at count (peer_at old place)))

-- what comes is taken, and then the peer that asked is sent as much of what waits for it as it takes
abbrev pub Round : {N : Type 0} → Answering N → Taking → Served N → Exchange → Served N → Type 0
Round answers takes old exchange new =
    (peers : List (Option PeerState))
    × TakesArrival answers old exchange.came exchange.replies exchange.handed (served new.node new.text peers)
    × Flushes takes (asker exchange.came) peers new.peers

-- all that comes is served so, in its order
abbrev pub Rounds : {N : Type 0} → Answering N → Taking → Served N → List Exchange → Served N → Type 0
Rounds answers takes old [] new = new ≡ old
Rounds {N} answers takes old (exchange ∷ exchanges) new =
    (at : Served N) × Round answers takes old exchange at × Rounds answers takes at exchanges new

-- what came in them
abbrev pub all_came : List Exchange → List Incoming
all_came exchanges = map (λ exchange. exchange.came) exchanges

-- what came, where something did
abbrev pub noted_if : Option (List Incoming) → Option Incoming → Option (List Incoming)
noted_if arrived None = arrived
noted_if arrived (Some came) = noted arrived (came ∷ [])

-- a fault: nothing came; or memory for a new peer was refused; or a piece of a peer was taken as far as the lines that
-- brought it; or a peer left, or time had passed, and the node didn't answer, or the ledger failed
abbrev pub Fails : {N : Type 0} → Answering N → (N → Type 0) → Served N → Option Incoming → TurnFault → Served N
    → Type 0
Fails answers is_stopped old None fault new = (fault ≡ LinkFault) × (new ≡ old)
Fails answers is_stopped old (Some Opened) fault new = (fault ≡ NoMemory) × (new ≡ old)
Fails answers is_stopped old (Some (Came place piece)) fault new =
    Hears answers is_stopped old.node old.text (peer_at old.peers place) piece (Err fault) new.node new.text
    (peer_at new.peers place)
    × KeepsOthers place old.peers new.peers
Fails answers is_stopped old (Some (Gone place)) fault new =
    (fault ≢ LinkFault) × (new.peers ≡ set old.peers place None)
    × ((left : List Happening)
    × BrokenOff answers is_stopped (unseen old) (returned_at (peer_at old.peers place)) fault left (unseen new))
Fails answers is_stopped old (Some (Passed moment)) fault new =
    (fault ≢ LinkFault) × (new.peers ≡ old.peers)
    × Faulted answers is_stopped (unseen old) (Ticked moment) fault (unseen new)
Fails answers is_stopped old (Some (Room place)) fault new = ⊥

-- the connections have counted a failure, or a peer has
abbrev pub CountsFailure : ℕ → ℕ → List (Option PeerState) → List (Option PeerState) → Type 0
CountsFailure failures failures' old new =
    (failures ≢ failures') ⊎ ((place : ℕ) × (failures_at (peer_at old place) ≢ failures_at (peer_at new place)))
