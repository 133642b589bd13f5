-- What is sent to whom, and what the node hears.
use Rattle.std.specs.Prelude.{◌≡◌, ◌≢◌, ◌⊎◌, ◌<◌, ℕ, List, [], ◌++◌, Option, Some, None, if◌then◌else◌, length, take, set, nat_eq, Bool, true, false, ◌∷◌, map}
use Rattle.std.specs.List.{flat_map}
use Rattle.wire.specs.Terms.{grown, Answering, Reply, lines_from, rest_from, events_of}
use Rattle.peers.specs.Served.{Incoming, Taking, Opened, Came, Gone, Passed, Room, Served, Exchange, Rounds, TakesArrival, asker, served}
use Rattle.peers.specs.Peers.{PeerState, peer_at, due_at, drained_at}
use Rattle.peers.specs.Guard.{GuardState, Guards}

-- What is sent to whom.

-- as much of what waits for the peer at a place as it takes was sent to it, from the front, and waits no more
abbrev pub Sends : Taking → ℕ → List (Option PeerState) → List (Option PeerState) → Option (List ℕ) → Option (List ℕ)
    → Type 0
Sends takes place old new sent sent' =
    (count : ℕ) × takes place (due_at (peer_at old place)) count
    × (new ≡ set old place (drained_at count (peer_at old place)))
    × (sent' ≡ grown sent (take count (due_at (peer_at old place))))

-- the peer that asked is sent as much of what waits for it as it takes, and nobody else anything
abbrev pub SendsTo : Taking → Option ℕ → List (Option PeerState) → List (Option PeerState) → (ℕ → Option (List ℕ))
    → (ℕ → Option (List ℕ)) → Type 0
SendsTo takes None old new sent sent' = (new ≡ old) × ((place : ℕ) → sent' place ≡ sent place)
SendsTo takes (Some place) old new sent sent' =
    Sends takes place old new (sent place) (sent' place) × ((other : ℕ) → other ≢ place → sent' other ≡ sent other)

-- what comes is taken, and then the peer that asked is sent as much of what waits for it as it takes
pub record ServesOne {N : Type 0} (answers : Answering N) (takes : Taking) (old : Served N) (exchange : Exchange)
    (new : Served N) (sent sent' : ℕ → Option (List ℕ)) : Type 0 where
  pub peers : List (Option PeerState)
  pub arrives : TakesArrival answers old exchange.came exchange.replies exchange.handed (served new.node new.text peers)
  pub sends : SendsTo takes (asker exchange.came) peers new.peers sent sent'

-- the answers to what came from the peer at a place
abbrev pub answers_to : ℕ → Incoming → List Reply → List Reply
answers_to place Opened replies = []
answers_to place (Came from piece) replies = if nat_eq from place then replies else []
answers_to place (Gone from) replies = []
answers_to place (Passed moment) replies = []
answers_to place (Room from) replies = []

abbrev pub replies_to : ℕ → List Exchange → List Reply
replies_to place exchanges = flat_map (λ exchange. answers_to place exchange.came exchange.replies) exchanges

-- their frames
abbrev pub answer_frames : List Reply → List ℕ
answer_frames replies = flat_map (λ reply. reply.out.frames.items) replies

-- the peer at a place is gone
abbrev pub IsGone : List (Option PeerState) → ℕ → Type 0
IsGone peers place = (place < length peers) × (peer_at peers place ≡ None)

-- what waited for the peer at a place, and then the frames of the answers to it, fall in two: the first part was sent to
-- it, and the other waits, unless it is gone
pub record IsSent (place : ℕ) (exchanges : List Exchange) (old new : List (Option PeerState))
    (before after : Option (List ℕ)) : Type 0 where
  pub done : List ℕ
  pub left : List ℕ
  pub all : due_at (peer_at old place) ++ answer_frames (replies_to place exchanges) ≡ done ++ left
  pub sent : after ≡ grown before done
  pub waits : (left ≡ due_at (peer_at new place)) ⊎ IsGone new place

-- what came was served, one after another, and those that asked were sent as much of its answers as they take
pub record Serves {N : Type 0} (answers : Answering N) (takes : Taking) (old : Served N) (exchanges : List Exchange)
    (new : Served N) (before after : ℕ → Option (List ℕ)) : Type 0 where
  pub rounds : Rounds answers takes old exchanges new
  pub sent : (place : ℕ) → IsSent place exchanges old.peers new.peers (before place) (after place)

-- What the node hears: of each peer what its guard makes of the lines of all that came from it, however it came, and of all
-- of them one thing after another.

-- the bytes that came from the peer at a place
abbrev pub bytes_from : ℕ → Incoming → List ℕ
bytes_from place Opened = []
bytes_from place (Came from piece) = if nat_eq from place then piece else []
bytes_from place (Gone from) = []
bytes_from place (Passed moment) = []
bytes_from place (Room from) = []

abbrev pub all_from : ℕ → List Exchange → List ℕ
all_from place exchanges = flat_map (λ exchange. bytes_from place exchange.came) exchanges

-- these bytes came from a peer, each line of them was taken by its guard, and what follows the last newline has begun
abbrev pub HasSaid : List ℕ → PeerState → Type 0
HasSaid bytes peer = peer.lines ≡ record { waiting = []; rest = rest_from (Some []) bytes }

-- a peer that had said something says more: what its guard takes of it, from the first byte on, are the lines of all its
-- bytes, one after another
pub record SaysMore (place : ℕ) (said : List ℕ) (exchanges : List Exchange) (new : PeerState) : Type 0 where
  pub lines : events_of (lines_from (Some []) said) ++ map (λ reply. reply.to) (replies_to place exchanges)
      ≡ events_of (lines_from (Some []) (said ++ all_from place exchanges))
  pub says : HasSaid (said ++ all_from place exchanges) new

-- all that the node was handed, and its answers, whoever asked
abbrev pub all_handed : List Exchange → List Reply
all_handed exchanges = flat_map (λ exchange. exchange.handed) exchanges

-- what the guard of the peer at a place makes of what comes: of that peer's lines, and of nothing else
abbrev pub GuardsWhere : Bool → Bool → GuardState → List Reply → List Reply → GuardState → Type 0
GuardsWhere true takes_holdouts guard replies handed new = Guards takes_holdouts guard replies handed new
GuardsWhere false takes_holdouts guard replies handed new = new ≡ guard

abbrev pub GuardsOne : Bool → ℕ → GuardState → Incoming → List Reply → List Reply → GuardState → Type 0
GuardsOne takes_holdouts place guard Opened replies handed new = new ≡ guard
GuardsOne takes_holdouts place guard (Came from piece) replies handed new =
    GuardsWhere (nat_eq from place) takes_holdouts guard replies handed new
GuardsOne takes_holdouts place guard (Gone from) replies handed new = new ≡ guard
GuardsOne takes_holdouts place guard (Passed moment) replies handed new = new ≡ guard
GuardsOne takes_holdouts place guard (Room from) replies handed new = new ≡ guard

-- and of all that comes
abbrev pub GuardsAll : Bool → ℕ → GuardState → List Exchange → GuardState → Type 0
GuardsAll takes_holdouts place guard [] new = new ≡ guard
GuardsAll takes_holdouts place guard (exchange ∷ exchanges) new =
    (at : GuardState) × GuardsOne takes_holdouts place guard exchange.came exchange.replies exchange.handed at
    × GuardsAll takes_holdouts place at exchanges new
