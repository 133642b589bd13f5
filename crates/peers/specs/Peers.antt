-- Peers, each at a place of its own, why one is let go, what waits to be sent to them, and a node that is seen through a guard.
use Rattle.std.specs.Prelude.{ℕ, List, ◌++◌, codes, decimal, ◌≡◌, [], Option, Some, None, Bool, true, false, drop, get_or, set, Box, box_value, Ok, Err}
use Rattle.std.specs.List.{count_by}
use Rattle.std.specs.declared.alloc.Global.{Global}
use Rattle.peers.specs.declared.guard.Dismissal.{Dismissal}
use Rattle.peers.specs.declared.guard.Dismissal.TheVariants.{Strange, Refused, Holdout, NoMemory}
use Rattle.wire.specs.Terms.{Stream, Happening, Came, Ticked, Worked, Answering}
use Rattle.peers.specs.Guard.{GuardState, fresh, IsHanded, PassesLine}
use Rattle.wire.specs.declared.node.Out.{Out}
use Rattle.peers.specs.declared.guarded.Conduct.{Conduct}
use Rattle.peers.specs.declared.guarded.Guarded.{Guarded}

-- Why a peer is let go, in words.
abbrev pub dismissal_text : Dismissal → List ℕ
dismissal_text Strange = codes "it sent a line that is no message to a coordinator"
dismissal_text (Refused number) = codes "a record of it was refused with " ++ decimal number
dismissal_text Holdout = codes "it sent a holdout, and none is taken"
dismissal_text NoMemory = codes "out of memory"

-- Peers, each at a place of its own.

-- a peer: what came of its stream, what its guard knows, the bytes that wait to be sent to it, and how often memory for
-- more of them was refused
pub record PeerState : Type 0 where
  pub lines : Stream
  pub guard : GuardState
  pub due : List ℕ
  pub failures : ℕ

-- a peer of which nothing has come
abbrev pub at_first : PeerState
at_first = record { lines = record { waiting = []; rest = Some [] }; guard = fresh; due = []; failures = 0 }

-- a peer to which the first bytes that waited were written
abbrev pub drained : ℕ → PeerState → PeerState
drained count peer = record peer { due = drop count peer.due }

-- the peer at a place; none where none came yet, or it is gone
abbrev pub peer_at : List (Option PeerState) → ℕ → Option PeerState
peer_at peers place = get_or peers place None

-- what waits to be sent to a peer; nothing to one that is gone
abbrev pub due_at : Option PeerState → List ℕ
due_at (Some peer) = peer.due
due_at None = []

-- how often memory for what is to be sent to it was refused
abbrev pub failures_at : Option PeerState → ℕ
failures_at (Some peer) = peer.failures
failures_at None = 0

-- why it was let go, if it was
abbrev pub dismissal_at : Option PeerState → Option Dismissal
dismissal_at (Some peer) = peer.guard.dismissal
dismissal_at None = None

-- of one that is gone nothing is left
abbrev pub drained_at : ℕ → Option PeerState → Option PeerState
drained_at count (Some peer) = Some (drained count peer)
drained_at count None = None

-- all peers but one are as they were
abbrev pub KeepsOthers : ℕ → List (Option PeerState) → List (Option PeerState) → Type 0
KeepsOthers place old new = new ≡ set old place (peer_at new place)

abbrev pub is_there : Option PeerState → Bool
is_there (Some peer) = true
is_there None = false

-- how many peers are there
abbrev pub peer_count : List (Option PeerState) → ℕ
peer_count peers = count_by is_there peers

-- For the code: the place of a peer.

-- the peer in a box
abbrev pub boxed_peer : Option (Box PeerState Global) → Option PeerState
boxed_peer (Some peer) = Some (box_value peer)
boxed_peer None = None

-- What waits to be sent to a peer, and how often memory for more of it was refused.
pub record Waits : Type 0 where
  pub due : List ℕ
  pub failures : ℕ

-- A node that is seen through the guard of the peer that is heard.
module _ {N : Type 0} where
  -- a node that hears nobody yet
  abbrev pub unheard : Conduct → N → Guarded N
  unheard conduct node = record { node = node; guard = fresh; moment = 0; conduct = conduct }

  -- what the node may be handed of what happens
  abbrev pub MayHand : Guarded N → Happening → Happening → Type 0
  MayHand at (Came line) handed =
      (frame : List ℕ) × IsHanded at.guard.dismissal at.conduct.takes_holdouts at.guard line frame
      × (handed ≡ Came frame)
  MayHand at (Ticked moment) handed = handed ≡ Ticked moment
  MayHand at Worked handed = handed ≡ Worked

  -- how it answers: as the node does to what that is handed, and of that the guard tells the peer
  abbrev pub Through : Answering N → Answering (Guarded N)
  Through answers old (Came line) (Ok said) new =
      (frame : List ℕ) × (out : Out) × answers old.node (Came frame) (Ok out) new.node
      × PassesLine old.conduct.takes_holdouts old.guard line frame out said new.guard × (new.conduct ≡ old.conduct)
  Through answers old (Came line) (Err fault) new =
      (handed : Happening) × MayHand old (Came line) handed × answers old.node handed (Err fault) new.node
      × (new ≡ record old { node = new.node })
  Through answers old (Ticked moment) (Ok out) new =
      answers old.node (Ticked moment) (Ok out) new.node × (new ≡ record old { node = new.node; moment = moment })
  Through answers old (Ticked moment) (Err fault) new =
      answers old.node (Ticked moment) (Err fault) new.node × (new ≡ record old { node = new.node })
  Through answers old Worked result new =
      answers old.node Worked result new.node × (new ≡ record old { node = new.node })

  -- while a peer of this guard is heard
  abbrev pub behind : GuardState → Guarded N → Guarded N
  behind guard at = record at { guard = guard }

  abbrev pub StoppedWithin : (N → Type 0) → Guarded N → Type 0
  StoppedWithin is_stopped at = is_stopped at.node

  abbrev pub InStepWithin : (N → List ℕ → Type 0) → Guarded N → List ℕ → Type 0
  InStepWithin in_step at text = in_step at.node text

  -- what the node keeps, whatever it is handed
  abbrev pub KeepsThrough : (N → Happening → N → Type 0) → Guarded N → Happening → Guarded N → Type 0
  KeepsThrough keeps_final old event new =
      (handed : Happening) × MayHand old event handed × keeps_final old.node handed new.node
