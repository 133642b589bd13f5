-- A coordinator that is served, that listens, or whose workers are in its process.
use Rattle.std.specs.Prelude.{ℕ, List, Option, None, ◌≡◌, [], ◌∷◌, Some, Result, Ok, Err, ◌⊎◌, zero, suc, ◌++◌, replicate, map}
use Rattle.std.specs.declared.io.Error.{Error}
use Rattle.cmd_nodes.specs.declared.held_ledger.MaybeLedger.{MaybeLedger}
use Rattle.cmd_nodes.specs.declared.held_ledger.MaybeLedger.TheVariants.{Nothing, Kept}
use Rattle.files.specs.declared.opened.Opened.{Opened}
use Rattle.ledger.specs.Terms.{Contents, IsOpenOn}
use Rattle.machine_text.specs.Terms.{Packed}
use Rattle.wire.specs.Terms.{Answering, Reply, Happening, Ticked, Worked}
use Rattle.wire.specs.declared.node.Out.{Out}
use Rattle.lease_core.specs.Terms.{board_of, Coordinating, On, StartsFrom}
use Rattle.peers.specs.declared.guarded.Conduct.{Conduct}
use Rattle.peers.specs.Terms.{Incoming, Taking, noted, Exchange, Served, all_came, noted_if, served, unheard}
use Rattle.peers.specs.Sent.{Serves}

-- A ledger, or none.

-- what it holds, where that is known: of what none takes it isn't
abbrev pub text_kept : {L : Type 0} → (L → Option (List ℕ)) → MaybeLedger L → Option (List ℕ)
text_kept text Nothing = None
text_kept text (Kept ledger) = text ledger

abbrev pub failures_kept : {L : Type 0} → (L → ℕ) → MaybeLedger L → ℕ
failures_kept failures Nothing = 0
failures_kept failures (Kept ledger) = failures ledger

-- A coordinator that is served: what it was begun from, that it answered in turn, and the board to which it came.

-- a node gave these answers in turn, and became so
abbrev pub BecomesBy : {N : Type 0} → Answering N → N → List Reply → N → Type 0
BecomesBy answers old [] new = new ≡ old
BecomesBy {N} answers old (reply ∷ replies) new = (node : N) × answers old reply.to (Ok reply.out) node
    × BecomesBy answers node replies new

-- it gave some answers, and became so
abbrev pub Becomes : {N : Type 0} → Answering N → N → N → Type 0
Becomes answers old new = (replies : List Reply) × BecomesBy answers old replies new

-- a coordinator for machines of n states was begun from the bytes that a reader has of its ledger, so many of them
abbrev pub IsBegunWith : ℕ → ℕ → Option (List ℕ) → ℕ → Coordinating → Type 0
IsBegunWith n era has len first = (left : Option (List ℕ)) × (out : Out) × StartsFrom n era has len left first (Ok out)

-- from what was opened of its ledger
abbrev pub IsBegunFrom : {F : Type 0} → ℕ → ℕ → (F → Option (List ℕ)) → Result (Opened F) Error → Coordinating → Type 0
IsBegunFrom n era remaining (Ok opened) first = IsBegunWith n era (remaining opened.reader) opened.length first
IsBegunFrom n era remaining (Err fault) first = ⊥

-- from there on it answered in turn, and this is the board that it holds in the end
pub record ComesToHold (first : Coordinating) (board : Contents) : Type 0 where
  pub last : Coordinating
  pub became : Becomes On first last
  pub holds : board_of last.held ≡ Some board

-- no table is open on a board
abbrev pub NoneOpen : Contents → Type 0
NoneOpen board = (t : Packed) → IsOpenOn board t → ⊥

-- A coordinator that listens: what came over its connections, and what was sent over them.

-- what has come over some connections so far, and what each peer was sent, as far as they are known
pub record Traffic : Type 0 where
  pub arrived : Option (List Incoming)
  pub sent : ℕ → Option (List ℕ)

abbrev pub traffic : Option (List Incoming) → (ℕ → Option (List ℕ)) → Traffic
traffic arrived sent = record { arrived = arrived; sent = sent }

-- what came was answered as a node answers, one thing after another, those that asked were sent as much of the answers as
-- they take, and nothing else was sent. What came last, if anything, is left
pub record Listens {N : Type 0} (answers : Answering N) (takes : Taking) (old new : Served N) (last : Option Incoming)
    (before after : Traffic) : Type 0 where
  pub exchanges : List Exchange
  pub serves : Serves answers takes old exchanges new before.sent after.sent
  pub came : after.arrived ≡ noted_if (noted before.arrived (all_came exchanges)) last

-- the same, as far as it came
abbrev pub ListensFrom : {N : Type 0} → Answering N → Taking → Served N → Traffic → Traffic → Type 0
ListensFrom {N} answers takes old before after =
    (new : Served N) × (last : Option Incoming) × Listens answers takes old new last before after

-- a coordinator that had begun heard nobody yet; from then on it listened, to its end
pub record HasListened (conduct : Conduct) (takes : Taking) (first last : Coordinating) (text : Option (List ℕ))
    (before after : Traffic) : Type 0 where
  pub begun : Option (List ℕ)
  pub new : Served Coordinating
  pub listens : Listens On takes (served (unheard conduct first) begun []) new None before after
  pub is_last : new.node.node ≡ last
  pub is_text : new.text ≡ text

-- nothing came, and nothing was sent
abbrev pub IsQuiet : Traffic → Traffic → Type 0
IsQuiet before after = (after.arrived ≡ before.arrived) × ((place : ℕ) → after.sent place ≡ before.sent place)

-- as far as it came: it hadn't begun yet; or it had begun so, and listened to what came, but for what came last
abbrev pub ListensUntil : (Coordinating → Type 0) → Conduct → Taking → Traffic → Traffic → Type 0
ListensUntil IsBegun conduct takes before after = IsQuiet before after
    ⊎ ((first : Coordinating) × IsBegun first × (begun : Option (List ℕ))
    × ListensFrom On takes (served (unheard conduct first) begun []) before after)

-- The rounds of a worker that runs in the process of its coordinator.

-- what happens to it in a round, which are numbered from 1: it works eight times, and then it is told the round
abbrev pub events_of_round : ℕ → List Happening
events_of_round round = replicate 8 Worked ++ (Ticked round ∷ [])

-- it answered that in turn, and became so
abbrev pub AnswersRound : {N : Type 0} → Answering N → ℕ → N → N → Type 0
AnswersRound answers round old new = (replies : List Reply) × (events_of_round round ≡ map (λ reply. reply.to) replies)
    × BecomesBy answers old replies new

-- and then what came from its coordinator
abbrev pub TakesRound : {N : Type 0} → Answering N → ℕ → N → N → Type 0
TakesRound {N} answers round old new = (told : N) × AnswersRound answers round old told × Becomes answers told new

-- so many rounds, one after another
abbrev pub TakesRounds : {N : Type 0} → Answering N → ℕ → N → N → Type 0
TakesRounds answers zero old new = new ≡ old
TakesRounds {N} answers (suc before) old new = (at : N) × TakesRounds answers before old at
    × TakesRound answers (suc before) at new

-- a worker that began so has taken so many
abbrev pub HasTakenRounds : {N : Type 0} → Answering N → ℕ → N → Type 0
HasTakenRounds {N} answers rounds worker = (new : N) × TakesRounds answers rounds worker new
