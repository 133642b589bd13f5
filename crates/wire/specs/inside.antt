-- For the code: when a message's text reads back, and answers of a node that are gathered.
use Rattle.std.specs.Prelude.{◌≡◌, ◌<◌, ◌^◌, Ok, ◌⊎◌, ℕ, List, [], ◌∷◌, ◌++◌, Option, None, Result, Err, map}
use Rattle.std.specs.List.{flat_map}
use Rattle.machine_text.specs.Terms.{IsTable}
use Rattle.cert.specs.Terms.{record_of, record_text}
use Rattle.wire.specs.Message.{Message, Ask, Grant, Rec, Ack, Later, Done, Stop, IsTableOrNone}
use Rattle.wire.specs.declared.node.Out.{Out}
use Rattle.wire.specs.declared.handing.TurnFault.{TurnFault}
use Rattle.wire.specs.Fulfilled.{grown, Happening, Answering, Fulfilled, Handed, Reply, Scene, kept_text, scene, sent_by}

-- For the code: when a message's text reads back, as far as is known where it is written.
abbrev pub IsReadable : Message → Type 0
IsReadable (Ask id) = id < 2 ^ 32
IsReadable (Grant era lease table) = (era < 2 ^ 64) × (lease < 2 ^ 64) × IsTable table
IsReadable (Rec r) = record_of (record_text r) ≡ Ok r
IsReadable (Ack table) = IsTable table
IsReadable (Later table) = IsTableOrNone table
IsReadable (Done era lease) = (era < 2 ^ 64) × (lease < 2 ^ 64)
IsReadable Stop = Unit {0}

-- For the code: answers of a node that are gathered.
abbrev pub AreUncut : List Reply → Type 0
AreUncut [] = Unit {0}
AreUncut (reply ∷ replies) = (reply.out.cut ≡ None) × AreUncut replies

-- what answers append, one after another
abbrev pub appended_by : List Reply → List ℕ
appended_by replies = flat_map (λ reply. reply.out.append.items) replies

-- of these events the first were handed over, and their answers fulfilled; the answers to the next, none of which cuts,
-- are gathered as one
pub record HasGathered {N : Type 0} (answers : Answering N) (old : Scene N) (events left : List Happening)
    (text sent : Option (List ℕ)) (gathered : Out) (node : N) : Type 0 where
  pub first : N
  pub replies : List Reply
  pub before : Handed answers old events (map (λ reply. reply.to) replies ++ left) (scene first text sent)
  pub answered : Fulfilled answers (scene first text sent) replies
      (scene node (grown text gathered.append.items) (grown sent gathered.frames.items))
  pub uncut : AreUncut replies
  pub cut : gathered.cut ≡ None
  pub append : gathered.append.items ≡ appended_by replies
  pub frames : gathered.frames.items ≡ sent_by replies

-- an answer is gathered behind others, or it is fulfilled with them, and nothing is gathered then
abbrev pub TakesAnswer : Out → Out → Option (List ℕ) → Option (List ℕ) → Out → Option (List ℕ) → Option (List ℕ)
    → Type 0
TakesAnswer gathered out text sent new new_text new_sent =
    ((out.cut ≡ None) × (new.append.items ≡ gathered.append.items ++ out.append.items)
    × (new.frames.items ≡ gathered.frames.items ++ out.frames.items) × (new_text ≡ text) × (new_sent ≡ sent))
    ⊎ ((new.append.items ≡ []) × (new.frames.items ≡ [])
    × (new_text ≡ kept_text out (kept_text gathered text))
    × (new_sent ≡ grown (grown sent gathered.frames.items) out.frames.items))

-- a ledger's text once what is gathered is fulfilled; after a fault nothing is gathered
abbrev pub text_gathered : Result (Unit {0}) TurnFault → Out → Option (List ℕ) → Option (List ℕ)
text_gathered (Ok done) gathered text = kept_text gathered text
text_gathered (Err fault) gathered text = text
