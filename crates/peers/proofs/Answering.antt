-- The answers to all that the node was handed, what becomes of an `ASK`, and leases given back.
use Rattle.std.proofs.Common.{◌≡◌, ◌∙◌, sym, subst, ap, List, [], ◌∷◌, ◌++◌, ℕ, arith, refl, inl, ◌<◌, zero, suc, true, false, length, get_or, ◌+◌, drop, map, append_assoc, ◌≢◌}
use Rattle.std.specs.Prelude.{Option, Some, None, ◌==◌, position, Ok, Result, Err, IfErr}
use Rattle.std.specs.Option.{is_some}
use Rattle.std.proofs.lemmas.Bool.Decides.{nat_tests}
use Rattle.std.proofs.lemmas.List.Quantifiers.{position-Some}
use Rattle.std.proofs.lemmas.List.{map-append}
use Rattle.wire.specs.Terms.{Answering, Scene, Reply, Fulfilled, scene, Happening, BrokenOff, Faulted, Handed, kept_text}
use Rattle.peers.specs.Served.{Incoming, Taking, Opened, Came, Gone, Passed, Room, Served, Exchange, AnswersWhereThere, TakesArrival, Rounds, served, unseen}
use Rattle.peers.specs.Peers.{PeerState, peer_at}
use Rattle.peers.specs.declared.guarded.Guarded.{Guarded}
use Rattle.peers.specs.Sent.{all_handed}
use Rattle.peers.specs.declared.guard.Passage.{Passage}
use Rattle.peers.specs.declared.guard.Passage.TheVariants.{Whole, Ask, GiveBack, Later, Holdout, Nothing}
use Rattle.peers.specs.Guard.{AskerState, GuardState, MayAsk, is_of, returned, returned_by}
use Rattle.peers.specs.Passing.{BecomesOfAsk, IsLeased, BecomesOfIdle, asker_at, is_idle_at, is_spent, is_spent_by, nobody}
use Rattle.wire.specs.declared.node.Out.{Out}
use Rattle.wire.specs.declared.handing.TurnFault.{TurnFault}
use Rattle.wire.specs.declared.handing.TurnFault.TheVariants.{LinkFault}

-- The answers to all that the node was handed, one after another, whoever asked.
pub fulfilled_append : {N : Type 0} (answers : Answering N) (old at new : Scene N) (replies more : List Reply)
    → Fulfilled answers old replies at → Fulfilled answers at more new → Fulfilled answers old (replies ++ more) new
fulfilled_append answers old at new [] more e whole = subst (λ s. Fulfilled answers s more new) e whole
fulfilled_append answers old at new (reply ∷ replies) more (node, given, others) whole =
    (node, given, fulfilled_append answers _ at new replies more others whole)

-- nothing is handed over
quiet : {N : Type 0} (answers : Answering N) (old new : Served N) (handed : List Reply) → handed ≡ [] → new.node ≡ old.node → new.text ≡ old.text
    → Fulfilled answers (unseen old) handed (unseen new)
quiet {N} answers old new handed none node text =
    subst (λ (rs : List Reply). Fulfilled answers (unseen old) rs (unseen new)) (sym none)
    (ap (λ (n : Guarded N). scene n.node new.text None) node ∙ ap (λ (t : Option (List ℕ)). scene old.node.node t None) text)

heard_answers : {N : Type 0} (answers : Answering N) (old new : Served N) (before after : Option PeerState) (piece : List ℕ) (replies handed : List Reply)
    → AnswersWhereThere answers old before piece replies handed new after → Fulfilled answers (unseen old) handed (unseen new)
heard_answers answers old new None after piece replies handed (none, unhanded, node, text, gone) = quiet answers old new handed unhanded node text
heard_answers answers old new (Some peer) after piece replies handed (next, e, told) = told.whole

pub arrival_answers : {N : Type 0} (answers : Answering N) (old : Served N) (came : Incoming) (replies handed : List Reply) (new : Served N)
    → TakesArrival answers old came replies handed new → Fulfilled answers (unseen old) handed (unseen new)
arrival_answers {N} answers old Opened replies handed new (none, unhanded, e) =
    quiet answers old new handed unhanded (ap (λ (s : Served N). s.node) e) (ap (λ (s : Served N). s.text) e)
arrival_answers answers old (Came place piece) replies handed new (told, kept) =
    heard_answers answers old new (peer_at old.peers place) (peer_at new.peers place) piece replies handed told
arrival_answers answers old (Gone place) replies handed new (none, leaves) = leaves.whole
arrival_answers answers old (Passed moment) replies handed new (none, ticks) =
    subst (λ (rs : List Reply). Fulfilled answers (unseen old) rs (unseen new)) (sym ticks.told)
    (new.node.node, ticks.answer, ap (λ (t : Option (List ℕ)). scene new.node.node t None) ticks.kept)
arrival_answers {N} answers old (Room place) replies handed new (none, unhanded, e) =
    quiet answers old new handed unhanded (ap (λ (s : Served N). s.node) e) (ap (λ (s : Served N). s.text) e)

pub rounds_answer : {N : Type 0} (answers : Answering N) (takes : Taking) (old : Served N) (exchanges : List Exchange) (new : Served N)
    → Rounds answers takes old exchanges new → Fulfilled answers (unseen old) (all_handed exchanges) (unseen new)
rounds_answer {N} answers takes old [] new e = ap (λ (s : Served N). unseen s) e
rounds_answer answers takes old (exchange ∷ exchanges) new (at, (peers, arrives, flushes), others) =
    fulfilled_append answers (unseen old) (unseen at) (unseen new) exchange.handed (all_handed exchanges)
    (arrival_answers answers old exchange.came exchange.replies exchange.handed (served at.node at.text peers) arrives)
    (rounds_answer answers takes at exchanges new others)

-- What may become of an `ASK`.
here : (askers : List AskerState) (place : ℕ) (asker : AskerState) → place < length askers → asker ≡ get_or askers place asker
    → asker ≡ get_or askers place nobody
here [] place asker within is = absurd (let none : ⊥ = omega arith in none)
here (first ∷ askers) zero asker within is = is
here (first ∷ askers) (suc place) asker within is = here askers place asker (omega arith) is

same_number : (a b : ℕ) → (a == b) ≡ true → a ≡ b
same_number a b is = grind (arith, nat_tests)

-- an id that brought nothing waits
waiting : (guard : GuardState) (id place : ℕ) (asker : AskerState) (p : Passage) → asker ≡ asker_at guard place → place < length guard.askers
    → (MayAsk guard id → ⊥) → BecomesOfIdle id place asker p → BecomesOfAsk guard id p
waiting guard id place asker Whole is within owes none = absurd none
waiting guard id place asker (Ask by at wait) is within owes (by_is, at_is) = (by_is, inl (subst (λ (n : ℕ). n < length guard.askers) (sym at_is) within))
waiting guard id place asker (GiveBack at) is within owes (at_is, has) = (
  owes,
  subst (λ (n : ℕ). n < length guard.askers) (sym at_is) within,
  subst (λ (n : ℕ). IsLeased (asker_at guard n)) (sym at_is) (subst IsLeased is has),
)
waiting guard id place asker Later is within owes waits = owes
waiting guard id place asker Holdout is within owes none = absurd none
waiting guard id place asker Nothing is within owes none = absurd none

-- as one that asked before, and brought nothing since
pub asks_idle : (guard : GuardState) (id place : ℕ) (asker : AskerState) (p : Passage) → position (is_of id) guard.askers ≡ Some place
    → asker ≡ get_or guard.askers place asker → is_idle_at guard.records asker ≡ true → BecomesOfIdle id place asker p → BecomesOfAsk guard id p
asks_idle guard id place asker p found at idle waits =
    let first = position-Some (is_of id) guard.askers place nobody found in
    let is = here guard.askers place asker first.0 at in
    let same : is_idle_at guard.records (asker_at guard place) ≡ true = ap (is_idle_at guard.records) (sym is) ∙ idle in
    waiting guard id place asker p is first.0
    (λ may. (may.owes_nothing place nobody first.0 (same_number _ _ same)).0 (same_number _ _ first.1))
    waits

spent : (frame : Option (List ℕ)) (records : ℕ) (asker : AskerState) → is_spent_by frame records asker ≡ true
    → (frame ≡ None) × ((asker.records == records) ≡ true)
spent (Some frame) records asker is = absurd (let e : false ≡ true = is in cc)
spent None records asker is = (refl, is)

-- or as another that gave its lease back
pub asks_spent : (guard : GuardState) (id place : ℕ) (asker : AskerState) (p : Passage) → position (is_spent guard.records) guard.askers ≡ Some place
    → asker ≡ get_or guard.askers place asker → BecomesOfIdle id place asker p → BecomesOfAsk guard id p
asks_spent guard id place asker p found at waits =
    let first = position-Some (is_spent guard.records) guard.askers place nobody found in
    let was = spent (asker_at guard place).returning guard.records (asker_at guard place) first.1 in
    waiting guard id place asker p (here guard.askers place asker first.0 at) first.0
    (λ may. (may.owes_nothing place nobody first.0 (same_number _ _ was.1)).1 was.0)
    waits

-- there is something
pub some_is : {X : Type 0} (o : Option X) → is_some o ≡ true → (x : X) × (o ≡ Some x)
some_is (Some x) some = (x, refl)
some_is None some = absurd (let e : false ≡ true = some in cc)

-- A peer that leaves gives its leases back, one after another.

-- what is left from a place on begins with the lease there
returned_drop : (askers : List AskerState) (place : ℕ) (asker : AskerState) → place < length askers → asker ≡ get_or askers place asker
    → returned (drop place askers) ≡ returned_by asker.returning ++ returned (drop (suc place) askers)
returned_drop [] place asker below is = absurd (let none : ⊥ = omega arith in none)
returned_drop (first ∷ askers) zero asker below is = ap (λ (a : AskerState). returned_by a.returning ++ returned askers) (sym is)
returned_drop (first ∷ askers) (suc place) asker below is = returned_drop askers place asker (omega arith) is

pub returned_next : (askers : List AskerState) (place : ℕ) (asker : AskerState) → place < length askers → asker ≡ get_or askers place asker
    → returned (drop place askers) ≡ returned_by asker.returning ++ returned (drop (place + 1) askers)
returned_next askers place asker below is =
    let e : suc place ≡ place + 1 = omega arith in
    subst (λ (n : ℕ). returned (drop place askers) ≡ returned_by asker.returning ++ returned (drop n askers)) e (returned_drop askers place asker below is)

module _ {N : Type 0} (answers : Answering N) where
  pub handed_none : (old : Scene N) (events : List Happening) → Handed answers old events events old
  handed_none old events = record { replies = []; order = refl; whole = refl }

  -- the first of what is left is handed over, as far as something
  handed_on : (old at new : Scene N) (events more left rest : List Happening) → Handed answers old events (more ++ rest) at
      → Handed answers at more left new → Handed answers old events (left ++ rest) new
  handed_on old at new events more left rest before next =
      let to = λ (reply : Reply). reply.to in
      record {
        replies = before.replies ++ next.replies;
        order = before.order ∙ ap (λ (es : List Happening). map to before.replies ++ (es ++ rest)) next.order
            ∙ ap (λ (es : List Happening). map to before.replies ++ es) (append_assoc (map to next.replies) left rest)
            ∙ sym (append_assoc (map to before.replies) (map to next.replies) (left ++ rest))
            ∙ ap (λ (es : List Happening). es ++ (left ++ rest)) (sym (map-append to before.replies next.replies));
        whole = fulfilled_append answers old at new before.replies next.replies before.whole next.whole;
      }

  pub handed_more : (old at new : Scene N) (events left more rest : List Happening) → Handed answers old events left at → left ≡ more ++ rest
      → Handed answers at more [] new → Handed answers old events rest new
  handed_more old at new events left more rest before is next =
      handed_on old at new events more [] rest (subst (λ (es : List Happening). Handed answers old events es at) is before) next

  pub broken_more : (is_stopped : N → Type 0) (old at new : Scene N) (events left more rest : List Happening) (fault : TurnFault)
      → Handed answers old events left at → left ≡ more ++ rest → BrokenOff answers is_stopped at more fault [] new
      → BrokenOff answers is_stopped old events fault rest new
  broken_more is_stopped old at new events left more rest fault before is broken = record {
    event = broken.event;
    at = broken.at;
    before =
        handed_on old at broken.at events more (broken.event ∷ []) rest (subst (λ (es : List Happening). Handed answers old events es at) is before) broken.before;
    faulted = broken.faulted;
  }

  -- one event is handed over
  pub handed_one : (old new : N) (text after : Option (List ℕ)) (event : Happening) (out : Out) → answers old event (Ok out) new → after ≡ kept_text out text
      → Handed answers (scene old text None) (event ∷ []) [] (scene new after None)
  handed_one old new text after event out answer kept = record {
    replies = record { to = event; out = out } ∷ [];
    order = refl;
    whole = (new, answer, ap (λ (t : Option (List ℕ)). scene new t None) kept);
  }

  pub broken_one : (is_stopped : N → Type 0) (old new : Scene N) (event : Happening) (fault : TurnFault) → Faulted answers is_stopped old event fault new
      → BrokenOff answers is_stopped old (event ∷ []) fault [] new
  broken_one is_stopped old new event fault faulted = record { event = event; at = old; before = handed_none old (event ∷ []); faulted = faulted }

-- A node that is handed what nobody asked.

-- a fault that isn't of the link
pub unlinked : (F : TurnFault → Type 0) (r : Result (Unit {0}) TurnFault) → (r ≡ Err LinkFault → ⊥) → IfErr r F
    → IfErr r (λ fault. (fault ≢ LinkFault) × F fault)
unlinked F (Ok done) none is = is
unlinked F (Err fault) none is = (λ e. none (ap Err e), is)

-- what is so of a fault makes something else so of it
pub weaker : (F G : TurnFault → Type 0) (r : Result (Unit {0}) TurnFault) → ((fault : TurnFault) → F fault → G fault) → IfErr r F → IfErr r G
weaker F G (Ok done) more is = is
weaker F G (Err fault) more is = more fault is
