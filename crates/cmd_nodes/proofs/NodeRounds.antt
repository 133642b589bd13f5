-- What nodes become by their answers, and rounds that workers take, one after another.
use Rattle.std.proofs.Common.{List, [], ◌∷◌, ◌++◌, refl, ap, subst, ◌≡◌, ℕ, ◌+◌, ◌<◌, ◌≤◌, zero, suc, length, get_or, set, map, sym, ◌∙◌, append-nil, add-one, arith, below_more, get_or-set_same, get_or-set_other, drop, take, take_all, ◌⊎◌, inl, inr, ◌-◌}
use Rattle.std.proofs.lemmas.List.{length-map, drop_all}
use Rattle.std.specs.Prelude.{All, replicate}
use Rattle.wire.specs.Terms.{Happening, Answering, Fulfilled, Handed, Reply, Scene, fulfilled, Worked}
use Rattle.cmd_nodes.specs.Served.{Becomes, BecomesBy, AnswersRound, HasTakenRounds, TakesRound, TakesRounds, events_of_round}
use Rattle.peers.specs.Terms.{Taking, Exchange, Rounds, Served, unseen, all_handed}
use Rattle.peers.proofs.Answering.{rounds_answer}
use Rattle.cmd_nodes.specs.declared.rounds.Station.{Station}
use Rattle.cmd_nodes.specs.inside.{EachBecomes}
use Rattle.wire.specs.declared.node.NodeFault.TheVariants.{Stopped, NoMemory as NoNodeMemory}
use Rattle.wire.specs.declared.handing.TurnFault.{TurnFault}
use Rattle.wire.specs.declared.handing.TurnFault.TheVariants.{LinkFault, LedgerFault, Node, NoMemory as NoTurnMemory}
use Rattle.cmd_nodes.specs.Faults.{IsOwnFault, ended_in_memory}

-- Answers that follow one another.

-- a node that was fulfilled on by answers has became them
pub carried_becomes : {N : Type 0} (answers : Answering N) (old : Scene N) (replies : List Reply) (new : Scene N) → Fulfilled answers old replies new → BecomesBy answers old.node replies new.node
carried_becomes answers old [] new is = ap (λ s. s.node) is
carried_becomes answers old (reply ∷ replies) new is = (is.0, is.1, carried_becomes answers (fulfilled reply.out is.0 old) replies new is.2)

becomes_more : {N : Type 0} (answers : Answering N) (a b c : N) (replies more : List Reply) → BecomesBy answers a replies b → BecomesBy answers b more c → BecomesBy answers a (replies ++ more) c
becomes_more answers a b c [] more is next = subst (λ n. BecomesBy answers n more c) is next
becomes_more answers a b c (reply ∷ replies) more is next = (is.0, is.1, becomes_more answers is.0 b c replies more is.2 next)

-- nothing was answered yet
pub became_none : {N : Type 0} (answers : Answering N) (a : N) → Becomes answers a a
became_none answers a = ([], refl)

pub became_more : {N : Type 0} (answers : Answering N) (a b c : N) → Becomes answers a b → Becomes answers b c → Becomes answers a c
became_more answers a b c one other = (one.0 ++ other.0, becomes_more answers a b c one.0 other.0 one.1 other.1)

-- what a turn hands over is became
pub handed_becomes : {N : Type 0} (answers : Answering N) (old : Scene N) (events left : List Happening) (new : Scene N) → Handed answers old events left new → Becomes answers old.node new.node
handed_becomes answers old events left new is = (is.replies, carried_becomes answers old is.replies new is.whole)

-- What peers ask is answered by the node that serves them.
pub rounds_became : {N : Type 0} (answers : Answering N) (takes : Taking) (old : Served N) (exchanges : List Exchange) (new : Served N) → Rounds answers takes old exchanges new
    → Becomes answers old.node.node new.node.node
rounds_became answers takes old exchanges new is =
    (all_handed exchanges, carried_becomes answers (unseen old) (all_handed exchanges) (unseen new) (rounds_answer answers takes old exchanges new is))

-- Rounds that workers take, one after another.

-- a worker that was handed a round answered it
pub round_answered : {N : Type 0} (answers : Answering N) (round : ℕ) (old new : Scene N) → Handed answers old (events_of_round round) [] new → AnswersRound answers round old.node new.node
round_answered answers round old new handed = (handed.replies, handed.order ∙ append-nil _, carried_becomes answers old handed.replies new handed.whole)

-- one round more
pub round_more : {N : Type 0} (answers : Answering N) (before : ℕ) (old at new : N) → TakesRounds answers before old at → TakesRound answers (before + 1) at new → TakesRounds answers (before + 1) old new
round_more answers before old at new taken one =
    subst (λ (n : ℕ). TakesRounds answers n old new) (sym (add-one before)) (at, taken, subst (λ (n : ℕ). TakesRound answers n at new) (add-one before) one)

-- where each below a place became so, so does that at the place
module _ {A : Type 0} (R : A → A → Type 0) (olds at : List A) (i : ℕ) (y : A) (within : i < length at) (done : (k : ℕ) (d : A) → k < i → R (get_or olds k d) (get_or at k d))
    (left : (k : ℕ) (d : A) → i ≤ k → get_or at k d ≡ get_or olds k d) where
  pub each_done : ((d : A) → R (get_or at i d) y) → (k : ℕ) (d : A) → k < i + 1 → R (get_or olds k d) (get_or (set at i y) k d)
  each_done one k d less =
      below_more (λ (j : ℕ). R (get_or olds j d) (get_or (set at i y) j d)) i
      (λ j below. subst (R (get_or olds j d)) (sym (get_or-set_other at i j y d (λ same. absurd (let none : ⊥ = omega (arith, same, below) in none)))) (done j d below))
      (subst (R (get_or olds i d)) (sym (get_or-set_same at i y d within)) (subst (λ (a : A). R a y) (left i d (omega arith)) (one d))) k less

  pub rest_left : (k : ℕ) (d : A) → i + 1 ≤ k → get_or (set at i y) k d ≡ get_or olds k d
  rest_left k d past = get_or-set_other at i k y d (λ same. absurd (let none : ⊥ = omega (arith, same, past) in none)) ∙ left k d (omega arith)

-- what a loop over stations left in their places
pub each_written : {N Y : Type 0} (R : N → N → Type 0) (len : ℕ) (olds at : List (Station N Y)) → len ≡ length olds → length at ≡ length olds
    → ((k : ℕ) (d : Station N Y) → k < length olds → R (get_or olds k d).worker (get_or at k d).worker) → EachBecomes R olds (take len (at ++ drop (length at) olds))
each_written {N} {Y} R len olds at is many each =
    let same : take len (at ++ drop (length at) olds) ≡ at =
    ap (λ (l : List (Station N Y)). take len (at ++ l)) (drop_all (length at) olds (omega (arith, many))) ∙ (ap (λ (l : List (Station N Y)). take len l) (append-nil at) ∙ take_all len at (omega (arith, is, many))) in
    (ap length same ∙ many, λ k d less. subst (λ (l : List (Station N Y)). R (get_or olds k d).worker (get_or l k d).worker) (sym same) (each k d less))

-- each did, and each has become so since
pub each_more : {N Y : Type 0} (R S T : N → N → Type 0) (olds at news : List (Station N Y)) → ((old mid new : N) → R old mid → S mid new → T old new) → EachBecomes R olds at → EachBecomes S at news → EachBecomes T olds news
each_more R S T olds at news compose one other =
    (other.0 ∙ one.0, λ k d less. compose _ _ _ (one.1 k d less) (other.1 k d (let within : k < length at = omega (arith, one.0, less) in within)))

-- what holds of each station's worker holds of each worker
pub all_workers : {N Y : Type 0} (P : N → Type 0) (stations : List (Station N Y)) → ((k : ℕ) (d : Station N Y) → k < length stations → P (get_or stations k d).worker) → (k : ℕ) (d : N) → k < length stations
    → P (get_or (map (λ s. s.worker) stations) k d)
all_workers P [] each k d less = absurd (let none : ⊥ = omega (arith, less) in none)
all_workers P (s ∷ stations) each zero d less = each 0 s less
all_workers P (s ∷ stations) each (suc k) d less = all_workers P stations (λ j e below. each (suc j) e (omega (arith, below))) k d (omega (arith, less))

-- and so each has taken the rounds
pub all_taken : {N Y : Type 0} (answers : Answering N) (rounds : ℕ) (workers : List N) (olds news : List (Station N Y)) → map (λ s. s.worker) olds ≡ workers → EachBecomes (TakesRounds answers rounds) olds news → All (HasTakenRounds answers rounds) workers
all_taken {N} {Y} answers rounds workers olds news are each =
    subst (λ (l : List N). All (HasTakenRounds answers rounds) l) are
    (λ k d less. all_workers (HasTakenRounds answers rounds) olds (λ j e below. ((get_or news j e).worker, each.1 j e below)) k d
    (let within : k < length olds = omega (arith, less, length-map olds (λ (s : Station N Y). s.worker)) in within))

pub rounds_end : {N Y : Type 0} (Ends : Type 0) (answers : Answering N) (rounds : ℕ) (workers : List N) (olds news : List (Station N Y)) → map (λ s. s.worker) olds ≡ workers → Ends ⊎ EachBecomes (TakesRounds answers rounds) olds news
    → Ends ⊎ All (HasTakenRounds answers rounds) workers
rounds_end Ends answers rounds workers olds news are (inl ends) = inl ends
rounds_end Ends answers rounds workers olds news are (inr each) = inr (all_taken answers rounds workers olds news are each)

-- What is left of a round.

-- where work is left, it works next
pub works_next : (n : ℕ) (rest : List Happening) → 0 < n → replicate n Worked ++ rest ≡ Worked ∷ (replicate (n - 1) Worked ++ rest)
works_next zero rest some = absurd (let none : ⊥ = omega arith in none)
works_next (suc n) rest some =
    let e : n ≡ suc n - 1 = omega arith in
    ap (λ m. Worked ∷ (replicate m Worked ++ rest)) e

-- What ends workers by a fault of their own.
pub own_fault : (fault : TurnFault) → IsOwnFault (ended_in_memory fault)
own_fault LinkFault = inr refl
own_fault LedgerFault = inl refl
own_fault (Node Stopped) = inl refl
own_fault (Node NoNodeMemory) = inr refl
own_fault NoTurnMemory = inr refl
