-- One core of a crew among others: which place is its, and what turns and offers make of all.
use Rattle.std.proofs.Common.{arith, ◌≡◌, ◌<◌, ◌≢◌, ◌-◌, ℕ, zero, suc, List, [], ◌∷◌, refl, subst, Bool, true, false, length, sym, ◌++◌, length-append, ◌∙◌, ◌≤◌, cond, eqb, get_or, set, ap, ◌+◌}
use Rattle.std.specs.Prelude.{Option, Result, Ok, Err, Some, slice_get, All, count_by}
use Rattle.std.proofs.lemmas.Bool.Decides.{nat_tests}
use Rattle.std.proofs.lemmas.List.Elements.{All-head, All-set, All-tail}
use Rattle.std.proofs.lemmas.Option.{slice_get_read}
use Rattle.std.proofs.lemmas.List.Sums.{count_by-le-length}
use Rattle.std.proofs.lemmas.List.Splits.{length-slice_split}
use Rattle.wire.specs.declared.node.Out.{Out}
use Rattle.wire.specs.declared.handing.TurnFault.{TurnFault}
use Rattle.wire.specs.Terms.{Worked, Answering, Came}
use Rattle.peers.specs.Crew.{Hall, Handed, AfterTurn, Serves, ServesFrom, Turns, hall, without_answer, AfterAnswer, AfterNote, AnswersOldest, HearsAll, HearsLine, Offers, TakesWord, has_it, next_place, with_course, ArePlaces, IsLatest, Replaces, none}
use Rattle.text.specs.Terms.{BoundedLine, parts_of}
use Rattle.peers.specs.declared.pool_core.Core.{Core}
use Rattle.peers.specs.declared.pool_core.Course.{Course}
use Rattle.text.proofs.Cuts.{is_newline}
use Rattle.peers.specs.declared.pool_core.Awaited.{Awaited}
use Rattle.peers.specs.Frames.{asks_in, is_ask, is_record, records_in}

-- One turn after another.
module _ {N W : Type 0} (answers : Answering N) (is_stopped : N → Type 0) (text : W → Option (List ℕ)) where
  pub turns_none : (place : ℕ) (old : Hall N W) → Turns answers is_stopped text 0 place (Ok tt) old old
  unfolding Turns
  turns_none place old = (refl, refl)

  after_some : (frames : List ℕ) (at new : Hall N W) (result : Result (Unit {0}) TurnFault) (more : Type 0) → frames ≢ [] → more
      → AfterTurn frames at result new more
  after_some [] at new result more some it = absurd (some refl)
  after_some (byte ∷ frames) at new result more some it = it

  after_none : (frames : List ℕ) (at : Hall N W) (more : Type 0) → frames ≡ [] → AfterTurn frames at (Ok tt) at more
  after_none [] at more none = (refl, refl)
  after_none (byte ∷ frames) at more none = absurd (cc)

  -- a turn whose answer has frames, and then the others
  pub turns_more : (left place : ℕ) (result : Result (Unit {0}) TurnFault) (old at new : Hall N W) (out : Out) → 0 < left
      → Handed answers is_stopped text place Worked (Ok out) old at → out.frames.items ≢ []
      → Turns answers is_stopped text (left - 1) place result at new → Turns answers is_stopped text left place result old new
  unfolding Turns
  turns_more zero place result old at new out some handed frames more = absurd (let none : ⊥ = omega arith in none)
  turns_more (suc left) place result old at new out some handed frames more =
      let e : suc left - 1 ≡ left = omega arith in
      (Ok out, at, handed, after_some out.frames.items at new result _ frames (subst (λ (n : ℕ). Turns answers is_stopped text n place result at new) e more))

  -- a turn whose answer has none
  pub turns_last : (left place : ℕ) (old at : Hall N W) (out : Out) → 0 < left
      → Handed answers is_stopped text place Worked (Ok out) old at → out.frames.items ≡ []
      → Turns answers is_stopped text left place (Ok tt) old at
  unfolding Turns
  turns_last zero place old at out some handed frames = absurd (let none : ⊥ = omega arith in none)
  turns_last (suc left) place old at out some handed frames = (Ok out, at, handed, after_none out.frames.items at _ frames)

  -- a turn that brings a fault
  pub turns_fault : (left place : ℕ) (old at : Hall N W) (fault : TurnFault) → 0 < left
      → Handed answers is_stopped text place Worked (Err fault) old at → Turns answers is_stopped text left place (Err fault) old at
  unfolding Turns
  turns_fault zero place old at fault some handed = absurd (let none : ⊥ = omega arith in none)
  turns_fault (suc left) place old at fault some handed = (Err fault, at, handed, (refl, refl))

  pub serves_none : (limit place : ℕ) (old : Hall N W) → ServesFrom answers is_stopped text limit 0 place (Ok tt) old old
  unfolding ServesFrom
  serves_none limit place old = (refl, refl)

  -- a core, and then the others
  pub serves_more : (limit left place : ℕ) (result : Result (Unit {0}) TurnFault) (old at new : Hall N W) → 0 < left
      → Serves answers is_stopped text limit place (Ok tt) old at
      → ServesFrom answers is_stopped text limit (left - 1) (suc place) result at new
      → ServesFrom answers is_stopped text limit left place result old new
  unfolding ServesFrom
  serves_more limit zero place result old at new some served more = absurd (let none : ⊥ = omega arith in none)
  serves_more limit (suc left) place result old at new some served more =
      let e : suc left - 1 ≡ left = omega arith in
      (Ok tt, at, served, subst (λ (n : ℕ). ServesFrom answers is_stopped text limit n (suc place) result at new) e more)

  -- a core that brings a fault
  pub serves_fault : (limit left place : ℕ) (old at : Hall N W) (fault : TurnFault) → 0 < left
      → Serves answers is_stopped text limit place (Err fault) old at
      → ServesFrom answers is_stopped text limit left place (Err fault) old at
  unfolding ServesFrom
  serves_fault limit zero place old at fault some served = absurd (let none : ⊥ = omega arith in none)
  serves_fault limit (suc left) place old at fault some served = (Err fault, at, served, (refl, refl))

-- One core after another is offered the word on a record, and one line after another is heard.
module _ {N W : Type 0} (answers : Answering N) (is_stopped : N → Type 0) (text : W → Option (List ℕ)) where
  pub offers_none : (place : ℕ) (frame : List ℕ) (old : Hall N W) → Offers answers is_stopped text 0 place frame (Ok tt) old old
  unfolding Offers
  offers_none place frame old = (refl, refl)

  -- one that has no such record, and then the others
  pub offers_more : (left place : ℕ) (frame : List ℕ) (result : Result (Unit {0}) TurnFault) (old at new : Hall N W) (out : Out)
      → 0 < left → Handed answers is_stopped text place (Came frame) (Ok out) old at → has_it out.note ≡ false
      → Offers answers is_stopped text (left - 1) (next_place (length at.crew.cores) place) frame result at new
      → Offers answers is_stopped text left place frame result old new
  unfolding Offers
  offers_more zero place frame result old at new out some handed stale more = absurd (let none : ⊥ = omega arith in none)
  offers_more (suc left) place frame result old at new out some handed stale more =
      let e : suc left - 1 ≡ left = omega arith in
      let others = subst (λ (n : ℕ). Offers answers is_stopped text n (next_place (length at.crew.cores) place) frame result at new) e more in (
        Ok out,
        at,
        handed,
        subst (λ (b : Bool). AfterNote b place at result new (Offers answers is_stopped text left (next_place (length at.crew.cores) place) frame result at new)) (sym stale) others,
      )

  -- one that has it
  pub offers_taken : (left place : ℕ) (frame : List ℕ) (old at new : Hall N W) (out : Out)
      → 0 < left → Handed answers is_stopped text place (Came frame) (Ok out) old at → has_it out.note ≡ true
      → TakesWord place at.crew new.crew → new.sent ≡ at.sent
      → Offers answers is_stopped text left place frame (Ok tt) old new
  unfolding Offers
  offers_taken zero place frame old at new out some handed has taken sent = absurd (let none : ⊥ = omega arith in none)
  offers_taken (suc left) place frame old at new out some handed has taken sent = (
    Ok out,
    at,
    handed,
    subst (λ (b : Bool). AfterNote b place at (Ok tt) new (Offers answers is_stopped text left (next_place (length at.crew.cores) place) frame (Ok tt) at new)) (sym has) (taken, sent, refl),
  )

  -- one that brings a fault
  pub offers_fault : (left place : ℕ) (frame : List ℕ) (old at : Hall N W) (fault : TurnFault)
      → 0 < left → Handed answers is_stopped text place (Came frame) (Err fault) old at
      → Offers answers is_stopped text left place frame (Err fault) old at
  unfolding Offers
  offers_fault zero place frame old at fault some handed = absurd (let none : ⊥ = omega arith in none)
  offers_fault (suc left) place frame old at fault some handed = (Err fault, at, handed, (refl, refl))

  -- the oldest `ASK` is answered
  pub oldest_answered : (course : Course) (frame asks rest : List ℕ) (place : ℕ) (core : Core N W) (answer : Result Out TurnFault) (old mid at new : Hall N W)
      → asks ≡ place ∷ rest → slice_get old.crew.cores place ≡ Some core → mid ≡ hall (with_course course place rest core old.crew) old.sent
      → Handed answers is_stopped text place (Came frame) answer mid at → AfterAnswer answer place at new
      → AnswersOldest answers is_stopped text course frame asks (without_answer answer) old new
  oldest_answered course frame asks rest place core answer old mid at new is stands same handed after =
      subst (λ (asks : List ℕ). AnswersOldest answers is_stopped text course frame asks (without_answer answer) old new) (sym is)
      (core, stands, answer, at, subst (λ h. Handed answers is_stopped text place (Came frame) answer h at) same handed, after, refl)

  pub heard_none : (old : Hall N W) → HearsAll answers is_stopped text [] (Ok tt) [] old old
  unfolding HearsAll
  heard_none old = (refl, refl, refl)

  -- a line, and then the others
  pub heard_more : (line : BoundedLine) (lines left : List BoundedLine) (result : Result (Unit {0}) TurnFault) (old at new : Hall N W)
      → HearsLine answers is_stopped text line (Ok tt) old at → HearsAll answers is_stopped text lines result left at new
      → HearsAll answers is_stopped text (line ∷ lines) result left old new
  unfolding HearsAll
  heard_more line lines left result old at new first more = (Ok tt, at, first, more)

  -- a line that brings a fault
  pub heard_fault : (line : BoundedLine) (lines : List BoundedLine) (old at : Hall N W) (fault : TurnFault)
      → HearsLine answers is_stopped text line (Err fault) old at → HearsAll answers is_stopped text (line ∷ lines) (Err fault) lines old at
  unfolding HearsAll
  heard_fault line lines old at fault first = (Err fault, at, first, (refl, refl, refl))

-- One core among others.

-- a fact of each element stays one where one element is replaced by another of which it is so
pub all_replaced : {X : Type 0} (P : X → Type 0) (old now new : List X) (place : ℕ) (x y : X) → now ≡ old → place < length old
    → x ≡ get_or now place x → new ≡ set now place y → (P x → P y) → All P old → All P new
all_replaced P old now new place x y is within at replaced step all =
    let within_now = subst (λ xs. place < length xs) (sym is) within in
    let all_now = subst (All P) (sym is) all in
    subst (All P) (sym replaced) (All-set P now place y (step (subst P (sym at) (all_now place x within_now))) all_now)

-- the core at a place
pub stands : {X : Type 0} (place : ℕ) (core : X) (old now : List X) → now ≡ old → place < length old
    → core ≡ get_or now place core → slice_get old place ≡ Some core
stands place core old now is within at = slice_get_read old (length old) place core refl within (at ∙ ap (λ cores. get_or cores place core) is)

pub replaced : {N W : Type 0} (place : ℕ) (core next : Core N W) (old now new : List (Core N W)) → now ≡ old → place < length old
    → core ≡ get_or now place core → new ≡ set now place next → Replaces place core next old new
replaced place core next old now new is within at others = record {
  at = stands place core old now is within at;
  others = others ∙ ap (λ cores. set cores place next) is;
}

-- a place behind a place is one of a core too
pub next_within : (count place : ℕ) → place < count → next_place count place < count
next_within count place within =
    elim (eqb (suc place) count) as (λ b. eqb (suc place) count ≡ b → cond b 0 (suc place) < count) [
      | true ↦ λ is. omega arith
      | false ↦ λ is. grind (arith, nat_tests)
    ] refl

-- more cores, or as many: each place is still one of a core
pub within_more : {N W : Type 0} (places : List ℕ) (latest : ℕ) (old new : List (Core N W)) → length old ≤ length new
    → ArePlaces places old × IsLatest latest old → ArePlaces places new × IsLatest latest new
within_more places latest old new more before = (
  λ k d lt. let h = before.0 k d lt in omega arith,
  let h = before.1 in omega arith,
)

-- the first place is one of a core, and so are the others
pub oldest_within : {N W : Type 0} (places rest : List ℕ) (place : ℕ) (cores : List (Core N W)) → ArePlaces places cores
    → places ≡ place ∷ rest → (place < length cores) × ArePlaces rest cores
oldest_within places rest place cores within is =
    let all = subst (λ ps. ArePlaces ps cores) is within in
    (All-head (λ p. p < length cores) place rest all, All-tail (λ p. p < length cores) place rest all)

-- a list that may have got more elements has no fewer
pub longer : {X : Type 0} (some : Bool) (old more new : List X) → new ≡ cond some (old ++ more) old → length old ≤ length new
longer true old more new is =
    let l = ap length is in
    let s = length-append old more in
    omega arith
longer false old more new is = let l = ap length is in omega arith

-- Counts of frames.

-- nothing is counted yet
pub record Uncounted (start : Awaited) (frames : List ℕ) (parts : List (List ℕ)) : Type 0 where
  pub asks : start.asks + count_by is_ask parts ≡ asks_in frames
  pub records : start.records + count_by is_record parts ≡ records_in frames
  pub fits : start.asks + start.records + length parts ≤ length frames + 1

pub uncounted : (frames : List ℕ) → Uncounted none frames (parts_of 10 frames)
unfolding asks_in records_in
uncounted frames =
    let parts = length-slice_split is_newline frames in
    let few = count_by-le-length is_newline frames in
    record { asks = omega arith; records = omega arith; fits = omega arith }
