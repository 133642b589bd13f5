-- What is kept of a run, and what tests for cycles and translated cycles show of it.
use Rattle.std.proofs.Common.{◌≡◌, ℕ, ◌+◌, ◌<◌, ◌≤◌, ℤ, pos, ◌-ℤ◌, neg_ℤ, ◌≤ℤ◌, Some, ap, subst, arith, ◌⊎◌, inl, inr, sym, Bool, true, false, ◌∙◌}
use Rattle.std.proofs.lemmas.Int.{ints, fits_signed_from_abs, by_lt_z}
use Rattle.std.specs.Int.{w64}
use Rattle.std.specs.Int.RustNames.{FitsSigned}
use Rattle.std.specs.Prelude.{◌↔◌, IsTrue}
use Rattle.std.proofs.lemmas.Option.{same_Some}
use Rattle.machine_text.specs.Terms.{Packed, entry_of}
use Rattle.machine_text.specs.declared.table.Dir.{Dir}
use Rattle.law_turing.specs.Terms.{Machine, Config, start, after, Farthest, Beyond, Cycle, Translated}
use Rattle.law_turing.proofs.RunLaws.{not_past, before}
use Rattle.law_turing.proofs.Cycles.{head_reach, beyond_itself, farthest_first, farthest_same, farthest_new, one_farthest}
use Rattle.tape.specs.Terms.{IsWithinLimit, SameBeyond}
use Rattle.run.specs.Terms.{RunState, OnRun, RunsTo, StepsTo}
use Rattle.run.specs.declared.runner.Step.{Step}
use Rattle.run.specs.declared.runner.Step.TheVariants.{Halts}
use Rattle.loops.specs.inside.{Moment, IsMomentOf, moment_of, Arrives, ComesTo, Follows}
use Rattle.loops.specs.Limits.{time_limit}
use Rattle.machine_text.specs.declared.table.Dir.TheVariants.{L, R}

-- Runs that halt before a time, and heads at a time.

-- a run that halts in at most k steps has no time k
pub halts_before : (k : ℕ) (old new : RunState) (step : Step) (count : ℕ) → RunsTo k old step new → step ≡ Halts count → (c : Config) → after (entry_of old.table) k ≡ Some c → ⊥
halts_before k old new step count runs is_halts c is =
    let halts = subst (λ (s : Step). RunsTo k old s new) is_halts runs in
    let late : k < count = not_past (entry_of old.table) k count c is halts.1.halts in
    let early : count ≤ k = halts.2 in
    omega arith

-- a run that halts with the next step has no time after this one
pub halts_now : (old new : RunState) (step : Step) (count : ℕ) → StepsTo old step new → step ≡ Halts count → (c : Config) → after (entry_of old.table) (old.steps + 1) ≡ Some c → ⊥
halts_now old new step count steps is_halts c is =
    let halts = subst (λ (s : Step). StepsTo old s new) is_halts steps in
    let late : old.steps + 1 < count = not_past (entry_of old.table) (old.steps + 1) count c is halts.1.halts in
    let same : new.steps ≡ old.steps = ap (λ (r : RunState). r.steps) halts.0 in
    let last : count ≡ new.steps + 1 = halts.1.last in
    omega arith

-- a place that a head can have come to by the latest time
pub record IsNear (x : ℤ) : Type 0 where
  pub low : neg_ℤ (pos time_limit) ≤ℤ x
  pub high : x ≤ℤ pos time_limit

pub near_at : (m : Machine) (k : ℕ) (c : Config) → after m k ≡ Some c → k ≤ time_limit → IsNear c.tape.head
near_at m k c is early =
    let reach = head_reach m k start c is in
    record { low = omega (arith, ints, reach.0); high = omega (arith, ints, reach.1) }

pub near_bound : (m : Machine) (side : Dir) (i j : ℕ) (b : ℤ) → Farthest m side i j b → j ≤ time_limit → IsNear b
near_bound m side i j b f early =
    let high = f.high in
    subst IsNear f.reached (near_at m f.time f.there f.is (omega arith))

pub near_within : (x : ℤ) → IsNear x → IsWithinLimit x
near_within x near =
    let low = near.low in
    let high = near.high in
    record { low = omega (arith, ints); high = omega (arith, ints) }

pub shift_within : (x y : ℤ) → IsNear x → IsNear y → IsWithinLimit (y -ℤ x)
shift_within x y near other =
    let low = near.low in
    let high = near.high in
    let other_low = other.low in
    let other_high = other.high in
    record { low = omega (arith, ints); high = omega (arith, ints) }

-- the configurations of a run up to the latest time
pub near_moment : (p : Packed) (moment : Moment) → IsMomentOf p moment → moment.time ≤ time_limit → IsNear moment.config.tape.head
near_moment p moment is early = near_at (entry_of p) moment.time moment.config is.at early

pub near_standing : (r : RunState) → OnRun r → r.steps ≤ time_limit → IsNear r.config.tape.head
near_standing r stands early = near_at (entry_of r.table) r.steps r.config stands.at early

pub shift_fits : (x y : ℤ) → IsNear x → IsNear y → FitsSigned w64 (y -ℤ x)
shift_fits x y near other =
    let low = near.low in
    let high = near.high in
    let other_low = other.low in
    let other_high = other.high in
    fits_signed_from_abs w64 (y -ℤ x) (omega (arith, ints))

-- The farthest head, from one time of a run to the next.

-- of two places one is beyond the other
pub beyond_or : (side : Dir) (a b : ℤ) → Beyond side a b ⊎ Beyond side b a
beyond_or L a b = by_lt_z a b (λ less. inr (omega (arith, ints))) (λ more. inl more)
beyond_or R a b = by_lt_z a b (λ less. inl (omega (arith, ints))) (λ more. inr more)

-- the farther of two heads
pub record IsFarther (side : Dir) (a b r : ℤ) : Type 0 where
  pub first : Beyond side a b → r ≡ a
  pub second : Beyond side b a → r ≡ b

-- one time more, whose head may be farther
pub farthest_more : (m : Machine) (side : Dir) (i k : ℕ) (b r : ℤ) (c : Config) → Farthest m side i k b → after m k ≡ Some c → IsFarther side b c.tape.head r
    → Farthest m side i (k + 1) r
farthest_more m side i k b r c f is farther =
    elim (beyond_or side b c.tape.head) [
      | inl near ↦ subst (Farthest m side i (k + 1)) (sym (farther.first near)) (farthest_same m side i k b c f is near)
      | inr far ↦ subst (Farthest m side i (k + 1)) (sym (farther.second far)) (farthest_new m side i k b c f is far)
    ]

-- the bound of a loop over the times from i on: before the first of them it is the head
abbrev pub IsBoundSoFar : Machine → Dir → ℕ → ℕ → ℤ → ℤ → Type 0
IsBoundSoFar m side i k head b = ((k ≡ i) × (b ≡ head)) ⊎ Farthest m side i k b

pub bound_more : (m : Machine) (side : Dir) (i k : ℕ) (b r : ℤ) (c : Config) → IsBoundSoFar m side i k c.tape.head b → after m k ≡ Some c → IsFarther side b c.tape.head r
    → Farthest m side i (k + 1) r
bound_more m side i k b r c (inl now) is farther =
    let beyond : Beyond side c.tape.head b = subst (Beyond side c.tape.head) (sym now.1) (beyond_itself side c.tape.head) in
    subst (λ (t : ℕ). Farthest m side t (k + 1) r) now.0 (subst (Farthest m side k (k + 1)) (sym (farther.second beyond)) (farthest_first m side k c is))
bound_more m side i k b r c (inr f) is farther = farthest_more m side i k b r c f is farther

-- What is kept of a run, and what it shows at a later time.

-- the two answers of a run up to a time
pub arrived : (k : ℕ) (old new : RunState) (came : Bool) → ComesTo k old came new → came ≡ true → Arrives k old new
arrived k old new came comes is = subst (λ (b : Bool). ComesTo k old b new) is comes

pub not_arrived : (k : ℕ) (old new : RunState) (came : Bool) → ComesTo k old came new → came ≡ false → (c : Config) → after (entry_of old.table) k ≡ Some c → ⊥
not_arrived k old new came comes is = subst (λ (b : Bool). ComesTo k old b new) is comes

-- a run without a time has none of the later ones
pub none_after : (m : Machine) (k j : ℕ) → k ≤ j → ((c : Config) → after m k ≡ Some c → ⊥) → (c : Config) → after m j ≡ Some c → ⊥
none_after m k j early none c is =
    let (b, at) = before m k j start c early is in
    none b at

-- where a runner stands is a moment of its table's run
pub stands_moment : (r : RunState) → OnRun r → IsMomentOf r.table (moment_of r)
stands_moment r stands = record { at = stands.at }

pub kept_moment : (p : Packed) (r : RunState) (kept : Moment) → r.table ≡ p → OnRun r → kept ≡ moment_of r → IsMomentOf p kept
kept_moment p r kept table stands is = subst (λ (q : Packed). IsMomentOf q kept) table (subst (IsMomentOf r.table) (sym is) (stands_moment r stands))

-- one configuration at two times is a cycle
pub same_cycle : (p : Packed) (kept : Moment) (r : RunState) → IsMomentOf p kept → r.table ≡ p → OnRun r → kept.time < r.steps → kept.config ≡ r.config → Cycle (entry_of p) kept.time r.steps
same_cycle p kept r moment table stands order same = record {
  order = order;
  at = kept.config;
  begins = moment.at;
  ends = subst (λ (q : Packed). after (entry_of q) r.steps ≡ Some r.config) table stands.at ∙ ap Some (sym same);
}

-- and a cycle is one configuration at two times
pub cycle_same : (p : Packed) (kept : Moment) (r : RunState) → IsMomentOf p kept → r.table ≡ p → OnRun r → Cycle (entry_of p) kept.time r.steps → kept.config ≡ r.config
cycle_same p kept r moment table stands cycle =
    same_Some kept.config r.config (sym moment.at ∙ cycle.begins ∙ sym cycle.ends ∙ subst (λ (q : Packed). after (entry_of q) r.steps ≡ Some r.config) table stands.at)

pub cycle_at : (m : Machine) (i j i' j' : ℕ) → i ≡ i' → j ≡ j' → Cycle m i j → Cycle m i' j'
cycle_at m i j i' j' first second cycle = subst (λ (k : ℕ). Cycle m k j') first (subst (Cycle m i) second cycle)

-- so whether the configurations are the same decides it
pub decides_cycle : (p : Packed) (i j : ℕ) (kept : Moment) (r : RunState) (same : Bool) → IsMomentOf p kept → kept.time ≡ i → r.table ≡ p → OnRun r → r.steps ≡ j → i < j
    → (IsTrue same ↔ (kept.config ≡ r.config)) → IsTrue same ↔ Cycle (entry_of p) i j
decides_cycle p i j kept r same moment begin table stands end order is = (
  λ t. cycle_at _ _ _ i j begin end (same_cycle p kept r moment table stands (omega arith) (is.0 t)),
  λ c. is.1 (cycle_same p kept r moment table stands (cycle_at _ _ _ kept.time r.steps (sym begin) (sym end) c)),
)

-- a trail begins at the moment that is kept
pub follows_first : (side : Dir) (r : RunState) (kept : Moment) (head : ℤ) → OnRun r → kept ≡ moment_of r → head ≡ r.config.tape.head → Follows r.table (r.steps + 1) side kept head
follows_first side r kept head stands is here =
    let moment = stands_moment r stands in
    subst (λ (b : ℤ). Follows r.table (r.steps + 1) side kept b) (sym here)
    (subst (λ (s : Moment). Follows r.table (r.steps + 1) side s r.config.tape.head) (sym is)
    (record { moment = moment; farthest = farthest_first (entry_of r.table) side r.steps r.config moment.at }))

-- and follows the run to its next time
pub follows_more : (side : Dir) (r : RunState) (kept : Moment) (bound farther : ℤ) → OnRun r → Follows r.table r.steps side kept bound → IsFarther side bound r.config.tape.head farther
    → Follows r.table (r.steps + 1) side kept farther
follows_more side r kept bound farther stands follows is = record {
  moment = follows.moment;
  farthest = farthest_more (entry_of r.table) side kept.time r.steps bound farther r.config follows.farthest stands.at is;
}

-- What the test for a translated cycle looks at, and what it shows.

-- two configurations of a run, and the farthest head in between
pub record Compared (m : Machine) (side : Dir) (i j : ℕ) (begin end : Config) (bound shift : ℤ) : Type 0 where
  pub begins : after m i ≡ Some begin
  pub ends : after m j ≡ Some end
  pub farthest : Farthest m side i j bound
  pub shift_is : shift ≡ end.tape.head -ℤ begin.tape.head

-- the tests that they pass
pub record Passes (side : Dir) (begin end : Config) (bound shift : ℤ) : Type 0 where
  pub state : begin.state ≡ end.state
  pub onward : Beyond side (pos 0) shift
  pub cells : SameBeyond side bound shift begin.tape.ones end.tape.ones

pub passed_stands : (m : Machine) (side : Dir) (i j : ℕ) (begin end : Config) (bound shift : ℤ) → Compared m side i j begin end bound shift → Passes side begin end bound shift → Translated m i j side
passed_stands m side i j begin end bound shift c p =
    let f = c.farthest in
    let low = f.low in
    let high = f.high in
    let shift_is = c.shift_is in
    record {
      order = omega arith;
      begin = begin;
      end = end;
      begins = c.begins;
      ends = c.ends;
      state = p.state;
      shift = shift;
      shifted = omega (arith, ints);
      onward = p.onward;
      bound = bound;
      farthest = f;
      cells = p.cells;
    }

-- the bound of a translated cycle is the farthest head, and its shift is how far the head moved
pub stands_passed : (m : Machine) (side : Dir) (i j : ℕ) (begin end : Config) (bound shift : ℤ) → Compared m side i j begin end bound shift → Translated m i j side → Passes side begin end bound shift
stands_passed m side i j begin end bound shift c t =
    let same_begin : t.begin ≡ begin = same_Some t.begin begin (sym t.begins ∙ c.begins) in
    let same_end : t.end ≡ end = same_Some t.end end (sym t.ends ∙ c.ends) in
    let same_bound : t.bound ≡ bound = one_farthest m side i j t.bound bound t.farthest c.farthest in
    let begin_head : t.begin.tape.head ≡ begin.tape.head = ap (λ (d : Config). d.tape.head) same_begin in
    let end_head : t.end.tape.head ≡ end.tape.head = ap (λ (d : Config). d.tape.head) same_end in
    let shifted = t.shifted in
    let shift_is = c.shift_is in
    let same_shift : t.shift ≡ shift = omega (arith, ints) in
    record {
      state = ap (λ (d : Config). d.state) (sym same_begin) ∙ t.state ∙ ap (λ (d : Config). d.state) same_end;
      onward = subst (Beyond side (pos 0)) same_shift t.onward;
      cells =
          subst (λ (z : ℤ). SameBeyond side bound z begin.tape.ones end.tape.ones) same_shift (subst (λ (z : ℤ). SameBeyond side z t.shift begin.tape.ones end.tape.ones) same_bound
          (subst (λ (d : Config). SameBeyond side t.bound t.shift begin.tape.ones d.tape.ones) same_end
          (subst (λ (d : Config). SameBeyond side t.bound t.shift d.tape.ones t.end.tape.ones) same_begin t.cells)));
    }

-- what was kept of a run, and where a runner stands later
pub compared : (side : Dir) (kept : Moment) (r : RunState) (bound shift : ℤ) → OnRun r → IsMomentOf r.table kept → Farthest (entry_of r.table) side kept.time r.steps bound
    → shift ≡ r.config.tape.head -ℤ kept.config.tape.head → Compared (entry_of r.table) side kept.time r.steps kept.config r.config bound shift
compared side kept r bound shift stands begins farthest shift_is = record {
  begins = begins.at;
  ends = stands.at;
  farthest = farthest;
  shift_is = shift_is;
}

-- the last test decides, where the others are passed
pub test_passed : (m : Machine) (side : Dir) (i j : ℕ) (begin end : Config) (bound shift : ℤ) (r : Bool) → Compared m side i j begin end bound shift → begin.state ≡ end.state → Beyond side (pos 0) shift
    → (IsTrue r ↔ SameBeyond side bound shift begin.tape.ones end.tape.ones) → IsTrue r ↔ Translated m i j side
test_passed m side i j begin end bound shift r c state onward same = (
  λ t. passed_stands m side i j begin end bound shift c (record { state = state; onward = onward; cells = same.0 t }),
  λ s. same.1 (stands_passed m side i j begin end bound shift c s).cells,
)

-- a run without one of the two times has no translated cycle from the one to the other
pub not_begun : (m : Machine) (side : Dir) (i j : ℕ) → ((c : Config) → after m i ≡ Some c → ⊥) → IsTrue false ↔ Translated m i j side
not_begun m side i j none = (λ t. absurd (let one : false ≡ true = t in cc), λ s. absurd (none s.begin s.begins))

pub not_ended : (m : Machine) (side : Dir) (i j : ℕ) → ((c : Config) → after m j ≡ Some c → ⊥) → IsTrue false ↔ Translated m i j side
not_ended m side i j none = (λ t. absurd (let one : false ≡ true = t in cc), λ s. absurd (none s.end s.ends))
