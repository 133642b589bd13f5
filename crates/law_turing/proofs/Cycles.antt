-- Machines with a cycle or a translated cycle never halt, so Radó's number of one state is 1.
use Rattle.std.proofs.Common.{◌≡◌, ℕ, ◌+◌, ◌-◌, ◌<◌, Some, sym, ◌∙◌, ap, arith, zero, suc, ℤ, pos, ◌+ℤ◌, ◌-ℤ◌, ◌≤ℤ◌, inl, inr, subst, refl, ◌≤◌, cond, Option, None}
use Rattle.std.proofs.lemmas.Option.{none-some, same_Some}
use Rattle.std.proofs.lemmas.Bool.{cases_lt}
use Rattle.std.proofs.lemmas.Int.{ints}
use Rattle.std.specs.Ordering.{int_cmp}
use Rattle.std.specs.FinSet as set
use Rattle.law_turing.specs.Run.{Machine, start, from, after, IsMachine, moved_head, Config, symbol_read, cell, carried_out, next, Takes, done_by}
use Rattle.law_turing.specs.Halting.{Never, HaltsAt, IsRado}
use Rattle.law_turing.specs.NeverHalting.{Cycle, Beyond, Farthest, Translated}
use Rattle.law_turing.proofs.RunLaws.{from_add, ended, not_past, takes, from_zero, next_is, before, by_place, taken_takes, next_taken, never_where_always, one_count}
use Rattle.machine_text.specs.declared.table.Dir.{Dir}
use Rattle.machine_text.specs.declared.table.Dir.TheVariants.{L, R}
use Rattle.law_turing.proofs.Renaming.{shift_moved, shift_apart}
use Rattle.machine_text.specs.declared.table.Sym.TheVariants.{Zero, One}
use Rattle.machine_text.specs.declared.table.Entry.{Entry}

-- A machine whose run comes to one configuration twice never halts.

-- if it halted after j, the part from i on would take as long as the part from j on
pub cycle_never : (m : Machine) (i j : ℕ) → Cycle m i j → Never m
cycle_never m i j cycle k s =
    let order = cycle.order in
    let later : j < k = not_past m j k cycle.at cycle.ends s in
    let count = s.count in
    let rest : ℕ = s.last - j in
    let from_j : after m (j + rest) ≡ from m rest cycle.at = from_add m j rest start cycle.at cycle.ends in
    let from_i : after m (i + rest) ≡ from m rest cycle.at = from_add m i rest start cycle.at cycle.begins in
    let same_time : j + rest ≡ s.last = omega arith in
    let earlier : after m (i + rest) ≡ Some s.at = from_i ∙ sym from_j ∙ ap (after m) same_time ∙ s.is in
    none-some s.at (sym (ended m (i + rest) s.last start s.at earlier s.over (omega arith)) ∙ s.is)

-- Where the head can be, and the farthest head of some times.

-- a move is by one
moved_little : (x y : ℤ) (d : Dir) → y ≡ moved_head x d → ((x -ℤ pos 1) ≤ℤ y) × (y ≤ℤ (x +ℤ pos 1))
moved_little x y L e = (omega (arith, ints), omega (arith, ints))
moved_little x y R e = (omega (arith, ints), omega (arith, ints))

-- after k steps the head is at most k places off
pub head_reach : (m : Machine) (k : ℕ) (c d : Config) → from m k c ≡ Some d →
    ((c.tape.head -ℤ pos k) ≤ℤ d.tape.head) × (d.tape.head ≤ℤ (c.tape.head +ℤ pos k))
head_reach m zero c d is =
    let same : c.tape.head ≡ d.tape.head = ap (λ (x : Config). x.tape.head) (same_Some c d (sym (from_zero m c) ∙ is)) in
    (omega (arith, ints), omega (arith, ints))
head_reach m (suc k) c d is =
    let (b, at) = before m k (suc k) c d (omega arith) is in
    let (low, high) = head_reach m k c b at in
    let (e, t) = takes m b d (sym (next_is m k c b at) ∙ is) in
    let (left, right) = moved_little b.tape.head d.tape.head e.dir t.head in
    (omega (arith, ints), omega (arith, ints))

-- a machine's run from one of its states stays among them
pub states_within : (n : ℕ) (m : Machine) → IsMachine n m → (k : ℕ) (c d : Config) → c.state < n → from m k c ≡ Some d → d.state < n
states_within n m machine zero c d within is = subst (λ (x : Config). x.state < n) (same_Some c d (sym (from_zero m c) ∙ is)) within
states_within n m machine (suc k) c d within is =
    let (b, at) = before m k (suc k) c d (omega arith) is in
    let (e, t) = takes m b d (sym (next_is m k c b at) ∙ is) in
    subst (λ q. q < n) (sym t.state) (machine.inside _ _ e t.is)

-- each place is beyond itself
pub beyond_itself : (side : Dir) (x : ℤ) → Beyond side x x
beyond_itself L x = omega (arith, ints)
beyond_itself R x = omega (arith, ints)

pub beyond_beyond : (side : Dir) (a b x : ℤ) → Beyond side a b → Beyond side b x → Beyond side a x
beyond_beyond L a b x low high = omega (arith, ints)
beyond_beyond R a b x low high = omega (arith, ints)

-- of one time the farthest head is the head
pub farthest_first : (m : Machine) (side : Dir) (i : ℕ) (c : Config) → after m i ≡ Some c → Farthest m side i (i + 1) c.tape.head
farthest_first m side i c is = record {
  bound = λ k d low high at.
      let now : i ≡ k = omega arith in
      subst (λ (x : Config). Beyond side c.tape.head x.tape.head) (same_Some c d (sym is ∙ ap (after m) now ∙ at)) (beyond_itself side c.tape.head);
  time = i;
  low = omega arith;
  high = omega arith;
  there = c;
  is = is;
  reached = refl;
}

-- one time more, whose head is beyond the bound
pub farthest_same : (m : Machine) (side : Dir) (i j : ℕ) (b : ℤ) (c : Config) → Farthest m side i j b → after m j ≡ Some c →
    Beyond side b c.tape.head → Farthest m side i (j + 1) b
farthest_same m side i j b c f is beyond =
    let high = f.high in
    record {
      bound = λ k d low below at. elim (cases_lt k j) [
        | inl old ↦ f.bound k d low old at
        | inr new ↦
            let now : j ≡ k = omega arith in
            subst (λ (x : Config). Beyond side b x.tape.head) (same_Some c d (sym is ∙ ap (after m) now ∙ at)) beyond
      ];
      time = f.time;
      low = f.low;
      high = omega arith;
      there = f.there;
      is = f.is;
      reached = f.reached;
    }

-- one time more, whose head is farther than the bound
pub farthest_new : (m : Machine) (side : Dir) (i j : ℕ) (b : ℤ) (c : Config) → Farthest m side i j b → after m j ≡ Some c →
    Beyond side c.tape.head b → Farthest m side i (j + 1) c.tape.head
farthest_new m side i j b c f is farther =
    let low = f.low in
    let high = f.high in
    record {
      bound = λ k d low below at. elim (cases_lt k j) [
        | inl old ↦ beyond_beyond side c.tape.head b d.tape.head farther (f.bound k d low old at)
        | inr new ↦
            let now : j ≡ k = omega arith in
            subst (λ (x : Config). Beyond side c.tape.head x.tape.head) (same_Some c d (sym is ∙ ap (after m) now ∙ at)) (beyond_itself side c.tape.head)
      ];
      time = j;
      low = omega arith;
      high = omega arith;
      there = c;
      is = is;
      reached = refl;
    }

between : (side : Dir) (a b : ℤ) → Beyond side a b → Beyond side b a → a ≡ b
between L a b low high = omega (arith, ints)
between R a b low high = omega (arith, ints)

-- there is one farthest head
pub one_farthest : (m : Machine) (side : Dir) (i j : ℕ) (a b : ℤ) → Farthest m side i j a → Farthest m side i j b → a ≡ b
one_farthest m side i j a b f g =
    between side a b (subst (Beyond side a) g.reached (f.bound g.time g.there g.low g.high g.is))
    (subst (Beyond side b) f.reached (g.bound f.time f.there f.low f.high f.is))

-- A machine with a translated cycle never halts.

-- a move onward keeps what is beyond the bound there
pub beyond_moved : (side : Dir) (b x t : ℤ) → Beyond side b x → Beyond side (pos 0) t → Beyond side b (x +ℤ t)
beyond_moved R b x t beyond onward = omega (arith, ints)
beyond_moved L b x t beyond onward = omega (arith, ints)

-- d is c moved by t, but for the cells before the bound
record Shadow (side : Dir) (b t : ℤ) (c d : Config) : Type 0 where
  state : d.state ≡ c.state
  head : d.tape.head ≡ c.tape.head +ℤ t
  cells : (x : ℤ) → Beyond side b x → cell d (x +ℤ t) ≡ cell c x

-- steps from the two, with the head of the first beyond the bound, are by one entry and keep this
shadow_steps : (m : Machine) (side : Dir) (b t : ℤ) (c d c' : Config) → Shadow side b t c d → Beyond side b c.tape.head → next m c ≡ Some c' →
    (d' : Config) × (next m d ≡ Some d') × Shadow side b t c' d'
shadow_steps m side b t c d c' shadow beyond is =
    let (e, s) = takes m c c' is in
    let read : symbol_read d.tape ≡ symbol_read c.tape = ap (cell d) shadow.head ∙ shadow.cells c.tape.head beyond in
    let entry : m d.state (symbol_read d.tape) ≡ Some e = ap (λ q. m q (symbol_read d.tape)) shadow.state ∙ ap (m c.state) read ∙ s.is in
    let d' : Config = carried_out d e in
    let r : Takes m d e d' = taken_takes m d e entry in (
      d',
      next_taken m d e entry,
      record {
        state = r.state ∙ sym s.state;
        head = r.head ∙ ap (λ x. moved_head x e.dir) shadow.head ∙ shift_moved t c.tape.head e.dir ∙ ap (λ x. x +ℤ t) (sym s.head);
        cells = λ x on. by_place x c.tape.head
            (λ here. ap (λ y. cell d' (y +ℤ t)) here ∙ ap (cell d') (sym shadow.head) ∙ r.here ∙ sym s.here ∙ ap (cell c') (sym here))
            (λ other. r.others (x +ℤ t) (λ same. other (shift_apart t x c.tape.head (same ∙ shadow.head))) ∙ shadow.cells x on ∙ sym (s.others x other));
      },
    )

-- what holds at each time n from i on: a period p later the run is there too, moved by t; and up to then the
-- head was never before the bound
record Held (m : Machine) (side : Dir) (b t : ℤ) (i p n : ℕ) : Type 0 where
  here : Config
  there : Config
  at_here : after m n ≡ Some here
  at_there : after m (n + p) ≡ Some there
  shadow : Shadow side b t here there
  bound : (k : ℕ) (c : Config) → i ≤ k → k < n + p → after m k ≡ Some c → Beyond side b c.tape.head

-- a time more
held_next : (m : Machine) (side : Dir) (b t : ℤ) (i p n : ℕ) → 0 < p → i ≤ n → Beyond side (pos 0) t → Held m side b t i p n → Held m side b t i p (suc n)
held_next m side b t i p n some from_i onward held =
    let beyond : Beyond side b held.here.tape.head = held.bound n held.here from_i (omega arith) held.at_here in
    let (here', at') = before m (suc n) (n + p) start held.there (omega arith) held.at_there in
    let steps : next m held.here ≡ Some here' = sym (next_is m n start held.here held.at_here) ∙ at' in
    let (there', goes, shadow) = shadow_steps m side b t held.here held.there here' held.shadow beyond steps in
    let same_time : suc n + p ≡ suc (n + p) = omega arith in
    record {
      here = here';
      there = there';
      at_here = at';
      at_there = ap (after m) same_time ∙ next_is m (n + p) start held.there held.at_there ∙ goes;
      shadow = shadow;
      bound = λ k c after_i below is. elim (cases_lt k (n + p)) [
        | inl old ↦ held.bound k c after_i old is
        | inr new ↦
            let now : k ≡ n + p = omega arith in
            let same : held.there ≡ c = same_Some held.there c (sym held.at_there ∙ ap (after m) (sym now) ∙ is) in
            subst (λ x. Beyond side b x) (sym held.shadow.head ∙ ap (λ (x : Config). x.tape.head) same) (beyond_moved side b held.here.tape.head t beyond onward)
      ];
    }

-- so many times more
held_on : (m : Machine) (side : Dir) (b t : ℤ) (i p : ℕ) → 0 < p → Beyond side (pos 0) t → Held m side b t i p i → (r : ℕ) → Held m side b t i p (i + r)
held_on m side b t i p some onward held zero = subst (Held m side b t i p) (let e : i ≡ i + 0 = omega arith in e) held
held_on m side b t i p some onward held (suc r) =
    subst (Held m side b t i p) (let e : suc (i + r) ≡ i + suc r = omega arith in e) (held_next m side b t i p (i + r) some (omega arith) onward (held_on m side b t i p some onward held r))

-- a machine with a translated cycle never halts
pub translated_never : (m : Machine) (i j : ℕ) (side : Dir) → Translated m i j side → Never m
translated_never m i j side cycle = never_where_always m there
  where
    order : i < j
    order = cycle.order

    same_time : i + (j - i) ≡ j
    same_time = omega arith

    first : Held m side cycle.bound cycle.shift i (j - i) i
    first = record {
      here = cycle.begin;
      there = cycle.end;
      at_here = cycle.begins;
      at_there = ap (after m) same_time ∙ cycle.ends;
      shadow = record { state = sym cycle.state; head = cycle.shifted; cells = λ x on. sym (cycle.cells x on) };
      bound = λ k c after_i below is. cycle.farthest.bound k c after_i (omega arith) is;
    }

    there : (k : ℕ) → (c : Config) × (after m k ≡ Some c)
    there k =
        let held = held_on m side cycle.bound cycle.shift i (j - i) (omega arith) cycle.onward first k in
        before m k (i + k) start held.here (omega arith) held.at_here

-- Radó's number of one state is 1: a one-state machine halts at once, or moves one way for ever.

-- every cell of the start is blank
pub start_blank : (x : ℤ) → cell start x ≡ Zero
start_blank x = ap (λ b. cond b One Zero) (set.contains-empty int_cmp x)

-- a machine without an entry at its first pair halts at once
abbrev stops_at_once : (m : Machine) → m 0 Zero ≡ None → HaltsAt m 1
stops_at_once m none = record {
  last = 0;
  at = start;
  is = from_zero m start;
  over = ap (done_by start) (ap (m 0) (start_blank (pos 0)) ∙ none);
  count = refl;
}

-- one move onward
one_onward : (side : Dir) → Beyond side (pos 0) (moved_head (pos 0) side)
one_onward L = omega (arith, ints)
one_onward R = omega (arith, ints)

-- what is beyond the start doesn't come back to it by one move onward
not_back : (side : Dir) (x : ℤ) → Beyond side (pos 0) x → x +ℤ moved_head (pos 0) side ≡ pos 0 → ⊥
not_back L x on back = omega (arith, ints)
not_back R x on back = omega (arith, ints)

from_nothing : (x : ℤ) → x ≡ pos 0 +ℤ x
from_nothing x = omega (arith, ints)

-- with an entry to the start's own state the run is a translated cycle from the first step on
onward_for_ever : (m : Machine) (e : Entry) → m 0 Zero ≡ Some e → e.next.0 ≡ 0 → Translated m 0 1 e.dir
onward_for_ever m e is home =
    let entry : m start.state (symbol_read start.tape) ≡ Some e = ap (m 0) (start_blank (pos 0)) ∙ is in
    let t : Takes m start e (carried_out start e) = taken_takes m start e entry in
    record {
      order = omega arith;
      begin = start;
      end = carried_out start e;
      begins = from_zero m start;
      ends = next_is m 0 start start (from_zero m start) ∙ next_taken m start e entry;
      state = sym home;
      shift = moved_head (pos 0) e.dir;
      shifted = from_nothing (moved_head (pos 0) e.dir);
      onward = one_onward e.dir;
      bound = pos 0;
      farthest = record {
        bound = λ k c low high at.
            let first : k ≡ 0 = omega arith in
            let same : start ≡ c = same_Some start c (sym (from_zero m start) ∙ ap (after m) (sym first) ∙ at) in
            subst (λ (d : Config). Beyond e.dir (pos 0) d.tape.head) same (beyond_itself e.dir (pos 0));
        time = 0;
        low = omega arith;
        high = omega arith;
        there = start;
        is = from_zero m start;
        reached = refl;
      };
      cells = λ x on. start_blank x ∙ sym (t.others (x +ℤ moved_head (pos 0) e.dir) (not_back e.dir x on) ∙ start_blank (x +ℤ moved_head (pos 0) e.dir));
    }

-- a one-state machine halts in 1, if at all
one_step : (m : Machine) (k : ℕ) → IsMachine 1 m → HaltsAt m k → k ≤ 1
one_step m k machine s = go (m 0 Zero) refl
  where
    go : (o : Option Entry) → m 0 Zero ≡ o → k ≤ 1
    go None none = let e : k ≡ 1 = one_count m k 1 s (stops_at_once m none) in omega arith
    go (Some e) some =
        let home : e.next.0 ≡ 0 = let h = machine.inside 0 Zero e some in omega arith in
        absurd (translated_never m 0 1 e.dir (onward_for_ever m e some home) k s)

pub rado_of_one : IsRado 1 1
rado_of_one = record {
  champion = λ q s. None;
  is_machine = record { some = omega arith; beyond = λ q s past. refl; inside = λ q s e some. absurd (cc) };
  halts = stops_at_once (λ q s. None) refl;
  greatest = one_step;
}
