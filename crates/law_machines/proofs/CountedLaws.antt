-- A machine for which counted automata stand never halts, as each step leads to what they hold.
use Rattle.std.proofs.Common.{◌≡◌, ℕ, zero, suc, ℤ, List, ◌∷◌, Option, Some, None, sym, ◌∙◌, ap, refl, arith, ◌+◌, pos, ◌≤ℤ◌, [], subst}
use Rattle.std.proofs.lemmas.Int.{ints}
use Rattle.std.proofs.lemmas.Option.{same_Some, none-some}
use Rattle.std.proofs.lemmas.Bool.Decides.{nat_tests}
use Rattle.machine_text.specs.declared.table.Sym.{Sym}
use Rattle.machine_text.specs.declared.table.Sym.TheVariants.{Zero}
use Rattle.machine_text.specs.declared.table.Dir.{Dir}
use Rattle.machine_text.specs.declared.table.Dir.TheVariants.{L, R}
use Rattle.law_turing.specs.Terms.{moved_head, Config, start, cell, opposite, Machine, symbol_read, carried_out, next, from, Takes, Beyond, behind, symbols_ahead, Never}
use Rattle.law_turing.proofs.Cycles.{start_blank}
use Rattle.law_machines.specs.declared.counted.Transition.{Transition}
use Rattle.law_machines.specs.Counted.{Delta, Reading, begun, further, further_by, read_on, reading, IsHalfRead, Point, Coset, IsMember, once, CountedSystem, HasCoset, delta, IsOf, Remains, Settled, None_remains, Negative, Members, LeadsOn, CountedStand, IsHeldBy}
use Rattle.machine_text.specs.declared.table.Entry.{Entry}
use Rattle.law_turing.proofs.RunLaws.{taken_takes, next_taken, invariant_law, never_by_invariant}
use Rattle.law_machines.specs.declared.counted.Count.{Count}
use Rattle.law_machines.specs.declared.counted.Local.{Local}

-- Readings, a symbol at a time, and of the half tapes of a configuration.

-- the transition by a blank cell far away
abbrev pub unmoved : Transition
unmoved = record { to = 0; count = None }

-- one symbol more
pub reading_more : (a : Delta) (w : List Sym) (s : Sym) (r : Reading) (t : Transition) →
    reading a w ≡ Some r → a r.state s ≡ Some t → reading a (s ∷ w) ≡ Some (further r t)
unfolding reading
reading_more a w s r t is has = ap (read_on a s) is ∙ ap (further_by r) has

-- one symbol less
pub reading_less : (a : Delta) (w : List Sym) (s : Sym) (r : Reading) → reading a (s ∷ w) ≡ Some r →
    (p : Reading) × (t : Transition) × (reading a w ≡ Some p) × (a p.state s ≡ Some t) × (further p t ≡ r)
unfolding reading
reading_less a w s r is = go (reading a w) refl
  where
    go : (o : Option Reading) → reading a w ≡ o →
        (p : Reading) × (t : Transition) × (reading a w ≡ Some p) × (a p.state s ≡ Some t) × (further p t ≡ r)
    go None none = absurd (none-some r (sym (ap (read_on a s) none) ∙ is))
    go (Some p) some = on (a p.state s) refl
      where
        on : (o : Option Transition) → a p.state s ≡ o →
            (p : Reading) × (t : Transition) × (reading a w ≡ Some p) × (a p.state s ≡ Some t) × (further p t ≡ r)
        on None none = absurd (none-some r (sym (ap (read_on a s) some ∙ ap (further_by p) none) ∙ is))
        on (Some t) has = (p, t, some, has, same_Some (further p t) r (sym (ap (read_on a s) some ∙ ap (further_by p) has) ∙ is))

beyond_here : (side : Dir) (x : ℤ) → Beyond side x x
beyond_here L x = omega (arith, ints)
beyond_here R x = omega (arith, ints)

beyond_more : (side : Dir) (x y : ℤ) → Beyond side (moved_head x side) y → Beyond side x y
beyond_more L x y beyond = omega (arith, ints)
beyond_more R x y beyond = omega (arith, ints)

beyond_far : (side : Dir) (x y : ℤ) (far : ℕ) → Beyond side (behind (opposite side) x far) y → Beyond side x y
beyond_far L x y far beyond = omega (arith, ints)
beyond_far R x y far beyond = omega (arith, ints)

beyond_next : (side : Dir) (x y : ℤ) (far : ℕ) → Beyond side (behind (opposite side) x (suc far)) y → Beyond side (behind (opposite side) (moved_head x side) far) y
beyond_next L x y far beyond = omega (arith, ints)
beyond_next R x y far beyond = omega (arith, ints)

beyond_back : (side : Dir) (x y : ℤ) (far : ℕ) → Beyond side (behind (opposite side) (moved_head x side) far) y → Beyond side (behind (opposite side) x (suc far)) y
beyond_back L x y far beyond = omega (arith, ints)
beyond_back R x y far beyond = omega (arith, ints)

beyond_none : (side : Dir) (x : ℤ) → Beyond side (behind (opposite side) x 0) x
beyond_none L x = omega (arith, ints)
beyond_none R x = omega (arith, ints)

beyond_one : (side : Dir) (x y : ℤ) → Beyond side (behind (opposite side) (moved_head x side) 0) y → Beyond side (behind (opposite side) x 0) y
beyond_one L x y beyond = omega (arith, ints)
beyond_one R x y beyond = omega (arith, ints)

-- the cells from a place on are all that is read
ahead_same : (side : Dir) (c d : Config) (x : ℤ) (far : ℕ) → ((y : ℤ) → Beyond side x y → cell c y ≡ cell d y) →
    symbols_ahead side c x far ≡ symbols_ahead side d x far
ahead_same side c d x zero same = refl
ahead_same side c d x (suc far) same =
    ap (λ s. s ∷ symbols_ahead side c (moved_head x side) far) (same x (beyond_here side x)) ∙
    ap (λ w. cell d x ∷ w) (ahead_same side c d (moved_head x side) far (λ y beyond. same y (beyond_more side x y beyond)))

pub read_same : (a : Delta) (side : Dir) (c d : Config) (x : ℤ) (r : Reading) → ((y : ℤ) → Beyond side x y → cell c y ≡ cell d y) →
    IsHalfRead a side c x r → IsHalfRead a side d x r
read_same a side c d x r same read = record {
  far = read.far;
  blank = λ y beyond. sym (same y (beyond_far side x y read.far beyond)) ∙ read.blank y beyond;
  is = ap (reading a) (sym (ahead_same side c d x read.far same)) ∙ read.is;
}

-- one cell more
pub read_more : (a : Delta) (side : Dir) (c : Config) (x : ℤ) (r : Reading) (t : Transition) →
    IsHalfRead a side c (moved_head x side) r → a r.state (cell c x) ≡ Some t → IsHalfRead a side c x (further r t)
read_more a side c x r t read has = record {
  far = suc read.far;
  blank = λ y beyond. read.blank y (beyond_next side x y read.far beyond);
  is = reading_more a (symbols_ahead side c (moved_head x side) read.far) (cell c x) r t read.is has;
}

-- one cell less
pub read_less : (a : Delta) (side : Dir) (c : Config) (x : ℤ) (r : Reading) → a 0 Zero ≡ Some unmoved → IsHalfRead a side c x r →
    (p : Reading) × (t : Transition) × IsHalfRead a side c (moved_head x side) p × (a p.state (cell c x) ≡ Some t) × (further p t ≡ r)
unfolding reading
read_less a side c x r blank read = go read.far read.blank read.is
  where
    go : (far : ℕ) → ((y : ℤ) → Beyond side (behind (opposite side) x far) y → cell c y ≡ Zero) → reading a (symbols_ahead side c x far) ≡ Some r →
        (p : Reading) × (t : Transition) × IsHalfRead a side c (moved_head x side) p × (a p.state (cell c x) ≡ Some t) × (further p t ≡ r)
    go zero zeros is = (
      begun,
      unmoved,
      record { far = 0; blank = λ y beyond. zeros y (beyond_one side x y beyond); is = refl },
      ap (a 0) (zeros x (beyond_none side x)) ∙ blank,
      same_Some begun r is,
    )
    go (suc far) zeros is =
        let (p, t, before, has, same) = reading_less a (symbols_ahead side c (moved_head x side) far) (cell c x) r is in
        (p, t, record { far = far; blank = λ y beyond. zeros y (beyond_back side x y far beyond); is = before }, has, same)

-- the blank tape
pub read_blank : (a : Delta) (side : Dir) (x : ℤ) → IsHalfRead a side start x begun
unfolding reading
read_blank a side x = record { far = 0; blank = λ y beyond. start_blank y; is = refl }

-- A machine for which counted automata stand never halts: each step leads from a held configuration to one.
once_other : (o : Option Count) (x : ℕ) → ((y : Count) → o ≡ Some y → y.number ≡ x → ⊥) → once o x ≡ 0
once_other None x other = refl
once_other (Some y) x other = let never : y.number ≡ x → ⊥ = other y refl in grind (arith, nat_tests)

-- a count of the other automaton is never taken
not_own : (a : Delta) (x : ℕ) → ((q : ℕ) (s : Sym) (t : Transition) (y : Count) → a q s ≡ Some t → t.count ≡ Some y → y.number ≡ x → ⊥) →
    (word : List Sym) (r : Reading) → reading a word ≡ Some r → r.times x ≡ 0
unfolding reading
not_own a x other [] r is = ap (λ (p : Reading). p.times x) (sym (same_Some begun r is))
not_own a x other (s ∷ word) r is =
    let (p, t, before, has, same) = reading_less a word s r is in
    let none : p.times x ≡ 0 = not_own a x other word p before in
    let not_now : once t.count x ≡ 0 = once_other t.count x (λ y. other p.state s t y has) in
    let sum : p.times x + once t.count x ≡ r.times x = ap (λ (p : Reading). p.times x) same in
    omega arith

-- what is left and nowhere negative is a member of the next coset
settled : (left : Point → Type 0) (next : Coset → Type 0) (v : Point) → Settled left next → left v → ((x : ℕ) → pos 0 ≤ℤ v x) →
    (k : Coset) × next k × IsMember k v
settled left next v (None_remains none) is positive = absurd (none v is)
settled left next v (Negative x n below same) is positive =
    let at : v x ≡ n = same v is in
    let above : pos 0 ≤ℤ v x = positive x in
    absurd (omega (arith, ints))
settled left next v (Members k there each) is positive = (k, there, each v is)

-- there and back
returned : (side : Dir) (h : ℤ) → moved_head (moved_head h side) (opposite side) ≡ h
returned L h = omega (arith, ints)
returned R h = omega (arith, ints)

-- what is beyond the head on a side isn't the head
not_head : (side : Dir) (h y : ℤ) → Beyond side (moved_head h side) y → y ≡ h → ⊥
not_head L h y beyond same = omega (arith, ints)
not_head R h y beyond same = omega (arith, ints)

-- nor is what is further beyond
not_head_far : (side : Dir) (h y : ℤ) → Beyond side (moved_head (moved_head h side) side) y → y ≡ h → ⊥
not_head_far L h y beyond same = omega (arith, ints)
not_head_far R h y beyond same = omega (arith, ints)

module _ (m : Machine) (c d : Config) (e : Entry) (t : Takes m c e d) (side : Dir) (to_side : e.dir ≡ side) where
  head : d.tape.head ≡ moved_head c.tape.head side
  head = t.head ∙ ap (moved_head c.tape.head) to_side

  -- the half tape that was left behind: the written symbol is read
  behind_read : (a : Delta) (r : Reading) (u : Transition) → IsHalfRead a (opposite side) c (moved_head c.tape.head (opposite side)) r →
      a r.state e.write ≡ Some u → IsHalfRead a (opposite side) d (moved_head d.tape.head (opposite side)) (further r u)
  behind_read a r u read has =
      let same : IsHalfRead a (opposite side) d (moved_head c.tape.head (opposite side)) r =
      read_same a (opposite side) c d (moved_head c.tape.head (opposite side)) r (λ y beyond. sym (t.others y (not_head (opposite side) c.tape.head y beyond))) read in
      let more : IsHalfRead a (opposite side) d c.tape.head (further r u) =
      read_more a (opposite side) d c.tape.head r u same (ap (a r.state) t.here ∙ has) in
      subst (λ x. IsHalfRead a (opposite side) d x (further r u)) (sym (ap (λ x. moved_head x (opposite side)) head ∙ returned side c.tape.head)) more

  -- the half tape ahead: the symbol that is under the head now had been read
  ahead_read : (a : Delta) (r : Reading) → a 0 Zero ≡ Some (record { to = 0; count = None }) → IsHalfRead a side c (moved_head c.tape.head side) r →
      (p : Reading) × (u : Transition) × IsHalfRead a side d (moved_head d.tape.head side) p × (a p.state (symbol_read d.tape) ≡ Some u) × (further p u ≡ r)
  ahead_read a r blank read =
      let (p, u, before, has, same) = read_less a side c (moved_head c.tape.head side) r blank read in
      let here : symbol_read d.tape ≡ cell c (moved_head c.tape.head side) =
      ap (cell d) head ∙ t.others (moved_head c.tape.head side) (not_head side c.tape.head (moved_head c.tape.head side) (at side c.tape.head)) in (
        p,
        u,
        subst (λ x. IsHalfRead a side d (moved_head x side) p) (sym head)
            (read_same a side c d (moved_head (moved_head c.tape.head side) side) p (λ y beyond. sym (t.others y (not_head_far side c.tape.head y beyond))) before),
        ap (a p.state) here ∙ has,
        same,
      )
    where
      at : (side : Dir) (h : ℤ) → Beyond side (moved_head h side) (moved_head h side)
      at L h = omega (arith, ints)
      at R h = omega (arith, ints)

-- the counts of two readings
counts : Reading → Reading → Point
counts l r = λ x. pos (l.times x + r.times x)

module _ (m : Machine) (w : CountedSystem) (stands : CountedStand m w) where
  -- what a half tape is read to has no count of the other side
  not_taken : (side : Dir) (x : ℕ) → (IsOf w side x → ⊥) → (c : Config) (y : ℤ) (r : Reading) → IsHalfRead (delta w side) side c y r → r.times x ≡ 0
  not_taken side x other c y r read =
      not_own (delta w side) x (λ q s t y has count same. other (subst (IsOf w side) same (stands.own side q s t y has count))) (symbols_ahead side c y read.far) r read.is

  -- a step to the right
  held_right : (c d : Config) (e : Entry) → Takes m c e d → e.dir ≡ R → IsHeldBy w c → IsHeldBy w d
  unfolding counts
  held_right c d e t is_right held =
      let here : Local = record { left = held.left.state; state = record { 0 = c.state }; read = symbol_read c.tape; right = held.right.state } in
      let step : LeadsOn w here held.coset e.write e.next R =
      subst (LeadsOn w here held.coset e.write e.next) is_right (stands.steps here held.coset e held.there t.is) in
      let (p, u, read, has, same) = ahead_read m c d e t R is_right w.right held.right (stands.blank R) held.right_read in
      let l : Reading = further held.left step.by in
      let left : Remains w held.coset R step.by u p.state (counts l p) = record {
        old = counts held.left held.right;
        member = held.member;
        is = λ x.
            let sum : p.times x + once u.count x ≡ held.right.times x = ap (λ (r : Reading). r.times x) same in
            omega (arith, ints);
        unused = λ x own none.
            let right_none : p.times x ≡ 0 = none.each (symbols_ahead R d (moved_head d.tape.head R) read.far) p read.is refl in
            let left_none : l.times x ≡ 0 = not_taken L x (λ low. omega arith) d (moved_head d.tape.head L) l (behind_read m c d e t R is_right w.left held.left step.by held.left_read step.is) in
            ap pos (omega arith);
      } in
      let (k, there, member) = settled (Remains w held.coset R step.by u p.state)
      (HasCoset w (record { left = step.by.to; state = e.next; read = symbol_read d.tape; right = p.state })) (counts l p)
      (step.settles p.state (symbol_read d.tape) u has (ap (λ (r : Reading). r.state) same)) left (λ x. omega (arith, ints)) in
      record {
        left = l;
        right = p;
        left_read = behind_read m c d e t R is_right w.left held.left step.by held.left_read step.is;
        right_read = read;
        coset = k;
        there = subst (λ s. HasCoset w (record { left = step.by.to; state = record { 0 = s }; read = symbol_read d.tape; right = p.state }) k) (sym t.state) there;
        member = member;
      }

  -- a step to the left
  held_left : (c d : Config) (e : Entry) → Takes m c e d → e.dir ≡ L → IsHeldBy w c → IsHeldBy w d
  unfolding counts
  held_left c d e t is_left held =
      let here : Local = record { left = held.left.state; state = record { 0 = c.state }; read = symbol_read c.tape; right = held.right.state } in
      let step : LeadsOn w here held.coset e.write e.next L =
      subst (LeadsOn w here held.coset e.write e.next) is_left (stands.steps here held.coset e held.there t.is) in
      let (p, u, read, has, same) = ahead_read m c d e t L is_left w.left held.left (stands.blank L) held.left_read in
      let r : Reading = further held.right step.by in
      let right_read : IsHalfRead w.right R d (moved_head d.tape.head R) r = behind_read m c d e t L is_left w.right held.right step.by held.right_read step.is in
      let left : Remains w held.coset L step.by u p.state (counts p r) = record {
        old = counts held.left held.right;
        member = held.member;
        is = λ x.
            let sum : p.times x + once u.count x ≡ held.left.times x = ap (λ (r : Reading). r.times x) same in
            omega (arith, ints);
        unused = λ x own none.
            let left_none : p.times x ≡ 0 = none.each (symbols_ahead L d (moved_head d.tape.head L) read.far) p read.is refl in
            let right_none : r.times x ≡ 0 = not_taken R x (λ high. omega arith) d (moved_head d.tape.head R) r right_read in
            ap pos (omega arith);
      } in
      let (k, there, member) = settled (Remains w held.coset L step.by u p.state)
      (HasCoset w (record { left = p.state; state = e.next; read = symbol_read d.tape; right = step.by.to })) (counts p r)
      (step.settles p.state (symbol_read d.tape) u has (ap (λ (r : Reading). r.state) same)) left (λ x. omega (arith, ints)) in
      record {
        left = p;
        right = r;
        left_read = read;
        right_read = right_read;
        coset = k;
        there = subst (λ s. HasCoset w (record { left = p.state; state = record { 0 = s }; read = symbol_read d.tape; right = step.by.to }) k) (sym t.state) there;
        member = member;
      }

  -- each held configuration has a next one, which is held
  goes_on : (c : Config) → IsHeldBy w c → (d : Config) × (next m c ≡ Some d) × IsHeldBy w d
  goes_on c held = go (m c.state (symbol_read c.tape)) refl
    where
      here : Local
      here = record { left = held.left.state; state = record { 0 = c.state }; read = symbol_read c.tape; right = held.right.state }

      to_side : (e : Entry) → Takes m c e (carried_out c e) → (f : Dir) → e.dir ≡ f → IsHeldBy w (carried_out c e)
      to_side e t L is_left = held_left c (carried_out c e) e t is_left held
      to_side e t R is_right = held_right c (carried_out c e) e t is_right held

      go : (o : Option Entry) → m c.state (symbol_read c.tape) ≡ o → (d : Config) × (next m c ≡ Some d) × IsHeldBy w d
      go None none = absurd (stands.goes_on here held.coset held.there none)
      go (Some e) some = (carried_out c e, next_taken m c e some, to_side e (taken_takes m c e some) e.dir refl)

  -- the blank tape is held
  start_held : IsHeldBy w start
  start_held = record {
    left = begun;
    right = begun;
    left_read = read_blank w.left L (moved_head start.tape.head L);
    right_read = read_blank w.right R (moved_head start.tape.head R);
    coset = stands.start.0;
    there = subst (λ s. HasCoset w (record { left = 0; state = record { 0 = 0 }; read = s; right = 0 }) stands.start.0) (sym (start_blank (pos 0))) stands.start.1;
    member = stands.start.2;
  }

  -- a run from a held configuration goes on for ever, and each configuration of it is held
  pub stays_held : (c : Config) → IsHeldBy w c → (k : ℕ) → (d : Config) × (from m k c ≡ Some d) × IsHeldBy w d
  stays_held = invariant_law m (IsHeldBy w) goes_on

  -- a machine for which counted automata stand never halts
  pub counted_never : Never m
  counted_never = never_by_invariant m (IsHeldBy w) goes_on start_held
