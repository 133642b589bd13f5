-- The steps of zippers are rules, rules follow one another, and repeated words are carried over the head.
use Rattle.std.proofs.Common.{◌≡◌, ℕ, zero, suc, ℤ, pos, ◌+ℤ◌, ◌-ℤ◌, List, [], ◌∷◌, Option, Some, None, sym, ◌∙◌, ap, subst, refl, arith, ◌+◌, ◌≤◌, ◌++◌}
use Rattle.std.proofs.lemmas.Int.{ints}
use Rattle.std.proofs.lemmas.Option.{same_Some, none-some}
use Rattle.machine_text.specs.declared.table.Sym.{Sym}
use Rattle.machine_text.specs.declared.table.Dir.{Dir}
use Rattle.machine_text.specs.declared.table.Dir.TheVariants.{L, R}
use Rattle.machine_text.specs.declared.table.Entry.{Entry}
use Rattle.law_turing.specs.Terms.{Machine, symbol_read, moved_head, Config, start, cell, carried_out, done_by, next, next_from, from, Takes, after, Never}
use Rattle.law_turing.proofs.RunLaws.{taken_takes, next_taken, from_zero, from_suc, next_is, from_add, before, never_where_always}
use Rattle.law_turing.proofs.Cycles.{start_blank}
use Rattle.law_machines.specs.Zipper.{Zipper, AtLeft, AtRight, blank_zipper, first, rest, symbol_at, Describes, moved_from, stepped, step, step_on, steps, Comes, Goes, repeat, SameCells}
use Rattle.machine_text.specs.declared.table.Sym.TheVariants.{Zero}

-- A step of a zipper is a step of each configuration that it is, and where it has none, the configuration has none.
first_at : (l : List Sym) → symbol_at l 0 ≡ first l
first_at [] = refl
first_at (s ∷ l) = refl

rest_at : (l : List Sym) (k : ℕ) → symbol_at l (suc k) ≡ symbol_at (rest l) k
rest_at [] k = refl
rest_at (s ∷ l) k = refl

at_edge : (c : Config) (x : ℤ) → cell c x ≡ cell c (x +ℤ pos 0)
at_edge c x = ap (cell c) (let p : x ≡ x +ℤ pos 0 = omega (arith, ints) in p)

no_entry : (l r : List Sym) (o : Option Entry) → stepped l r o ≡ None → o ≡ None
no_entry l r None over = refl
no_entry l r (Some e) over = absurd (none-some (moved_from e.dir l e.next.0 e.write r) (sym over))

-- where a symbol was written between two half tapes, at the place x
module _ (m : Machine) (c d : Config) (e : Entry) (t : Takes m c e d) (l r : List Sym) (x : ℤ) (here : c.tape.head ≡ x)
    (left : (k : ℕ) → cell c (x -ℤ pos (suc k)) ≡ symbol_at l k) (right : (k : ℕ) → cell c (x +ℤ pos (suc k)) ≡ symbol_at r k) where
  at_left : (k : ℕ) → cell d (x -ℤ pos (suc k)) ≡ symbol_at l k
  at_left k =
      let apart : x -ℤ pos (suc k) ≡ c.tape.head → ⊥ = omega (arith, ints) in
      t.others (x -ℤ pos (suc k)) apart ∙ left k

  at_right : (k : ℕ) → cell d (x +ℤ pos (suc k)) ≡ symbol_at r k
  at_right k =
      let apart : x +ℤ pos (suc k) ≡ c.tape.head → ⊥ = omega (arith, ints) in
      t.others (x +ℤ pos (suc k)) apart ∙ right k

  at_place : cell d x ≡ e.write
  at_place = ap (cell d) (sym here) ∙ t.here

  -- the head turned back
  turned_right : (k : ℕ) → cell d (x +ℤ pos k) ≡ symbol_at (e.write ∷ r) k
  turned_right zero = ap (cell d) (let p : x +ℤ pos 0 ≡ x = omega (arith, ints) in p) ∙ at_place
  turned_right (suc k) = at_right k

  -- the head moved over it
  over_left : (k : ℕ) → cell d ((x +ℤ pos 1) -ℤ pos (suc k)) ≡ symbol_at (e.write ∷ l) k
  over_left zero = ap (cell d) (let p : (x +ℤ pos 1) -ℤ pos 1 ≡ x = omega (arith, ints) in p) ∙ at_place
  over_left (suc k) = ap (cell d) (let p : (x +ℤ pos 1) -ℤ pos (suc (suc k)) ≡ x -ℤ pos (suc k) = omega (arith, ints) in p) ∙ at_left k

  over_right : (k : ℕ) → cell d ((x +ℤ pos 1) +ℤ pos k) ≡ symbol_at r k
  over_right k = ap (cell d) (let p : (x +ℤ pos 1) +ℤ pos k ≡ x +ℤ pos (suc k) = omega (arith, ints) in p) ∙ at_right k

  describes_moved : (dir : Dir) → e.dir ≡ dir → Describes (moved_from dir l e.next.0 e.write r) d
  describes_moved L is = record {
    edge = x;
    head = t.head ∙ ap (moved_head c.tape.head) is ∙ ap (λ y. y -ℤ pos 1) here;
    state = t.state;
    left = at_left;
    right = turned_right;
  }
  describes_moved R is = record {
    edge = x +ℤ pos 1;
    head = t.head ∙ ap (moved_head c.tape.head) is ∙ ap (λ y. y +ℤ pos 1) here;
    state = t.state;
    left = over_left;
    right = over_right;
  }

-- the entry of a pair, where the head is between two half tapes
module _ (m : Machine) (c : Config) (l r : List Sym) (q : ℕ) (s : Sym) (x : ℤ) (here : c.tape.head ≡ x) (state : c.state ≡ q) (reads : cell c x ≡ s) where
  pair : m c.state (symbol_read c.tape) ≡ m q s
  pair = ap (λ p. m p (symbol_read c.tape)) state ∙ ap (m q) (ap (cell c) here ∙ reads)

  -- carried out
  describes_stepped : ((k : ℕ) → cell c (x -ℤ pos (suc k)) ≡ symbol_at l k) → ((k : ℕ) → cell c (x +ℤ pos (suc k)) ≡ symbol_at r k) →
      (w : Zipper) → stepped l r (m q s) ≡ Some w → (d : Config) × (next m c ≡ Some d) × Describes w d
  describes_stepped left right w is = go (m q s) refl is
    where
      go : (o : Option Entry) → m q s ≡ o → stepped l r o ≡ Some w → (d : Config) × (next m c ≡ Some d) × Describes w d
      go None none so = absurd (none-some w so)
      go (Some e) some so =
          let takes = taken_takes m c e (pair ∙ some) in (
            carried_out c e,
            next_taken m c e (pair ∙ some),
            subst (λ z. Describes z (carried_out c e)) (same_Some (moved_from e.dir l e.next.0 e.write r) w so)
                (describes_moved m c (carried_out c e) e takes l r x here left right e.dir refl),
          )

  -- or none
  halts_stepped : stepped l r (m q s) ≡ None → next m c ≡ None
  halts_stepped over = ap (done_by c) (pair ∙ no_entry l r (m q s) over)

-- one step
pub describes_step : (m : Machine) (z w : Zipper) → step m z ≡ Some w → (c : Config) → Describes z c → (d : Config) × (next m c ≡ Some d) × Describes w d
describes_step m (AtLeft l q r) w is c s =
    describes_stepped m c (rest l) r q (first l) (s.edge -ℤ pos 1) s.head s.state (s.left 0 ∙ first_at l)
    (λ k. ap (cell c) (let p : (s.edge -ℤ pos 1) -ℤ pos (suc k) ≡ s.edge -ℤ pos (suc (suc k)) = omega (arith, ints) in p) ∙ s.left (suc k) ∙ rest_at l k)
    (λ k. ap (cell c) (let p : (s.edge -ℤ pos 1) +ℤ pos (suc k) ≡ s.edge +ℤ pos k = omega (arith, ints) in p) ∙ s.right k)
    w is
describes_step m (AtRight l q r) w is c s =
    describes_stepped m c l (rest r) q (first r) s.edge s.head s.state (at_edge c s.edge ∙ s.right 0 ∙ first_at r)
    s.left (λ k. s.right (suc k) ∙ rest_at r k) w is

-- or none
halts_step : (m : Machine) (z : Zipper) → step m z ≡ None → (c : Config) → Describes z c → next m c ≡ None
halts_step m (AtLeft l q r) over c s = halts_stepped m c (rest l) r q (first l) (s.edge -ℤ pos 1) s.head s.state (s.left 0 ∙ first_at l) over
halts_step m (AtRight l q r) over c s = halts_stepped m c l (rest r) q (first r) s.edge s.head s.state (at_edge c s.edge ∙ s.right 0 ∙ first_at r) over

-- a zipper that has a step, or none
some_or_none : (m : Machine) (o : Option Zipper) (w : Zipper) → step_on m o ≡ Some w → (y : Zipper) × (o ≡ Some y)
some_or_none m None w is = absurd (none-some w is)
some_or_none m (Some y) w is = (y, refl)

-- so many steps
pub describes_steps : (m : Machine) (k : ℕ) (z w : Zipper) → steps m k z ≡ Some w → (c : Config) → Describes z c → (d : Config) × (from m k c ≡ Some d) × Describes w d
unfolding steps
describes_steps m zero z w is c s = (c, from_zero m c, subst (λ y. Describes y c) (same_Some z w is) s)
describes_steps m (suc k) z w is c s =
    let (y, at) = some_or_none m (steps m k z) w is in
    let (d, run, there) = describes_steps m k z y at c s in
    let (e, goes, so) = describes_step m y w (ap (step_on m) (sym at) ∙ is) d there in
    (e, next_is m k c d run ∙ goes, so)

-- where a zipper has not so many, nor has the run: it has none to the last but one, or that is a halting pair
halts_after : (m : Machine) (k : ℕ) (z : Zipper) (c : Config) → Describes z c → (steps m k z ≡ None → from m k c ≡ None) →
    (o : Option Zipper) → steps m k z ≡ o → step_on m o ≡ None → from m (suc k) c ≡ None
halts_after m k z c s earlier None none over = from_suc m k c ∙ ap (next_from m) (earlier none)
halts_after m k z c s earlier (Some y) some over =
    let (d, run, there) = describes_steps m k z y some c s in
    next_is m k c d run ∙ halts_step m y over d there

pub halts_before : (m : Machine) (k : ℕ) (z : Zipper) → steps m k z ≡ None → (c : Config) → Describes z c → from m k c ≡ None
unfolding steps
halts_before m zero z over c s = absurd (none-some z (sym over))
halts_before m (suc k) z over c s = halts_after m k z c s (λ none. halts_before m k z none c s) (steps m k z) refl over

-- the blank tape
pub describes_start : Describes blank_zipper start
describes_start = record { edge = pos 0; head = refl; state = refl; left = λ k. start_blank _; right = λ k. start_blank _ }

-- The laws of rules: steps are rules, rules follow one another, and rules that go on for ever keep a machine from
-- halting.
infixr 30 ◌⨾◌
infixr 30 ◌⨾⁺◌
infixr 30 ◌⁺⨾◌
-- so many steps, computed
pub run : (m : Machine) (k : ℕ) (z w : Zipper) → steps m k z ≡ Some w → Comes m z w
run m k z w is = record { run = λ c s. let (d, so, there) = describes_steps m k z w is c s in (k, d, so, there) }

pub run⁺ : (m : Machine) (k : ℕ) (z w : Zipper) → steps m (suc k) z ≡ Some w → Goes m z w
run⁺ m k z w is = record { run = λ c s. let (d, so, there) = describes_steps m (suc k) z w is c s in (k, d, so, there) }

-- no step
pub stay : (m : Machine) (z : Zipper) → Comes m z z
stay m z = record { run = λ c s. (0, c, from_zero m c, s) }

-- the same zipper, written in another way
pub same : (m : Machine) {z w : Zipper} → z ≡ w → Comes m z w
same m {z} e = subst (Comes m z) e (stay m z)

-- at least one step is some number of steps
pub weakened : {m : Machine} {z w : Zipper} → Goes m z w → Comes m z w
weakened g = record { run = λ c s. let (k, d, is, there) = g.run c s in (suc k, d, is, there) }

-- one rule after another
pub ◌⨾◌ : {m : Machine} {z w v : Zipper} → Comes m z w → Comes m w v → Comes m z v
◌⨾◌ {m} f g = record {
  run = λ c s.
      let (i, d, is, at) = f.run c s in
      let (j, e, so, there) = g.run d at in
      (i + j, e, from_add m i j c d is ∙ so, there);
}

pub ◌⨾⁺◌ : {m : Machine} {z w v : Zipper} → Comes m z w → Goes m w v → Goes m z v
◌⨾⁺◌ {m} f g = record {
  run = λ c s.
      let (i, d, is, at) = f.run c s in
      let (j, e, so, there) = g.run d at in
      (i + j, e, ap (λ n. from m n c) (let p : suc (i + j) ≡ i + suc j = omega arith in p) ∙ from_add m i (suc j) c d is ∙ so, there);
}

pub ◌⁺⨾◌ : {m : Machine} {z w v : Zipper} → Goes m z w → Comes m w v → Goes m z v
◌⁺⨾◌ {m} f g = record {
  run = λ c s.
      let (i, d, is, at) = f.run c s in
      let (j, e, so, there) = g.run d at in
      (i + j, e, ap (λ n. from m n c) (let p : suc (i + j) ≡ suc i + j = omega arith in p) ∙ from_add m (suc i) j c d is ∙ so, there);
}

-- a family of zippers that the run comes to, and from each of which it goes on to another one
module _ (m : Machine) (I : Type 0) (at : I → Zipper) (i : I) (begin : Comes m blank_zipper (at i)) (onward : (j : I) → (k : I) × Goes m (at j) (at k)) where
  -- at arbitrarily late times
  late : (n : ℕ) → (k : ℕ) × (n ≤ k) × (c : Config) × (after m k ≡ Some c) × (j : I) × Describes (at j) c
  late zero =
      let (k, c, is, so) = begin.run start describes_start in
      (k, omega arith, c, is, i, so)
  late (suc n) =
      let (k, high, c, is, j, so) = late n in
      let (h, goes) = onward j in
      let (p, d, then, there) = goes.run c so in
      (k + suc p, omega arith, d, from_add m k (suc p) start c is ∙ then, h, there)

  pub never_by_rules : Never m
  never_by_rules = never_where_always m (λ n. let (k, high, c, is, j, so) = late n in before m n k start c high is)

-- Words repeated in front of a half tape, and rules that carry a word over the head.

-- a further one may stand first or last
pub repeat_last : (w : List Sym) (n : ℕ) (l : List Sym) → repeat w n (w ++ l) ≡ w ++ repeat w n l
repeat_last w zero l = refl
repeat_last w (suc n) l = ap (λ x. w ++ x) (repeat_last w n l)

-- two words of one kind may stand in either order
pub repeat_swap : (w : List Sym) (n j : ℕ) (l : List Sym) → repeat w n (repeat w j l) ≡ repeat w j (repeat w n l)
repeat_swap w n zero l = refl
repeat_swap w n (suc j) l = repeat_last w n (repeat w j l) ∙ ap (λ x. w ++ x) (repeat_swap w n j l)

-- a word of two symbols, begun with the other one
pub repeat_turned : (a b : Sym) (n : ℕ) (l : List Sym) → repeat (a ∷ b ∷ []) n (a ∷ l) ≡ a ∷ repeat (b ∷ a ∷ []) n l
repeat_turned a b zero l = refl
repeat_turned a b (suc n) l = ap (λ x. a ∷ b ∷ x) (repeat_turned a b n l)

module _ (m : Machine) (q : ℕ) (u v : List Sym) where
  -- the head goes right over words u, and leaves v for each
  pub sweep_right : ((l r : List Sym) → Comes m (AtRight l q (u ++ r)) (AtRight (v ++ l) q r)) →
      (n : ℕ) (l r : List Sym) → Comes m (AtRight l q (repeat u n r)) (AtRight (repeat v n l) q r)
  sweep_right rule zero l r = stay m _
  sweep_right rule (suc n) l r =
      rule l (repeat u n r) ⨾ subst (λ x. Comes m (AtRight (v ++ l) q (repeat u n r)) (AtRight x q r)) (repeat_last v n l) (sweep_right rule n (v ++ l) r)

  -- and left
  pub sweep_left : ((l r : List Sym) → Comes m (AtLeft (u ++ l) q r) (AtLeft l q (v ++ r))) →
      (n : ℕ) (l r : List Sym) → Comes m (AtLeft (repeat u n l) q r) (AtLeft l q (repeat v n r))
  sweep_left rule zero l r = stay m _
  sweep_left rule (suc n) l r =
      rule (repeat u n l) r ⨾ subst (λ x. Comes m (AtLeft (repeat u n l) q (v ++ r)) (AtLeft l q x)) (repeat_last v n r) (sweep_left rule n l (v ++ r))

-- Half tapes that are the same but for blanks at their far ends.
pub same_blank : SameCells [] (Zero ∷ [])
same_blank = record { cell = go }
  where
    go : (n : ℕ) → symbol_at [] n ≡ symbol_at (Zero ∷ []) n
    go zero = refl
    go (suc n) = refl

same_cons : (s : Sym) (l k : List Sym) → SameCells l k → SameCells (s ∷ l) (s ∷ k)
same_cons s l k same = record { cell = go }
  where
    go : (n : ℕ) → symbol_at (s ∷ l) n ≡ symbol_at (s ∷ k) n
    go zero = refl
    go (suc n) = same.cell n

pub same_word : (w l k : List Sym) → SameCells l k → SameCells (w ++ l) (w ++ k)
same_word [] l k same = same
same_word (s ∷ w) l k same = same_cons s (w ++ l) (w ++ k) (same_word w l k same)

pub same_repeat : (w : List Sym) (n : ℕ) (l k : List Sym) → SameCells l k → SameCells (repeat w n l) (repeat w n k)
same_repeat w zero l k same = same
same_repeat w (suc n) l k same = same_word w (repeat w n l) (repeat w n k) (same_repeat w n l k same)

-- the same configuration
pub same_right : (m : Machine) (q : ℕ) (l r k : List Sym) → SameCells r k → Comes m (AtRight l q r) (AtRight l q k)
same_right m q l r k same = record { run = λ c s. (0, c, from_zero m c, record { edge = s.edge; head = s.head; state = s.state; left = s.left; right = λ n. s.right n ∙ same.cell n }) }

pub same_left : (m : Machine) (q : ℕ) (l r k : List Sym) → SameCells l k → Comes m (AtLeft l q r) (AtLeft k q r)
same_left m q l r k same = record { run = λ c s. (0, c, from_zero m c, record { edge = s.edge; head = s.head; state = s.state; left = λ n. s.left n ∙ same.cell n; right = s.right }) }
