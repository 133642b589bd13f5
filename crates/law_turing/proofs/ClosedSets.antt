-- No step leaves a closed position set, which looks at words of adjacent cells, so its machine never halts.
use Rattle.std.proofs.Common.{◌≡◌, ℕ, zero, suc, ℤ, pos, ◌+ℤ◌, ◌<ℤ◌, ◌≤ℤ◌, [], ◌∷◌, ◌++◌, replicate, ◌∙◌, ap, refl, arith, ◌-ℤ◌, List, Option, Some, None, sym, subst}
use Rattle.std.proofs.lemmas.Int.{ints, by_lt_z}
use Rattle.machine_text.specs.declared.table.Sym.TheVariants.{Zero}
use Rattle.law_turing.specs.Run.{Config, start, cell, Machine, symbol_read, moved_head, carried_out, next, from, Takes}
use Rattle.law_turing.specs.NeverHalting.{word, Local, local_of, IsClosedSet, IsInside}
use Rattle.law_turing.proofs.Cycles.{start_blank}
use Rattle.machine_text.specs.declared.table.Sym.{Sym}
use Rattle.machine_text.specs.declared.table.Dir.{Dir}
use Rattle.machine_text.specs.declared.table.Dir.TheVariants.{L, R}
use Rattle.machine_text.specs.declared.table.Entry.{Entry}
use Rattle.law_turing.specs.Halting.{Never}
use Rattle.law_turing.proofs.RunLaws.{taken_takes, next_taken, invariant_law, never_by_invariant}

-- Words of adjacent cells.

-- the first cell of a word
pub word_first : (c : Config) (x : ℤ) (n : ℕ) → word c x (suc n) ≡ cell c x ∷ word c (x +ℤ pos 1) n
unfolding word
word_first c x n = refl

-- and the last
pub word_last : (c : Config) (x : ℤ) (n : ℕ) → word c x (suc n) ≡ word c x n ++ cell c (x +ℤ pos n) ∷ []
unfolding word
word_last c x zero = ap (λ y. cell c y ∷ []) (let e : x ≡ x +ℤ pos 0 = omega (arith, ints) in e)
word_last c x (suc n) =
    let place : (x +ℤ pos 1) +ℤ pos n ≡ x +ℤ pos (suc n) = omega (arith, ints) in
    ap (λ w. cell c x ∷ w) (word_last c (x +ℤ pos 1) n) ∙ ap (λ y. cell c x ∷ (word c (x +ℤ pos 1) n ++ cell c y ∷ [])) place

-- words of the same cells are the same
pub word_same : (c d : Config) (x : ℤ) (n : ℕ) → ((y : ℤ) → x ≤ℤ y → y <ℤ (x +ℤ pos n) → cell c y ≡ cell d y) → word c x n ≡ word d x n
unfolding word
word_same c d x zero same = refl
word_same c d x (suc n) same =
    ap (λ s. s ∷ word c (x +ℤ pos 1) n) (same x (omega (arith, ints)) (omega (arith, ints))) ∙
    ap (λ w. cell d x ∷ w) (word_same c d (x +ℤ pos 1) n (λ y low high. same y (omega (arith, ints)) (omega (arith, ints))))

-- the words of the blank tape
pub word_blank : (x : ℤ) (n : ℕ) → word start x n ≡ replicate n Zero
unfolding word
word_blank x zero = refl
word_blank x (suc n) = ap (λ s. s ∷ word start (x +ℤ pos 1) n) (start_blank x) ∙ ap (λ w. Zero ∷ w) (word_blank (x +ℤ pos 1) n)

-- No step leaves a closed position set, so a machine that has one never halts.

-- local configurations with the same parts are one
same_local : (a b : Local) → a.left ≡ b.left → a.state ≡ b.state → a.read ≡ b.read → a.right ≡ b.right → a ≡ b
same_local a b left state read right =
    ap (λ x. record { left = x; state = a.state; read = a.read; right = a.right }) left ∙
    ap (λ x. record { left = b.left; state = x; read = a.read; right = a.right }) state ∙
    ap (λ x. record { left = b.left; state = b.state; read = x; right = a.right }) read ∙
    ap (λ x. record { left = b.left; state = b.state; read = b.read; right = x }) right

-- a head that was moved
moved_on : (h h' : ℤ) (d f : Dir) → h' ≡ moved_head h d → d ≡ f → h' ≡ moved_head h f
moved_on h h' d f is same = is ∙ ap (moved_head h) same

module _ (m : Machine) (lefts rights : List Sym → Type 0) (members : Local → Type 0) where
  -- a step to the right
  step_right : (n : ℕ) → IsClosedSet (suc n) m lefts rights members → (c d : Config) (e : Entry) → Takes m c e d → e.dir ≡ R →
      IsInside (suc n) lefts rights members c → IsInside (suc n) lefts rights members d
  step_right n closed c d e t is_right inside =
      let h : ℤ = c.tape.head in
      let head : d.tape.head ≡ h +ℤ pos 1 = moved_on h d.tape.head e.dir R t.head is_right in
      let l : List Sym = word c (h -ℤ pos n) n in
      let r : List Sym = word c ((h +ℤ pos 1) +ℤ pos 1) n in
      let l0 : Sym = cell c (h -ℤ pos (suc n)) in
      let r0 : Sym = cell c (h +ℤ pos 1) in
      let x : Sym = cell c (((h +ℤ pos 1) +ℤ pos 1) +ℤ pos n) in
      let begin : (h -ℤ pos (suc n)) +ℤ pos 1 ≡ h -ℤ pos n = omega (arith, ints) in
      let left_is : word c (h -ℤ pos (suc n)) (suc n) ≡ l0 ∷ l = word_first c (h -ℤ pos (suc n)) n ∙ ap (λ y. l0 ∷ word c y n) begin in
      let right_is : word c (h +ℤ pos 1) (suc n) ≡ r0 ∷ r = word_first c (h +ℤ pos 1) n in
      let member : members (record { left = l0 ∷ l; state = c.state; read = symbol_read c.tape; right = r0 ∷ r }) =
      subst members (same_local (local_of (suc n) c) (record { left = l0 ∷ l; state = c.state; read = symbol_read c.tape; right = r0 ∷ r }) left_is refl refl right_is) inside.here in
      let (new_left, grows) = closed.on_right l0 r0 (symbol_read c.tape) l r c.state e member t.is is_right in
      let before_head : word d (h -ℤ pos n) n ≡ l = word_same d c (h -ℤ pos n) n (λ y low high. t.others y (λ same. omega (arith, ints))) in
      let at_head : cell d ((h -ℤ pos n) +ℤ pos n) ≡ e.write = ap (cell d) (let p : (h -ℤ pos n) +ℤ pos n ≡ h = omega (arith, ints) in p) ∙ t.here in
      let left_new : word d (h -ℤ pos n) (suc n) ≡ l ++ e.write ∷ [] =
      word_last d (h -ℤ pos n) n ∙ ap (λ w. w ++ cell d ((h -ℤ pos n) +ℤ pos n) ∷ []) before_head ∙ ap (λ s. l ++ s ∷ []) at_head in
      let right_old : word c ((h +ℤ pos 1) +ℤ pos 1) (suc n) ≡ r ++ x ∷ [] = word_last c ((h +ℤ pos 1) +ℤ pos 1) n in
      let right_new : word d ((h +ℤ pos 1) +ℤ pos 1) (suc n) ≡ r ++ x ∷ [] =
      word_same d c ((h +ℤ pos 1) +ℤ pos 1) (suc n) (λ y low high. t.others y (λ same. omega (arith, ints))) ∙ right_old in
      let view : rights (r ++ x ∷ []) = subst rights right_old (inside.right ((h +ℤ pos 1) +ℤ pos 1) (omega (arith, ints))) in
      let read : symbol_read d.tape ≡ r0 = ap (cell d) head ∙ t.others (h +ℤ pos 1) (λ same. omega (arith, ints)) in
      let left_place : d.tape.head -ℤ pos (suc n) ≡ h -ℤ pos n = omega (arith, ints) in
      record {
        here = subst members
            (sym (same_local (local_of (suc n) d) (record { left = l ++ e.write ∷ []; state = e.next.0; read = r0; right = r ++ x ∷ [] })
            (ap (λ y. word d y (suc n)) left_place ∙ left_new) t.state read (ap (λ y. word d (y +ℤ pos 1) (suc n)) head ∙ right_new)))
            (grows x view);
        left = λ y below. by_lt_z h (y +ℤ pos (suc n))
            (λ new.
            let place : y ≡ h -ℤ pos n = omega (arith, ints) in
            subst lefts (sym (ap (λ z. word d z (suc n)) place ∙ left_new)) new_left)
            (λ old. subst lefts (word_same c d y (suc n) (λ z low high. sym (t.others z (λ same. omega (arith, ints))))) (inside.left y old));
        right = λ y beyond. subst rights (word_same c d y (suc n) (λ z low high. sym (t.others z (λ same. omega (arith, ints))))) (inside.right y (omega (arith, ints)));
      }

  -- a step to the left
  step_left : (n : ℕ) → IsClosedSet (suc n) m lefts rights members → (c d : Config) (e : Entry) → Takes m c e d → e.dir ≡ L →
      IsInside (suc n) lefts rights members c → IsInside (suc n) lefts rights members d
  step_left n closed c d e t is_left inside =
      let h : ℤ = c.tape.head in
      let head : d.tape.head ≡ h -ℤ pos 1 = moved_on h d.tape.head e.dir L t.head is_left in
      let l : List Sym = word c (h -ℤ pos (suc n)) n in
      let r : List Sym = word c (h +ℤ pos 1) n in
      let l0 : Sym = cell c (h -ℤ pos 1) in
      let r0 : Sym = cell c ((h +ℤ pos 1) +ℤ pos n) in
      let far : ℤ = (h -ℤ pos 1) -ℤ pos (suc n) in
      let x : Sym = cell c far in
      let last : (h -ℤ pos (suc n)) +ℤ pos n ≡ h -ℤ pos 1 = omega (arith, ints) in
      let left_is : word c (h -ℤ pos (suc n)) (suc n) ≡ l ++ l0 ∷ [] = word_last c (h -ℤ pos (suc n)) n ∙ ap (λ y. l ++ cell c y ∷ []) last in
      let right_is : word c (h +ℤ pos 1) (suc n) ≡ r ++ r0 ∷ [] = word_last c (h +ℤ pos 1) n in
      let member : members (record { left = l ++ l0 ∷ []; state = c.state; read = symbol_read c.tape; right = r ++ r0 ∷ [] }) =
      subst members (same_local (local_of (suc n) c) (record { left = l ++ l0 ∷ []; state = c.state; read = symbol_read c.tape; right = r ++ r0 ∷ [] }) left_is refl refl right_is) inside.here in
      let (new_right, grows) = closed.on_left l0 r0 (symbol_read c.tape) l r c.state e member t.is is_left in
      let after_head : word d (h +ℤ pos 1) n ≡ r = word_same d c (h +ℤ pos 1) n (λ y low high. t.others y (λ same. omega (arith, ints))) in
      let right_new : word d h (suc n) ≡ e.write ∷ r = word_first d h n ∙ ap (λ w. cell d h ∷ w) after_head ∙ ap (λ s. s ∷ r) t.here in
      let begin : far +ℤ pos 1 ≡ h -ℤ pos (suc n) = omega (arith, ints) in
      let left_old : word c far (suc n) ≡ x ∷ l = word_first c far n ∙ ap (λ y. x ∷ word c y n) begin in
      let left_new : word d far (suc n) ≡ x ∷ l = word_same d c far (suc n) (λ y low high. t.others y (λ same. omega (arith, ints))) ∙ left_old in
      let view : lefts (x ∷ l) = subst lefts left_old (inside.left far (omega (arith, ints))) in
      let read : symbol_read d.tape ≡ l0 = ap (cell d) head ∙ t.others (h -ℤ pos 1) (λ same. omega (arith, ints)) in
      let right_place : d.tape.head +ℤ pos 1 ≡ h = omega (arith, ints) in
      record {
        here = subst members
            (sym (same_local (local_of (suc n) d) (record { left = x ∷ l; state = e.next.0; read = l0; right = e.write ∷ r })
            (ap (λ y. word d (y -ℤ pos (suc n)) (suc n)) head ∙ left_new) t.state read (ap (λ y. word d y (suc n)) right_place ∙ right_new)))
            (grows x view);
        left = λ y below. subst lefts (word_same c d y (suc n) (λ z low high. sym (t.others z (λ same. omega (arith, ints))))) (inside.left y (omega (arith, ints)));
        right = λ y beyond. by_lt_z h y
            (λ old. subst rights (word_same c d y (suc n) (λ z low high. sym (t.others z (λ same. omega (arith, ints))))) (inside.right y old))
            (λ new.
            let place : y ≡ h = omega (arith, ints) in
            subst rights (sym (ap (λ z. word d z (suc n)) place ∙ right_new)) new_right);
      }

  -- a step, wherever it goes
  step_inside : (g : ℕ) → IsClosedSet g m lefts rights members → (c d : Config) (e : Entry) → Takes m c e d →
      IsInside g lefts rights members c → IsInside g lefts rights members d
  step_inside zero closed c d e t inside = let width = closed.width in absurd (omega arith)
  step_inside (suc n) closed c d e t inside = go e.dir refl
    where
      go : (f : Dir) → e.dir ≡ f → IsInside (suc n) lefts rights members d
      go L is = step_left n closed c d e t is inside
      go R is = step_right n closed c d e t is inside

  -- each configuration within the sets has a next one, within the sets
  pub goes_inside : (g : ℕ) → IsClosedSet g m lefts rights members → (c : Config) → IsInside g lefts rights members c →
      (d : Config) × (next m c ≡ Some d) × IsInside g lefts rights members d
  goes_inside g closed c inside = go (m c.state (symbol_read c.tape)) refl
    where
      go : (o : Option Entry) → m c.state (symbol_read c.tape) ≡ o → (d : Config) × (next m c ≡ Some d) × IsInside g lefts rights members d
      go None none = absurd (closed.goes_on (local_of g c) inside.here none)
      go (Some e) some =
          (carried_out c e, next_taken m c e some, step_inside g closed c (carried_out c e) e (taken_takes m c e some) inside)

  -- a run from a configuration within the sets goes on for ever, and stays within
  pub stays_inside : (g : ℕ) → IsClosedSet g m lefts rights members → (c : Config) → IsInside g lefts rights members c →
      (k : ℕ) → (d : Config) × (from m k c ≡ Some d) × IsInside g lefts rights members d
  stays_inside g closed = invariant_law m (IsInside g lefts rights members) (goes_inside g closed)

  -- the blank tape is within
  pub start_inside : (g : ℕ) → IsClosedSet g m lefts rights members → IsInside g lefts rights members start
  start_inside g closed = record {
    here = subst members
        (sym (same_local (local_of g start) (record { left = replicate g Zero; state = 0; read = Zero; right = replicate g Zero })
        (word_blank (pos 0 -ℤ pos g) g) refl (start_blank (pos 0)) (word_blank (pos 0 +ℤ pos 1) g)))
        closed.blank_tape;
    left = λ x below. subst lefts (sym (word_blank x g)) closed.blank_left;
    right = λ x beyond. subst rights (sym (word_blank x g)) closed.blank_right;
  }

  -- a machine that has a closed position set never halts
  pub closed_never : (g : ℕ) → IsClosedSet g m lefts rights members → Never m
  closed_never g closed = never_by_invariant m (IsInside g lefts rights members) (goes_inside g closed) (start_inside g closed)
