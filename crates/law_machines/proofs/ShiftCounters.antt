-- Shift overflow counters: why they never halt. Between the head and the blanks stand two binary counters.
--
--     $ .. e2 000 e1 .. d2 000 d1 000 d0 <A 0 p 1 r0 1 r1 1 r2 $
--
-- To the left of the head the left counter d0 d1 .., its digits four cells apart, the least one first; to the right the
-- right counter r0 r1 .., each digit behind a one. Both go on by one together, until the right one is ones alone. Then
-- it overflows, and the head looks at the left counter from a place that is shifted by one cell: a new left counter
-- begins there, and the digits e1 e2 .. of the older one lie between its places. As the new one grows over an older
-- digit zero, that is passed; where it comes to an older digit one, the carry turns round there: the digit is eaten,
-- and all the cells that the carry has swept over go to the right counter, which is longer by their digits.
--
-- Let L and R be the values of the left and of the right counter, j and w their lengths, and n the number of older
-- digits. These are the rules on lists of digits, each a rule on the tape; inc adds one to a list in its place, and 1^k
-- is k ones:
--
--     both go on   left and right have a zero         left -> inc left, right -> inc right
--     grow         left is 1^j, next older digit 0    left -> 0^j 1, right -> inc right, and the older digit is gone
--     eat          left is 1^j, next older digit 1    left -> 1, right -> by right, and the older digit is gone
--     overflow     none is older, right is 1^w        left 0 t -> left 1, older t (near), right 1 0^(w - 1) 1
--                                                     left 1^k t -> left 0 1, older u (far), right 1 0^(w - 2) 1
--
-- where by is a list that depends on the machine, on j and on whether the digit was near or far; and 0 u is what inc
-- makes of 1^k t, with a further digit where it needs one. Where none is older, a left counter of ones alone takes a
-- zero of the blanks.
--
-- The invariant is that of `Plain` or of `Shifted` below. The cases:
--
-- - With older digits, left has a zero: then L <= 2^j - 2, so 2^w - 1 - R >= 2, and right has a zero too. Both go on:
--   L and R grow by one each, and the sum stays.
-- - With older digits, left is ones alone, the next older digit is 0: that isn't the last one, so n >= 2, and right has
--   a zero. It grows: L and R grow by one each, and j + n stays.
-- - The same, but the next older digit is 1: it is eaten. Let v be the length of by; its value is two at least. The new
--   2^w - 1 - R is the old one, at least 2^(j + n - 1) - 2^j + 1, times 2^v or more: enough for L = 1, j = 1 and n - 1.
--   If the digit was the last one, the new R is at least 2 + 2^(w - 1) times 2^v: enough for `Plain`.
-- - Without older digits, right has a zero: both go on, L and R grow by one each.
-- - Without older digits, right is ones alone: R = 2^w - 1, so L + 2 <= 2^(w - 1), and inc left has w - 1 digits at
--   most, of which the first one is no older digit: n <= w - 2. Overflow leaves 2^w - 1 - R + L = 2^w - 1 for the new
--   w, R, L and j = 1, or 2^(w - 1) for j = 2: enough for both.
use Rattle.std.proofs.Common.{◌≡◌, ℕ, zero, suc, ◌+◌, ◌*◌, ◌<◌, ◌≤◌, List, [], ◌∷◌, ◌++◌, inl, inr, sym, ◌∙◌, ap, subst, refl, arith}
use Rattle.machine_text.specs.declared.table.Sym.{Sym}
use Rattle.machine_text.specs.declared.table.Sym.TheVariants.{Zero, One}
use Rattle.law_turing.specs.Terms.{Machine, Never}
use Rattle.law_machines.specs.Zipper.{Zipper, AtLeft, blank_zipper, Comes, Goes, repeat, SameCells}
use Rattle.law_machines.proofs.RuleLaws.{same, ◌⨾◌, ◌⨾⁺◌, ◌⁺⨾◌, never_by_rules, repeat_last, same_word, same_repeat, same_left}
use Rattle.law_machines.proofs.DigitLists.{o, i, oo, ii, io, oooo, iooo, val, scaled, full, full_pos, val_below, scaled_two, scaled_val, scaled_room, scaled_top, val_append, full_append, full_gap, val_ones, val_inc, full_inc, scaled_inc, val_grow, full_grow, scaled_grow, scaled_twice, look, Shift, Near, Far, pairs, behind, digits, older, beyond, pairs_append, pairs_repeat, digits_repeat, digits_ones, older_repeat, same_behind, first_zero}

-- A machine with its state q at the turns, a word p between the head and the right counter, and the digits by_near k
-- and by_far k that the right counter is lengthened by; its five rules on the tape, and that those digits are worth two
-- at least.
module _ (m : Machine) (q : ℕ) (p : List Sym) (by_near by_far : ℕ → List Sym)
    (inc : (k j : ℕ) (x y : List Sym) →
    Goes m (AtLeft (repeat iooo k (Zero ∷ x)) q (Zero ∷ p ++ repeat ii j (One ∷ Zero ∷ y)))
    (AtLeft (repeat oooo k (One ∷ x)) q (Zero ∷ p ++ repeat io j (One ∷ One ∷ y))))
    (eat_near : (k : ℕ) (x y : List Sym) →
    Goes m (AtLeft (repeat iooo k (One ∷ Zero ∷ Zero ∷ One ∷ Zero ∷ x)) q (Zero ∷ p ++ y))
    (AtLeft (One ∷ x) q (Zero ∷ p ++ pairs (by_near k) y)))
    (eat_far : (k : ℕ) (x y : List Sym) →
    Goes m (AtLeft (repeat iooo k (One ∷ One ∷ Zero ∷ x)) q (Zero ∷ p ++ y))
    (AtLeft (One ∷ x) q (Zero ∷ p ++ pairs (by_far k) y)))
    (over_near : (w : ℕ) (x : List Sym) →
    Goes m (AtLeft (Zero ∷ Zero ∷ x) q (Zero ∷ p ++ repeat ii (suc w) []))
    (AtLeft (One ∷ x) q (Zero ∷ p ++ One ∷ One ∷ repeat io w (One ∷ One ∷ []))))
    (over_far : (k w : ℕ) (x : List Sym) →
    Goes m (AtLeft (repeat iooo (suc k) (Zero ∷ x)) q (Zero ∷ p ++ repeat ii (suc (suc w)) []))
    (AtLeft (oooo ++ One ∷ repeat oooo k (One ∷ x)) q (Zero ∷ p ++ One ∷ One ∷ repeat io w (One ∷ One ∷ []))))
    (two_near : (k : ℕ) → 2 ≤ val (by_near k)) (two_far : (k : ℕ) → 1 ≤ k → 2 ≤ val (by_far k)) where
  abbrev zipper_of : List Sym → List Sym → List Sym → Zipper
  zipper_of z l r = AtLeft (digits l z) q (Zero ∷ p ++ pairs r [])

  abbrev Long : Shift → List Sym → Type 0
  Long Near l = 2 ≤ full l
  Long Far l = 4 ≤ full l

  -- without older digits: the left counter's last digit is one, and R >= L + 2^(w - 1) + 1
  record Plain : Type 0 where
    left : List Sym
    right : List Sym
    top : full left ≤ 2 * val left
    low : (2 * val left + full right) + 2 ≤ 2 * val right

  -- with n of them: the left counter has one digit at least, or two where they are far; the last older digit is one,
  -- the right counter's last digit is one, and (2^w - 1 - R) + L >= 2^(j + n - 1)
  record Shifted : Type 0 where
    shift : Shift
    left : List Sym
    old : List Sym
    right : List Sym
    long : Long shift left
    top : full old ≤ 2 * val old
    right_top : full right ≤ 2 * val right
    room : (scaled left (full old) + 2 * val right) + 2 ≤ 2 * full right + 2 * val left

  data State : Type 0 where
    plain : Plain → State
    shifted : Shifted → State

  abbrev at : State → Zipper
  at (plain s) = zipper_of (beyond Near []) s.left s.right
  at (shifted s) = zipper_of (beyond s.shift s.old) s.left s.right

  -- both counters go on
  both : (z : List Sym) (k j : ℕ) (t u : List Sym) →
      Goes m (zipper_of z (repeat i k (Zero ∷ t)) (repeat i j (Zero ∷ u)))
      (zipper_of z (repeat o k (One ∷ t)) (repeat o j (One ∷ u)))
  both z k j t u =
      same m (ap (λ x. AtLeft x q (Zero ∷ p ++ pairs (repeat i j (Zero ∷ u)) [])) (digits_repeat One Zero k t z)
      ∙ ap (λ x. AtLeft (repeat iooo k (Zero ∷ behind t z)) q (Zero ∷ p ++ x)) (pairs_repeat One j (Zero ∷ u) [])) ⨾⁺
      inc k j (behind t z) (pairs u []) ⁺⨾
      same m (sym (ap (λ x. AtLeft x q (Zero ∷ p ++ pairs (repeat o j (One ∷ u)) [])) (digits_repeat Zero One k t z)
      ∙ ap (λ x. AtLeft (repeat oooo k (One ∷ behind t z)) q (Zero ∷ p ++ x)) (pairs_repeat Zero j (One ∷ u) [])))

  -- the left one grows by an older digit zero
  grows : (shift : Shift) (k j : ℕ) (es u : List Sym) →
      Goes m (zipper_of (beyond shift (Zero ∷ es)) (repeat i (suc k) []) (repeat i j (Zero ∷ u)))
      (zipper_of (beyond shift es) (repeat o (suc k) (One ∷ [])) (repeat o j (One ∷ u)))
  grows shift k j es u =
      same m (ap (λ x. AtLeft x q (Zero ∷ p ++ pairs (repeat i j (Zero ∷ u)) []))
      (digits_ones k (beyond shift (Zero ∷ es)) ∙ ap (repeat iooo k) (shape shift)
      ∙ repeat_last iooo k (Zero ∷ beyond shift es) ∙ sym (digits_repeat One Zero (suc k) [] (beyond shift es)))) ⨾⁺
      both (beyond shift es) (suc k) j [] u
    where
      shape : (shift : Shift) → One ∷ beyond shift (Zero ∷ es) ≡ iooo ++ Zero ∷ beyond shift es
      shape Near = refl
      shape Far = refl

  abbrev eats : Shift → ℕ → List Sym
  eats Near k = by_near k
  eats Far k = by_far k

  -- an older digit one is eaten
  eat : (shift : Shift) (k : ℕ) (es r : List Sym) →
      Goes m (zipper_of (beyond shift (One ∷ es)) (repeat i (suc k) []) r)
      (zipper_of (beyond Near es) (One ∷ []) (eats shift k ++ r))
  eat Near k es r =
      same m (ap (λ x. AtLeft x q (Zero ∷ p ++ pairs r [])) (digits_ones k (beyond Near (One ∷ es)))) ⨾⁺
      eat_near k (Zero ∷ Zero ∷ older es) (pairs r []) ⁺⨾
      same m (ap (λ x. AtLeft (One ∷ Zero ∷ Zero ∷ older es) q (Zero ∷ p ++ x)) (sym (pairs_append (by_near k) r [])))
  eat Far k es r =
      same m (ap (λ x. AtLeft x q (Zero ∷ p ++ pairs r [])) (digits_ones k (beyond Far (One ∷ es)))) ⨾⁺
      eat_far k (Zero ∷ Zero ∷ older es) (pairs r []) ⁺⨾
      same m (ap (λ x. AtLeft (One ∷ Zero ∷ Zero ∷ older es) q (Zero ∷ p ++ x)) (sym (pairs_append (by_far k) r [])))

  -- the right counter overflows, where the left one is even
  overflow_near : (w : ℕ) (t : List Sym) →
      Goes m (zipper_of (beyond Near []) (Zero ∷ t) (repeat i (suc w) []))
      (zipper_of (beyond Near t) (One ∷ []) (One ∷ repeat o w (One ∷ [])))
  overflow_near w t =
      same_left m q _ _ (Zero ∷ Zero ∷ Zero ∷ Zero ∷ older t)
      (same_word o (behind t oo) (Zero ∷ Zero ∷ Zero ∷ older t) (same_behind t)) ⨾⁺
      same m (ap (λ x. AtLeft (Zero ∷ Zero ∷ Zero ∷ Zero ∷ older t) q (Zero ∷ p ++ x))
      (pairs_repeat One (suc w) [] [])) ⨾⁺
      over_near w (Zero ∷ Zero ∷ older t) ⁺⨾
      same m (ap (λ x. AtLeft (One ∷ Zero ∷ Zero ∷ older t) q (Zero ∷ p ++ One ∷ One ∷ x))
      (sym (pairs_repeat Zero w (One ∷ []) [])))

  -- and where it is odd
  overflow_far : (k w : ℕ) (t : List Sym) →
      Goes m (zipper_of (beyond Near []) (repeat i (suc k) (Zero ∷ t)) (repeat i (suc (suc w)) []))
      (zipper_of (beyond Far (repeat o k (One ∷ t))) (Zero ∷ One ∷ []) (One ∷ repeat o w (One ∷ [])))
  overflow_far k w t =
      same m (ap (λ x. AtLeft x q (Zero ∷ p ++ pairs (repeat i (suc (suc w)) []) []))
      (digits_repeat One Zero (suc k) t oo)
      ∙ ap (λ x. AtLeft (repeat iooo (suc k) (Zero ∷ behind t oo)) q (Zero ∷ p ++ x))
      (pairs_repeat One (suc (suc w)) [] [])) ⨾⁺
      same_left m q _ _ (repeat iooo (suc k) (Zero ∷ Zero ∷ Zero ∷ Zero ∷ older t))
      (same_repeat iooo (suc k) _ _ (same_word o (behind t oo) (Zero ∷ Zero ∷ Zero ∷ older t) (same_behind t))) ⨾⁺
      over_far k w (Zero ∷ Zero ∷ Zero ∷ older t) ⁺⨾
      same m (ap (λ x. AtLeft (oooo ++ One ∷ x) q (Zero ∷ p ++ One ∷ One ∷ repeat io w (One ∷ One ∷ [])))
      (sym (older_repeat Zero One k t))
      ∙ ap (λ x. AtLeft (oooo ++ One ∷ older (repeat o k (One ∷ t))) q (Zero ∷ p ++ One ∷ One ∷ x))
      (sym (pairs_repeat Zero w (One ∷ []) [])))

  -- with older digits, the right counter has a zero
  has_room : (l es r : List Sym) (j : ℕ) → full es ≤ 2 * val es →
      (scaled l (full es) + 2 * val r) + 2 ≤ 2 * full r + 2 * val l → r ≡ repeat i j [] → ⊥
  has_room l es r j top room e =
      let v : val r ≡ val (repeat i j []) = ap val e in
      let f : full r ≡ full (repeat i j []) = ap full e in
      let two : 2 ≤ full es = omega (arith, val_below es) in
      omega (arith, val_ones j, scaled_two l (full es) two, val_below l)

  -- both counters go on
  shifted_inc : (s : Shifted) (k j : ℕ) (t u : List Sym) → s.left ≡ repeat i k (Zero ∷ t) →
      s.right ≡ repeat i j (Zero ∷ u) → (w : State) × Goes m (at (shifted s)) (at w)
  shifted_inc s k j t u el er =
      let vl : val s.left ≡ val (repeat i k (Zero ∷ t)) = ap val el in
      let fl : full s.left ≡ full (repeat i k (Zero ∷ t)) = ap full el in
      let sl : scaled s.left (full s.old) ≡ scaled (repeat i k (Zero ∷ t)) (full s.old) =
      ap (λ x. scaled x (full s.old)) el in
      let vr : val s.right ≡ val (repeat i j (Zero ∷ u)) = ap val er in
      let fr : full s.right ≡ full (repeat i j (Zero ∷ u)) = ap full er in (
        shifted (record {
          shift = s.shift;
          left = repeat o k (One ∷ t);
          old = s.old;
          right = repeat o j (One ∷ u);
          long = keeps s.shift (repeat o k (One ∷ t)) s.left (omega (arith, full_inc k t)) s.long;
          top = s.top;
          right_top = let a = s.right_top in omega (arith, val_inc j u, full_inc j u);
          room = let a = s.room in omega (arith, val_inc k t, val_inc j u, full_inc j u, scaled_inc k t (full s.old));
        }),
        same m (ap (λ x. zipper_of (beyond s.shift s.old) x s.right) el
            ∙ ap (zipper_of (beyond s.shift s.old) (repeat i k (Zero ∷ t))) er) ⨾⁺ both (beyond s.shift s.old) k j t u,
      )
    where
      keeps : (shift : Shift) (a b : List Sym) → full a ≡ full b → Long shift b → Long shift a
      keeps Near a b e h = omega arith
      keeps Far a b e h = omega arith

  -- the left counter is ones alone, and the next older digit is zero
  shifted_grow : (s : Shifted) (k j : ℕ) (es u : List Sym) → s.left ≡ repeat i (suc k) [] → s.old ≡ Zero ∷ es →
      s.right ≡ repeat i j (Zero ∷ u) → (w : State) × Goes m (at (shifted s)) (at w)
  shifted_grow s k j es u el ee er =
      let vl : val s.left ≡ val (repeat i (suc k) []) = ap val el in
      let fl : full s.left ≡ full (repeat i (suc k) []) = ap full el in
      let ve : val s.old ≡ val (Zero ∷ es) = ap val ee in
      let fe : full s.old ≡ 2 * full es = ap full ee in
      let sl : scaled s.left (full s.old) ≡ scaled (repeat i (suc k) []) (2 * full es) =
      ap (λ x. scaled x (full s.old)) el ∙ ap (scaled (repeat i (suc k) [])) fe in
      let vr : val s.right ≡ val (repeat i j (Zero ∷ u)) = ap val er in
      let fr : full s.right ≡ full (repeat i j (Zero ∷ u)) = ap full er in
      let a = s.top in
      let b = s.right_top in
      let c = s.room in (
        shifted (record {
          shift = s.shift;
          left = repeat o (suc k) (One ∷ []);
          old = es;
          right = repeat o j (One ∷ u);
          long = keeps s.shift (omega (arith, full_grow (suc k), full_pos (repeat i k [])));
          top = omega arith;
          right_top = omega (arith, val_inc j u, full_inc j u);
          room = omega (
            arith,
            val_grow (suc k),
            val_ones (suc k),
            val_inc j u,
            full_inc j u,
            scaled_grow (suc k) (full es),
          );
        }),
        same m (ap (λ x. zipper_of (beyond s.shift s.old) x s.right) el
            ∙ ap (λ x. zipper_of (beyond s.shift x) (repeat i (suc k) []) s.right) ee
            ∙ ap (zipper_of (beyond s.shift (Zero ∷ es)) (repeat i (suc k) [])) er) ⨾⁺ grows s.shift k j es u,
      )
    where
      keeps : (shift : Shift) → 4 ≤ full (repeat o (suc k) (One ∷ [])) → Long shift (repeat o (suc k) (One ∷ []))
      keeps Near h = omega arith
      keeps Far h = h

  eats_two : (shift : Shift) (k : ℕ) → Long shift (repeat i (suc k) []) → 2 ≤ val (eats shift k)
  eats_two Near k long = two_near k
  eats_two Far zero long = absurd (omega arith)
  eats_two Far (suc k) long = two_far (suc k) (omega arith)

  -- or one
  shifted_eat : (s : Shifted) (k : ℕ) (es : List Sym) → s.left ≡ repeat i (suc k) [] → s.old ≡ One ∷ es →
      (w : State) × Goes m (at (shifted s)) (at w)
  shifted_eat s k es el ee = go es ee
    where
      two : 2 ≤ val (eats s.shift k)
      two = eats_two s.shift k (subst (Long s.shift) el s.long)

      goes : (f : List Sym) → s.old ≡ One ∷ f →
          Goes m (at (shifted s)) (zipper_of (beyond Near f) (One ∷ []) (eats s.shift k ++ s.right))
      goes f ef =
          same m (ap (λ x. zipper_of (beyond s.shift s.old) x s.right) el
          ∙ ap (λ x. zipper_of (beyond s.shift x) (repeat i (suc k) []) s.right) ef) ⨾⁺ eat s.shift k f s.right

      go : (f : List Sym) → s.old ≡ One ∷ f → (w : State) × Goes m (at (shifted s)) (at w)
      go [] ef =
          let a = s.right_top in (
            plain (record {
              left = One ∷ [];
              right = eats s.shift k ++ s.right;
              top = omega arith;
              low = omega (
                arith,
                two,
                val_append (eats s.shift k) s.right,
                full_append (eats s.shift k) s.right,
                scaled_top (eats s.shift k) (val s.right) (full s.right) a,
              );
            }),
            goes [] ef,
          )
      go (d ∷ f) ef =
          let fe : full s.old ≡ 2 * full (d ∷ f) = ap full ef in
          let ve : val s.old ≡ val (One ∷ d ∷ f) = ap val ef in
          let sl : scaled s.left (full s.old) ≡ scaled s.left (2 * full (d ∷ f)) = ap (scaled s.left) fe in
          let a = s.right_top in
          let b = s.top in
          let c = s.room in
          let big : full (d ∷ f) ≤ 2 * val (d ∷ f) = omega arith in
          let vl : val s.left + 1 ≤ full s.left = val_below s.left in
          let twice : scaled s.left (2 * full (d ∷ f)) ≡ 2 * scaled s.left (full (d ∷ f)) =
          scaled_twice s.left (full (d ∷ f)) in
          let more : val s.left + full (d ∷ f) ≤ scaled s.left (full (d ∷ f)) =
          scaled_val s.left (full (d ∷ f)) (omega (arith, full_pos f)) in
          let free : val s.right + (1 + full (d ∷ f)) ≤ full s.right = omega arith in (
            shifted (record {
              shift = Near;
              left = One ∷ [];
              old = d ∷ f;
              right = eats s.shift k ++ s.right;
              long = omega arith;
              top = big;
              right_top = omega (
                arith,
                val_append (eats s.shift k) s.right,
                full_append (eats s.shift k) s.right,
                scaled_top (eats s.shift k) (val s.right) (full s.right) a,
              );
              room = omega (
                arith,
                val_append (eats s.shift k) s.right,
                full_append (eats s.shift k) s.right,
                scaled_room (eats s.shift k) (val s.right) (1 + full (d ∷ f)) (full s.right) free (omega arith),
              );
            }),
            goes (d ∷ f) ef,
          )

  -- the cases: the left counter has a zero, or is ones alone; the next older digit is zero or one
  shifted_step : (s : Shifted) → (w : State) × Goes m (at (shifted s)) (at w)
  shifted_step s =
      elim (look s.left) [
        | inl h ↦
            elim (look s.right) [
              | inl g ↦ shifted_inc s h.0 g.0 h.1 g.1 h.2 g.2
              | inr g ↦ absurd (has_room s.left s.old s.right g.0 s.top s.room g.1)
            ]
        | inr h ↦ ones h.0 h.1
      ]
    where
      short : (shift : Shift) → Long shift [] → ⊥
      short Near h = omega arith
      short Far h = omega arith

      by : (k : ℕ) (es : List Sym) → s.left ≡ repeat i (suc k) [] → s.old ≡ es →
          (w : State) × Goes m (at (shifted s)) (at w)
      by k [] el ee =
          let a = s.top in
          let f : full s.old ≡ 1 = ap full ee in
          let v : val s.old ≡ 0 = ap val ee in
          absurd (omega arith)
      by k (Zero ∷ es) el ee =
          elim (look s.right) [
            | inl g ↦ shifted_grow s k g.0 es g.1 el ee g.2
            | inr g ↦ absurd (has_room s.left s.old s.right g.0 s.top s.room g.1)
          ]
      by k (One ∷ es) el ee = shifted_eat s k es el ee

      ones : (k : ℕ) → s.left ≡ repeat i k [] → (w : State) × Goes m (at (shifted s)) (at w)
      ones zero el = absurd (short s.shift (subst (Long s.shift) el s.long))
      ones (suc k) el = by k s.old el refl

  -- a plain state whose left counter has its first zero behind k ones
  module _ (s : Plain) (k : ℕ) (t : List Sym) (cells : SameCells (digits s.left oo) (digits (repeat i k (Zero ∷ t)) oo))
      (value : val s.left ≡ val (repeat i k (Zero ∷ t)))
      (next_top : full (repeat o k (One ∷ t)) ≤ 2 * val (repeat o k (One ∷ t))) where
    alike : (r : List Sym) → s.right ≡ r → Comes m (at (plain s)) (zipper_of (beyond Near []) (repeat i k (Zero ∷ t)) r)
    alike r e =
        same_left m q _ _ (digits (repeat i k (Zero ∷ t)) oo) cells ⨾
        same m (ap (zipper_of (beyond Near []) (repeat i k (Zero ∷ t))) e)

    -- both counters go on
    plain_inc : (j : ℕ) (u : List Sym) → s.right ≡ repeat i j (Zero ∷ u) → (w : State) × Goes m (at (plain s)) (at w)
    plain_inc j u er =
        let vr : val s.right ≡ val (repeat i j (Zero ∷ u)) = ap val er in
        let fr : full s.right ≡ full (repeat i j (Zero ∷ u)) = ap full er in
        let a = s.low in (
          plain (record {
            left = repeat o k (One ∷ t);
            right = repeat o j (One ∷ u);
            top = next_top;
            low = omega (arith, val_inc k t, val_inc j u, full_inc j u);
          }),
          alike (repeat i j (Zero ∷ u)) er ⨾⁺ both (beyond Near []) k j t u,
        )

  -- the right counter is ones alone
  plain_over : (s : Plain) (k : ℕ) (t : List Sym) → SameCells (digits s.left oo) (digits (repeat i k (Zero ∷ t)) oo) →
      val s.left ≡ val (repeat i k (Zero ∷ t)) → full (repeat o k (One ∷ t)) ≤ 2 * val (repeat o k (One ∷ t)) →
      (w : ℕ) → s.right ≡ repeat i w [] → (v : State) × Goes m (at (plain s)) (at v)
  plain_over s k t cells value next_top zero er =
      let vr : val s.right ≡ 0 = ap val er in
      let a = s.low in
      absurd (omega arith)
  plain_over s k t cells value next_top (suc zero) er =
      let vr : val s.right ≡ 1 = ap val er in
      let fr : full s.right ≡ 2 = ap full er in
      let a = s.low in
      let b = s.top in
      absurd (omega (arith, full_pos s.left))
  plain_over s zero [] cells value next_top (suc (suc w)) er =
      let a = s.top in
      absurd (omega (arith, full_pos s.left))
  plain_over s zero (d ∷ t) cells value next_top (suc (suc w)) er =
      let vr : val s.right ≡ val (repeat i (suc (suc w)) []) = ap val er in
      let fr : full s.right ≡ full (repeat i (suc (suc w)) []) = ap full er in
      let a = s.low in (
        shifted (record {
          shift = Near;
          left = One ∷ [];
          old = d ∷ t;
          right = One ∷ repeat o (suc w) (One ∷ []);
          long = omega arith;
          top = omega arith;
          right_top = omega (arith, val_grow w, full_grow w);
          room = omega (arith, val_grow w, full_grow w, val_ones w);
        }),
        alike s zero (d ∷ t) cells value next_top (repeat i (suc (suc w)) []) er ⨾⁺ overflow_near (suc w) (d ∷ t),
      )
  plain_over s (suc k) t cells value next_top (suc (suc w)) er =
      let vr : val s.right ≡ val (repeat i (suc (suc w)) []) = ap val er in
      let fr : full s.right ≡ full (repeat i (suc (suc w)) []) = ap full er in
      let a = s.low in
      let less : full (repeat o (suc k) (One ∷ t)) < full (repeat i (suc (suc w)) []) =
      omega (arith, val_inc (suc k) t, val_ones w) in
      let gap = full_gap (repeat o (suc k) (One ∷ t)) (repeat i (suc (suc w)) []) less in (
        shifted (record {
          shift = Far;
          left = Zero ∷ One ∷ [];
          old = repeat o k (One ∷ t);
          right = One ∷ repeat o w (One ∷ []);
          long = omega arith;
          top = omega arith;
          right_top = omega (arith, val_grow w, full_grow w);
          room = omega (arith, gap, val_grow w, full_grow w, val_ones w);
        }),
        alike s (suc k) t cells value next_top (repeat i (suc (suc w)) []) er ⨾⁺ overflow_far k w t,
      )

  -- the cases: the right counter has a zero, or is ones alone
  plain_step : (s : Plain) → (w : State) × Goes m (at (plain s)) (at w)
  plain_step s =
      let (k, t, cells, value, next_top) = first_zero s.left s.top in
      elim (look s.right) [
        | inl g ↦ plain_inc s k t cells value next_top g.0 g.1 g.2
        | inr g ↦ plain_over s k t cells value next_top g.0 g.1
      ]

  onward : (s : State) → (w : State) × Goes m (at s) (at w)
  onward (plain s) = plain_step s
  onward (shifted s) = shifted_step s

  -- from a plain state on, it goes on for ever
  pub shifts_never : (l r : List Sym) → full l ≤ 2 * val l → (2 * val l + full r) + 2 ≤ 2 * val r →
      Comes m blank_zipper (AtLeft (digits l oo) q (Zero ∷ p ++ pairs r [])) → Never m
  shifts_never l r top low begin =
      never_by_rules m State at (plain (record { left = l; right = r; top = top; low = low })) begin onward
