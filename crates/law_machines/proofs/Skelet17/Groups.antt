-- Skelet 17 over lists of numbers: its rules on the tape, and what a tick does to a list.
--
--     cross       x (10)^(2 j) <C y           -> x <C (10)^(2 j) y               4 j steps
--     cross_odd   x (10)^(2 j + 1) <C y       -> x <B (10)^(2 j + 1) y           4 j + 2
--     b_right     x B> (10)^n y               -> x (10)^n B> y                   2 n
--     back        x 1 E> (10)^(a + 1) 1 y     -> x 10 1 (10)^a 1 E> y            2 a + 3
--     last        x 1 E> (10)^(a + 1) $       -> x 10 1 (10)^a B> $              2 a + 2
--
-- A visit of C to the left: C goes off, and E comes back behind a one, whatever stands to the right. From x to y it leads
-- from x <C r to y 1 E> r, for every r (Visits).
--
--     visit_odd   y 1 (10)^(2 j + 1) 1 <C r   -> y 10 1 (10)^(2 j) 1 E> r        8 j + 7
--     visit_even  x (10)^(2 j + 2) 1 <C r     -> y 10 1 (10)^(2 j + 1) 1 E> r    8 j + 10, and a visit from x to y
--     visit_over  $ (10)^(2 j) 1 <C r         -> $ 11 (10)^(2 j) 1 E> r          8 j + 5
--     visit_top   $ (10)^(2 j + 1) 1 <C r     -> $ 11 10 1 (10)^(2 j + 1) 1 E> r    8 j + 19
--
-- A tick, by the first group:
--
--     tick_odd    x 1 (10)^b 1 (10)^(2 j + 1) B> $    -> x 1 (10)^(b + 1) 1 (10)^(2 j) B> $
--     tick_even   x (10)^(2 j + 2) B> $               -> y 10 1 (10)^(2 j + 1) B> $      with a visit from x to y
--     tick_drop   x B> $                              -> y 10 B> $                       with a visit from x to y
use Rattle.std.proofs.Common.{◌≡◌, ℕ, zero, suc, ◌+◌, ◌-◌, ◌*◌, ◌≤◌, List, [], ◌∷◌, ◌++◌, sym, ap, subst, refl, arith}
use Rattle.machine_text.specs.declared.table.Sym.{Sym}
use Rattle.machine_text.specs.declared.table.Sym.TheVariants.{Zero, One}
use Rattle.machine_text.specs.Terms.{Packed, entry_of}
use Rattle.law_turing.specs.Terms.{Machine}
use Rattle.law_machines.specs.Zipper.{Zipper, AtLeft, AtRight, steps, Comes, Goes, repeat, SameCells}
use Rattle.law_machines.proofs.RuleLaws.{run, run⁺, stay, same, ◌⨾◌, ◌⁺⨾◌, repeat_last, repeat_swap, sweep_right, same_blank, same_right}
use Rattle.law_machines.proofs.DigitLists.{io, oi, twice, twice_is}

-- the table as it is stored
abbrev pub skelet17 : Packed
skelet17 = record { codes = 26 ∷ 0 ∷ 3 ∷ 29 ∷ 4 ∷ 19 ∷ 25 ∷ 18 ∷ 10 ∷ 9 ∷ 0 ∷ 0 ∷ 0 ∷ 0 ∷ []; states = 5 }

abbrev pub m : Machine
m = entry_of skelet17

-- the groups behind a one
abbrev pub tail : List ℕ → List Sym → List Sym
tail [] x = x
tail (a ∷ xs) x = One ∷ repeat oi a (tail xs x)

abbrev pub groups : ℕ → List ℕ → List Sym → Zipper
groups a xs x = AtRight (repeat oi a (tail xs x)) 1 []

-- C goes over an even group, and B comes of an odd one
cross : (j : ℕ) (l r : List Sym) → Comes m (AtLeft (repeat oi (twice j) l) 2 r) (AtLeft l 2 (repeat io (twice j) r))
unfolding entry_of steps
cross zero l r = stay m _
cross (suc j) l r =
    run m 4 (AtLeft (repeat oi (twice (suc j)) l) 2 r) (AtLeft (repeat oi (twice j) l) 2 (io ++ io ++ r)) refl ⨾
    cross j l (io ++ io ++ r) ⨾
    same m (ap (AtLeft l 2) (repeat_swap io (twice j) 2 r))

cross_odd : (j : ℕ) (l r : List Sym) → Comes m (AtLeft (repeat oi (suc (twice j)) l) 2 r)
    (AtLeft l 1 (repeat io (suc (twice j)) r))
unfolding entry_of steps
cross_odd j l r =
    same m (ap (λ x. AtLeft x 2 r) (sym (repeat_last oi (twice j) l))) ⨾
    cross j (oi ++ l) r ⨾
    run m 2 _ _ refl

b_right : (n : ℕ) (x y : List Sym) → Comes m (AtRight x 1 (repeat io n y)) (AtRight (repeat oi n x) 1 y)
unfolding entry_of steps
b_right = sweep_right m 1 io oi (λ x y. run m 2 _ _ refl)

-- E goes back over a group, and its one moves by two cells
back : (a : ℕ) (x r : List Sym) → Comes m (AtRight (One ∷ x) 4 (repeat io (suc a) (One ∷ r)))
    (AtRight (One ∷ repeat oi a (One ∷ oi ++ x)) 4 r)
unfolding entry_of steps
back a x r =
    run m 2 _ _ refl ⨾
    b_right a (One ∷ oi ++ x) (One ∷ r) ⨾
    run m 1 _ _ refl

no_blank : SameCells (Zero ∷ []) []
no_blank = record { cell = λ n. sym (same_blank.cell n) }

-- at the right end
last : (a : ℕ) (x : List Sym) → Comes m (AtRight (One ∷ x) 4 (repeat io (suc a) (Zero ∷ [])))
    (AtRight (repeat oi a (One ∷ oi ++ x)) 1 [])
unfolding entry_of steps
last a x =
    run m 2 _ _ refl ⨾
    b_right a (One ∷ oi ++ x) (Zero ∷ []) ⨾
    same_right m 1 (repeat oi a (One ∷ oi ++ x)) (Zero ∷ []) [] no_blank

-- C goes off to the left, and E comes back behind a one
pub record Visits (l y : List Sym) : Type 0 where
  pub visit : (r : List Sym) → Comes m (AtLeft l 2 r) (AtRight (One ∷ y) 4 r)

-- over an even group
pub visit_even : (j : ℕ) (l y : List Sym) → Visits l y → Visits (One ∷ repeat oi (twice (suc j)) l)
    (repeat oi (suc (twice j)) (One ∷ oi ++ y))
unfolding entry_of steps
visit_even j l y v = record {
  visit = λ r.
      run m 1 _ _ refl ⨾
      cross (suc j) l (One ∷ r) ⨾
      v.visit (repeat io (twice (suc j)) (One ∷ r)) ⨾
      back (suc (twice j)) y r;
}

-- up to an odd one
pub visit_odd : (j : ℕ) (y : List Sym) → Visits (One ∷ repeat oi (suc (twice j)) (One ∷ y))
    (repeat oi (twice j) (One ∷ oi ++ y))
unfolding entry_of steps
visit_odd j y = record {
  visit = λ r.
      run m 1 _ _ refl ⨾
      cross_odd j (One ∷ y) (One ∷ r) ⨾
      run m 1 _ _ refl ⨾
      back (twice j) y r;
}

-- up to the left end, where the last group is even or odd
pub visit_over : (j : ℕ) → Visits (One ∷ repeat oi (twice j) []) (repeat oi (twice j) (One ∷ One ∷ []))
unfolding entry_of steps
visit_over j = record {
  visit = λ r.
      run m 1 _ _ refl ⨾
      cross j [] (One ∷ r) ⨾
      run m 3 _ _ refl ⨾
      b_right (twice j) (One ∷ One ∷ []) (One ∷ r) ⨾
      run m 1 _ _ refl;
}

pub visit_top : (j : ℕ) → Visits (One ∷ repeat oi (suc (twice j)) [])
    (repeat oi (suc (twice j)) (One ∷ oi ++ One ∷ One ∷ []))
unfolding entry_of steps
visit_top j = record {
  visit = λ r.
      run m 1 _ _ refl ⨾
      cross_odd j [] (One ∷ r) ⨾
      run m 13 _ _ refl ⨾
      b_right (suc (twice j)) (One ∷ oi ++ One ∷ One ∷ []) (One ∷ r) ⨾
      run m 1 _ _ refl;
}

-- one tick: the first group is odd
pub tick_odd : (j b : ℕ) (bs : List ℕ) (x : List Sym) → Comes m (groups (suc (twice j)) (b ∷ bs) x)
    (groups (twice j) (suc b ∷ bs) x)
unfolding entry_of steps
tick_odd j b bs x =
    run m 1 (groups (suc (twice j)) (b ∷ bs) x)
    (AtLeft (repeat oi (suc (twice j)) (One ∷ repeat oi b (tail bs x))) 2 (Zero ∷ [])) refl ⨾
    cross_odd j (One ∷ repeat oi b (tail bs x)) (Zero ∷ []) ⨾
    run m 1 _ _ refl ⨾
    last (twice j) (repeat oi b (tail bs x))

-- the first group is even
pub tick_even : (j : ℕ) (xs : List ℕ) (x y : List Sym) → Visits (tail xs x) y →
    Comes m (groups (twice (suc j)) xs x) (AtRight (repeat oi (suc (twice j)) (One ∷ oi ++ y)) 1 [])
unfolding entry_of steps
tick_even j xs x y v =
    run m 1 (groups (twice (suc j)) xs x) (AtLeft (repeat oi (twice (suc j)) (tail xs x)) 2 (Zero ∷ [])) refl ⨾
    cross (suc j) (tail xs x) (Zero ∷ []) ⨾
    v.visit (repeat io (twice (suc j)) (Zero ∷ [])) ⨾
    last (suc (twice j)) y

-- the first group is empty, and is dropped
pub tick_drop : (xs : List ℕ) (x y : List Sym) → Visits (tail xs x) y → Goes m (groups 0 xs x) (AtRight (oi ++ y) 1 [])
unfolding entry_of steps
tick_drop xs x y v =
    run⁺ m 0 (groups 0 xs x) (AtLeft (tail xs x) 2 (Zero ∷ [])) refl ⁺⨾
    v.visit (Zero ∷ []) ⨾
    run m 1 _ _ refl

-- visits and ticks where numbers are known to be even or odd
pub over_odd : (a j : ℕ) → a ≡ suc (twice j) → (y : List Sym) →
    Visits (One ∷ repeat oi a (One ∷ y)) (repeat oi (twice j) (One ∷ oi ++ y))
over_odd a j e y = subst (λ n. Visits (One ∷ repeat oi n (One ∷ y)) (repeat oi (twice j) (One ∷ oi ++ y))) (sym e)
    (visit_odd j y)

pub over_even : (a j : ℕ) → a ≡ twice (suc j) → (l y : List Sym) → Visits l y →
    Visits (One ∷ repeat oi a l) (repeat oi (suc (twice j)) (One ∷ oi ++ y))
over_even a j e l y v = subst (λ n. Visits (One ∷ repeat oi n l) (repeat oi (suc (twice j)) (One ∷ oi ++ y))) (sym e)
    (visit_even j l y v)

pub over_end : (a j : ℕ) → a ≡ twice j → Visits (One ∷ repeat oi a []) (repeat oi (twice j) (One ∷ One ∷ []))
over_end a j e = subst (λ n. Visits (One ∷ repeat oi n []) (repeat oi (twice j) (One ∷ One ∷ []))) (sym e)
    (visit_over j)

pub over_top : (a j : ℕ) → a ≡ suc (twice j) →
    Visits (One ∷ repeat oi a []) (repeat oi (suc (twice j)) (One ∷ oi ++ One ∷ One ∷ []))
over_top a j e = subst (λ n. Visits (One ∷ repeat oi n []) (repeat oi (suc (twice j)) (One ∷ oi ++ One ∷ One ∷ [])))
    (sym e) (visit_top j)

pub at_odd : (a j b : ℕ) (bs : List ℕ) (x : List Sym) → suc a ≡ suc (twice j) →
    Comes m (groups (suc a) (b ∷ bs) x) (groups a (suc b ∷ bs) x)
at_odd a j b bs x e =
    let p : twice j ≡ a = omega arith in
    subst (λ n. Comes m (groups (suc n) (b ∷ bs) x) (groups n (suc b ∷ bs) x)) p (tick_odd j b bs x)

pub at_even : (a j c : ℕ) (xs r : List ℕ) (x y : List Sym) → suc a ≡ twice (suc j) →
    Visits (tail xs x) (repeat oi c (tail r y)) →
    Comes m (groups (suc a) xs x) (groups a (suc c ∷ r) y)
at_even a j c xs r x y e v =
    let p : suc (twice j) ≡ a = omega arith in
    subst (λ n. Comes m (groups (suc n) xs x) (groups n (suc c ∷ r) y)) p (tick_even j xs x (repeat oi c (tail r y)) v)

-- halves
pub odd_half : (x h k : ℕ) → x + 2 * h ≡ 2 * k + 1 → (j : ℕ) × (x ≡ suc (twice j))
odd_half x h k e = (k - h, omega (arith, twice_is (k - h)))

pub even_half : (x h k : ℕ) → x + 2 * h ≡ 2 * k → (j : ℕ) × (x ≡ twice j)
even_half x h k e = (k - h, omega (arith, twice_is (k - h)))

pub some_half : (x h k : ℕ) → x + 2 * h ≡ 2 * k → 1 ≤ x → (j : ℕ) × (x ≡ twice (suc j))
some_half x h k e some = (k - h - 1, omega (arith, twice_is (k - h - 1)))
