-- The rules of a shift overflow counter on its tape, from simpler ones. The state a, drawn as A, is that of the turns,
-- b goes right to clear a carry, and c comes back from an overflow. The word p stands between the head and the right
-- counter, and an overflow leaves `rest w` of that. Read from left to right:
--
--     carry       x (0001)^n <A y            -> x <A (1111)^n y
--     clear       x B> (1111)^n y            -> x (0000)^n B> y
--     turn        x 0 <A y                   -> x 1 B> y                                at least one step
--     inc         x B> 0 p (11)^n 10 y       -> x <A 0 p (10)^n 11 y
--     over        x B> 0 p (11)^(w + 1) $    -> x <C 101 rest w
--     turn_near   x 01 <C y                  -> x 1 B> 0 y
--     turn_far    x 0000 <C 1 y              -> x 1 0000 B> y
--     first_near  x B> 0101 rest w           -> x <A 0 p 11 (10)^w 11 $
--     first_far   x B> 01 rest (w + 1)       -> x <A 0 p 11 (10)^w 11 $
use Rattle.std.proofs.Common.{◌≡◌, ℕ, zero, suc, ◌+◌, ◌*◌, ◌≤◌, List, [], ◌∷◌, ◌++◌, sym, ap, refl, arith}
use Rattle.machine_text.specs.declared.table.Sym.{Sym}
use Rattle.machine_text.specs.declared.table.Sym.TheVariants.{Zero, One}
use Rattle.law_turing.specs.Terms.{Machine, Never}
use Rattle.law_machines.specs.Zipper.{AtLeft, AtRight, blank_zipper, Comes, Goes, repeat}
use Rattle.law_machines.proofs.RuleLaws.{same, ◌⨾◌, ◌⨾⁺◌, ◌⁺⨾◌, same_blank, same_word, same_left}
use Rattle.law_machines.proofs.DigitLists.{o, i, oo, ii, io, oooo, iooo, iiii, twice, val, full, full_pos, val_grow, pairs, pairs_repeat, same_zero}
use Rattle.law_machines.proofs.ShiftCounters.{shifts_never}

-- n fours are 2 n pairs
pub fours : (n : ℕ) (l : List Sym) → repeat iiii n l ≡ repeat ii (twice n) l
fours zero l = refl
fours (suc n) l = ap (λ x. iiii ++ x) (fours n l)

-- digits that come where one is eaten: n zeros and a one
abbrev pub by : ℕ → List Sym
by n = repeat o n (One ∷ [])

pub by_two : (n : ℕ) → 1 ≤ n → 2 ≤ val (by n)
by_two zero some = absurd (omega arith)
by_two (suc n) some = omega (arith, val_grow n, full_pos (repeat i n []))

pub by_pairs : (m : Machine) (a n : ℕ) (x y : List Sym) →
    Comes m (AtLeft x a (Zero ∷ repeat io n (One ∷ One ∷ y))) (AtLeft x a (Zero ∷ pairs (by n) y))
by_pairs m a n x y = same m (ap (λ z. AtLeft x a (Zero ∷ z)) (sym (pairs_repeat Zero n (One ∷ []) y)))

pub by_twice : (k : ℕ) → 1 ≤ k → 2 ≤ val (by (twice k))
by_twice zero some = absurd (omega arith)
by_twice (suc k) some = by_two (suc (suc (twice k))) (omega arith)

module _ (m : Machine) (a b c : ℕ) (p : List Sym) (rest : ℕ → List Sym)
    (carry : (n : ℕ) (x y : List Sym) → Comes m (AtLeft (repeat iooo n x) a y) (AtLeft x a (repeat iiii n y)))
    (clear : (n : ℕ) (x y : List Sym) → Comes m (AtRight x b (repeat iiii n y)) (AtRight (repeat oooo n x) b y))
    (turn : (x y : List Sym) → Goes m (AtLeft (Zero ∷ x) a y) (AtRight (One ∷ x) b y))
    (inc : (n : ℕ) (x y : List Sym) →
    Comes m (AtRight x b (Zero ∷ p ++ repeat ii n (One ∷ Zero ∷ y)))
    (AtLeft x a (Zero ∷ p ++ repeat io n (One ∷ One ∷ y))))
    (over : (w : ℕ) (x : List Sym) → Comes m (AtRight x b (Zero ∷ p ++ repeat ii (suc w) []))
    (AtLeft x c (One ∷ Zero ∷ One ∷ rest w)))
    (turn_near : (x y : List Sym) → Comes m (AtLeft (One ∷ Zero ∷ x) c y) (AtRight (One ∷ x) b (Zero ∷ y)))
    (turn_far : (x y : List Sym) → Comes m (AtLeft (oooo ++ x) c (One ∷ y)) (AtRight (oooo ++ One ∷ x) b y))
    (first_near : (w : ℕ) (x : List Sym) →
    Comes m (AtRight x b (Zero ∷ One ∷ Zero ∷ One ∷ rest w))
    (AtLeft x a (Zero ∷ p ++ One ∷ One ∷ repeat io w (One ∷ One ∷ []))))
    (first_far : (w : ℕ) (x : List Sym) →
    Comes m (AtRight x b (Zero ∷ One ∷ rest (suc w)))
    (AtLeft x a (Zero ∷ p ++ One ∷ One ∷ repeat io w (One ∷ One ∷ [])))) where
  -- x 0 (0001)^k <A 0 p (11)^j 10 y -> x 1 (0000)^k <A 0 p (10)^j 11 y
  both : (k j : ℕ) (x y : List Sym) →
      Goes m (AtLeft (repeat iooo k (Zero ∷ x)) a (Zero ∷ p ++ repeat ii j (One ∷ Zero ∷ y)))
      (AtLeft (repeat oooo k (One ∷ x)) a (Zero ∷ p ++ repeat io j (One ∷ One ∷ y)))
  both k j x y =
      carry k (Zero ∷ x) (Zero ∷ p ++ repeat ii j (One ∷ Zero ∷ y)) ⨾⁺
      turn x (repeat iiii k (Zero ∷ p ++ repeat ii j (One ∷ Zero ∷ y))) ⁺⨾
      clear k (One ∷ x) (Zero ∷ p ++ repeat ii j (One ∷ Zero ∷ y)) ⨾
      inc j (repeat oooo k (One ∷ x)) y

  -- x 00 <A 0 p (11)^(w + 1) $ -> x 1 <A 0 p 11 (10)^w 11 $
  over_near : (w : ℕ) (x : List Sym) →
      Goes m (AtLeft (Zero ∷ Zero ∷ x) a (Zero ∷ p ++ repeat ii (suc w) []))
      (AtLeft (One ∷ x) a (Zero ∷ p ++ One ∷ One ∷ repeat io w (One ∷ One ∷ [])))
  over_near w x =
      turn (Zero ∷ x) (Zero ∷ p ++ repeat ii (suc w) []) ⁺⨾
      over w (One ∷ Zero ∷ x) ⨾
      turn_near x (One ∷ Zero ∷ One ∷ rest w) ⨾
      first_near w (One ∷ x)

  -- x 0 (0001)^(k + 1) <A 0 p (11)^(w + 2) $ -> x 1 (0000)^k 1 0000 <A 0 p 11 (10)^w 11 $
  over_far : (k w : ℕ) (x : List Sym) →
      Goes m (AtLeft (repeat iooo (suc k) (Zero ∷ x)) a (Zero ∷ p ++ repeat ii (suc (suc w)) []))
      (AtLeft (oooo ++ One ∷ repeat oooo k (One ∷ x)) a (Zero ∷ p ++ One ∷ One ∷ repeat io w (One ∷ One ∷ [])))
  over_far k w x =
      carry (suc k) (Zero ∷ x) (Zero ∷ p ++ repeat ii (suc (suc w)) []) ⨾⁺
      turn x (repeat iiii (suc k) (Zero ∷ p ++ repeat ii (suc (suc w)) [])) ⁺⨾
      clear (suc k) (One ∷ x) (Zero ∷ p ++ repeat ii (suc (suc w)) []) ⨾
      over (suc w) (repeat oooo (suc k) (One ∷ x)) ⨾
      turn_far (repeat oooo k (One ∷ x)) (Zero ∷ One ∷ rest (suc w)) ⨾
      first_far w (oooo ++ One ∷ repeat oooo k (One ∷ x))

  -- With two further rules, the digits that come where one is eaten, and a right counter r that the run begins with:
  --     eat_near  x 01001 (0001)^k <A 0 p y -> x 1 <A 0 p (the pairs of by_near k) y                  at least one step
  --     eat_far   x 011 (0001)^k <A 0 p y   -> x 1 <A 0 p (the pairs of by_far k) y                   at least one step
  --     the start $ -> $ 1 <A 0 p (the pairs of r) $
  pub tapes_never : (by_near by_far : ℕ → List Sym) →
      ((k : ℕ) (x y : List Sym) → Goes m (AtLeft (repeat iooo k (One ∷ Zero ∷ Zero ∷ One ∷ Zero ∷ x)) a (Zero ∷ p ++ y))
      (AtLeft (One ∷ x) a (Zero ∷ p ++ pairs (by_near k) y))) →
      ((k : ℕ) (x y : List Sym) → Goes m (AtLeft (repeat iooo k (One ∷ One ∷ Zero ∷ x)) a (Zero ∷ p ++ y))
      (AtLeft (One ∷ x) a (Zero ∷ p ++ pairs (by_far k) y))) →
      ((k : ℕ) → 2 ≤ val (by_near k)) → ((k : ℕ) → 1 ≤ k → 2 ≤ val (by_far k)) →
      (r : List Sym) → full r + 4 ≤ 2 * val r → Comes m blank_zipper (AtLeft i a (Zero ∷ p ++ pairs r [])) → Never m
  tapes_never by_near by_far eat_near eat_far two_near two_far r low begin =
      shifts_never m a p by_near by_far both eat_near eat_far over_near over_far two_near two_far (One ∷ []) r
      (omega arith) (omega arith)
      (begin ⨾ same_left m a i (Zero ∷ p ++ pairs r []) (i ++ Zero ∷ Zero ∷ [])
      (same_word i [] oo (same_zero (Zero ∷ []) same_blank)))
