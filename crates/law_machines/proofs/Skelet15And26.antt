-- What Skelet 15 and 26 have in common: Skelet 15 is the mirror image of Skelet 26 under other names of the states, and
-- begins in another one, the state E of Skelet 26. So here the states are numbers: a at the turns, b that clears, c
-- that comes back from an overflow, and e that goes right over ones. Both machines are shift overflow counters
-- (ShiftCounters has the drawing and the invariant, ShiftTapes the rules that make it), and have these rules, with the
-- word p empty:
--
--     inc        x b> 0 (11)^n 10 y          -> x <a 0 (10)^n 11 y               4 n + 5 steps
--     over       x b> 0 (11)^(w + 1) $       -> x <c 1 (01)^(w + 1) 1 $          4 w + 7
--     eat_near   x 01001 (0001)^k <a 0 y     -> x 1 <a 0 11 (10)^(2 k) 11 y      12 k + 18
--     eat_far    x 011 (0001)^k <a 0 y       -> x 1 <a 0 (10)^(2 k) 11 y         12 k + 8
--     first      x b> 01 (01)^(w + 1) 1 $    -> x <a 0 11 (10)^w 11 $            5
use Rattle.std.proofs.Common.{ℕ, suc, ◌+◌, ◌*◌, ◌≤◌, List, [], ◌∷◌, ◌++◌, sym, ◌∙◌, ap, arith}
use Rattle.machine_text.specs.declared.table.Sym.{Sym}
use Rattle.machine_text.specs.declared.table.Sym.TheVariants.{Zero, One}
use Rattle.law_turing.specs.Terms.{Machine, Never}
use Rattle.law_machines.specs.Zipper.{AtLeft, AtRight, blank_zipper, Comes, Goes, repeat}
use Rattle.law_machines.proofs.RuleLaws.{same, weakened, ◌⨾◌, ◌⨾⁺◌, ◌⁺⨾◌, repeat_turned, sweep_right, sweep_left}
use Rattle.law_machines.proofs.DigitLists.{i, ii, io, oi, oooo, iooo, iiii, twice, val, full, full_pos, val_grow, pairs, pairs_repeat}
use Rattle.law_machines.proofs.ShiftTapes.{fours, by, by_pairs, by_twice, tapes_never}

-- the moves that these rules are made of, each a few steps of the machine
pub record Moves (m : Machine) (a b c e : ℕ) : Type 0 where
  -- x 0001 <a y -> x <a 1111 y
  pub carry : (x y : List Sym) → Comes m (AtLeft (iooo ++ x) a y) (AtLeft x a (iiii ++ y))
  -- x b> 1111 y -> x 0000 b> y
  pub clear : (x y : List Sym) → Comes m (AtRight x b (iiii ++ y)) (AtRight (oooo ++ x) b y)
  -- x e> 11 y -> x 11 e> y
  pub cross : (x y : List Sym) → Comes m (AtRight x e (ii ++ y)) (AtRight (ii ++ x) e y)
  -- x 11 <a y -> x <a 01 y
  pub back : (x y : List Sym) → Comes m (AtLeft (ii ++ x) a y) (AtLeft x a (oi ++ y))
  -- x 0 <a y -> x 1 b> y
  pub turn : (x y : List Sym) → Goes m (AtLeft (Zero ∷ x) a y) (AtRight (One ∷ x) b y)
  -- x b> 0 y -> x 1 e> y
  pub enter : (x y : List Sym) → Comes m (AtRight x b (Zero ∷ y)) (AtRight (One ∷ x) e y)
  -- x e> 10 y -> x 1 <a 1 y
  pub meet : (x y : List Sym) → Comes m (AtRight x e (One ∷ Zero ∷ y)) (AtLeft (One ∷ x) a (One ∷ y))
  -- x e> $ -> x <a 1 $
  pub meet_end : (x : List Sym) → Comes m (AtRight x e []) (AtLeft x a (One ∷ []))
  -- x 1 <a y -> x <c 1 y
  pub leave : (x y : List Sym) → Comes m (AtLeft (One ∷ x) a y) (AtLeft x c (One ∷ y))
  -- x 01 <c y -> x 1 b> 0 y
  pub turn_near : (x y : List Sym) → Comes m (AtLeft (One ∷ Zero ∷ x) c y) (AtRight (One ∷ x) b (Zero ∷ y))
  -- x 0000 <c 1 y -> x 1 0000 b> y
  pub turn_far : (x y : List Sym) → Comes m (AtLeft (oooo ++ x) c (One ∷ y)) (AtRight (oooo ++ One ∷ x) b y)
  -- x 01001 <a y -> x 01 e> 111 y
  pub meet_near : (x y : List Sym) →
      Goes m (AtLeft (One ∷ Zero ∷ Zero ∷ One ∷ Zero ∷ x) a y) (AtRight (One ∷ Zero ∷ x) e (One ∷ One ∷ One ∷ y))
  -- x 011 <a y -> x 1 b> 01 y
  pub meet_far : (x y : List Sym) → Goes m (AtLeft (One ∷ One ∷ Zero ∷ x) a y) (AtRight (One ∷ x) b (Zero ∷ One ∷ y))

module _ (m : Machine) (a b c e : ℕ) (r : Moves m a b c e) where
  carry : (n : ℕ) (x y : List Sym) → Comes m (AtLeft (repeat iooo n x) a y) (AtLeft x a (repeat iiii n y))
  carry = sweep_left m a iooo iiii r.carry

  clear : (n : ℕ) (x y : List Sym) → Comes m (AtRight x b (repeat iiii n y)) (AtRight (repeat oooo n x) b y)
  clear = sweep_right m b iiii oooo r.clear

  cross : (n : ℕ) (x y : List Sym) → Comes m (AtRight x e (repeat ii n y)) (AtRight (repeat ii n x) e y)
  cross = sweep_right m e ii ii r.cross

  back : (n : ℕ) (x y : List Sym) → Comes m (AtLeft (repeat ii n x) a y) (AtLeft x a (repeat oi n y))
  back = sweep_left m a ii oi r.back

  inc : (n : ℕ) (x y : List Sym) →
      Comes m (AtRight x b (Zero ∷ repeat ii n (One ∷ Zero ∷ y))) (AtLeft x a (Zero ∷ repeat io n (One ∷ One ∷ y)))
  inc n x y =
      r.enter x (repeat ii n (One ∷ Zero ∷ y)) ⨾
      cross n (One ∷ x) (One ∷ Zero ∷ y) ⨾
      r.meet (repeat ii n (One ∷ x)) y ⨾
      same m (ap (λ z. AtLeft (One ∷ z) a (One ∷ y)) (repeat_turned One One n x)) ⨾
      back (suc n) x (One ∷ y) ⨾
      same m (ap (λ z. AtLeft x a (Zero ∷ z)) (sym (repeat_turned One Zero n (One ∷ y))))

  over : (w : ℕ) (x : List Sym) → Comes m (AtRight x b (Zero ∷ repeat ii (suc w) []))
      (AtLeft x c (One ∷ repeat oi (suc w) (One ∷ [])))
  over w x =
      r.enter x (repeat ii (suc w) []) ⨾
      cross (suc w) (One ∷ x) [] ⨾
      r.meet_end (repeat ii (suc w) (One ∷ x)) ⨾
      back (suc w) (One ∷ x) (One ∷ []) ⨾
      r.leave x (repeat oi (suc w) (One ∷ []))

  eat_near : (k : ℕ) (x y : List Sym) →
      Goes m (AtLeft (repeat iooo k (One ∷ Zero ∷ Zero ∷ One ∷ Zero ∷ x)) a (Zero ∷ y))
      (AtLeft (One ∷ x) a (Zero ∷ pairs (One ∷ by (twice k)) y))
  eat_near k x y =
      carry k (One ∷ Zero ∷ Zero ∷ One ∷ Zero ∷ x) (Zero ∷ y) ⨾⁺
      r.meet_near x (repeat iiii k (Zero ∷ y)) ⁺⨾
      same m (ap (λ z. AtRight (One ∷ Zero ∷ x) e (One ∷ One ∷ One ∷ z)) (fours k (Zero ∷ y))
      ∙ ap (λ z. AtRight (One ∷ Zero ∷ x) e (One ∷ One ∷ z)) (sym (repeat_turned One One (twice k) (Zero ∷ y)))) ⨾
      cross (suc (twice k)) (One ∷ Zero ∷ x) (One ∷ Zero ∷ y) ⨾
      r.meet (repeat ii (suc (twice k)) (One ∷ Zero ∷ x)) y ⨾
      same m (ap (λ z. AtLeft (One ∷ One ∷ One ∷ z) a (One ∷ y)) (repeat_turned One One (twice k) (Zero ∷ x))) ⨾
      back (suc (suc (twice k))) (Zero ∷ x) (One ∷ y) ⨾
      weakened (r.turn x (repeat oi (suc (suc (twice k))) (One ∷ y))) ⨾
      inc 0 (One ∷ x) (One ∷ repeat oi (twice k) (One ∷ y)) ⨾
      same m (ap (λ z. AtLeft (One ∷ x) a (Zero ∷ One ∷ One ∷ z))
      (sym (repeat_turned One Zero (twice k) (One ∷ y)) ∙ sym (pairs_repeat Zero (twice k) (One ∷ []) y)))

  eat_far : (k : ℕ) (x y : List Sym) →
      Goes m (AtLeft (repeat iooo k (One ∷ One ∷ Zero ∷ x)) a (Zero ∷ y))
      (AtLeft (One ∷ x) a (Zero ∷ pairs (by (twice k)) y))
  eat_far k x y =
      carry k (One ∷ One ∷ Zero ∷ x) (Zero ∷ y) ⨾⁺
      r.meet_far x (repeat iiii k (Zero ∷ y)) ⁺⨾
      same m (ap (λ z. AtRight (One ∷ x) b (Zero ∷ One ∷ z)) (fours k (Zero ∷ y))
      ∙ ap (λ z. AtRight (One ∷ x) b (Zero ∷ z)) (sym (repeat_turned One One (twice k) (Zero ∷ y)))) ⨾
      inc (twice k) (One ∷ x) y ⨾
      by_pairs m a (twice k) (One ∷ x) y

  first : (w : ℕ) (x : List Sym) →
      Comes m (AtRight x b (Zero ∷ One ∷ repeat oi (suc w) (One ∷ [])))
      (AtLeft x a (Zero ∷ One ∷ One ∷ repeat io w (One ∷ One ∷ [])))
  first w x =
      inc 0 x (One ∷ repeat oi w (One ∷ [])) ⨾
      same m (ap (λ z. AtLeft x a (Zero ∷ One ∷ One ∷ z)) (sym (repeat_turned One Zero w (One ∷ []))))

  -- from a right counter on
  pub counts_never : (right : List Sym) → full right + 4 ≤ 2 * val right →
      Comes m blank_zipper (AtLeft i a (Zero ∷ pairs right [])) → Never m
  counts_never right low begin =
      tapes_never m a b c []
      (λ w. repeat oi w (One ∷ [])) carry clear r.turn inc over r.turn_near r.turn_far first first
      (λ k. One ∷ by (twice k)) (λ k. by (twice k)) eat_near eat_far two by_twice right low begin
    where
      two : (k : ℕ) → 2 ≤ val (One ∷ by (twice k))
      two k = omega (arith, val_grow (twice k), full_pos (repeat i (twice k) []))
