-- Skelet 33, 1RB1LC_0RC0RB_1LD0LA_1LE---_1LA1RE, never halts. It is a shift overflow counter; the pair that halts is
-- state D on a one.
--
--          0    1
--     A   1RB  1LC
--     B   0RC  0RB
--     C   1LD  0LA
--     D   1LE  ---
--     E   1LA  1RE
--
-- ShiftCounters draws the tape and says why such a counter never halts, and ShiftTapes which rules make one;
-- Skelet33To35 has those of its rules that other machines share. Between its head and its right counter stands one more
-- digit, which is always 0: the word p is 10. Its own rules, w, k and n any numbers:
--
--     cross     x E> (11)^n y                  -> x (11)^n E> y                        2 n steps
--     inc       x B> 0 10 (11)^n 10 y          -> x <A 0 10 (10)^n 11 y                4 n + 15
--     over      x B> 0 10 (11)^(w + 1) $       -> x <C 1 (01)^(w + 2) 1 $              4 w + 17
--     reach     x 01001 (0001)^k <A 0 y        -> x 1 B> (01)^(2 k + 2) 1 y            12 k + 13
--     eat_near  x 01001 (0001)^k <A 0 10 y     -> x 1 <A 0 10 q y
--     eat_far   x 011 (0001)^k <A 0 10 y       -> x 1 <A 0 10 (10)^(2 k) 11 y          20 k + 18
--     first     x B> 01 (01)^(w + 2) 1 $       -> x <A 0 10 11 (10)^w 11 $             15
--
-- where q is 10 11 for k = 0, and 11 (10)^(2 k - 1) 11 10 for any other k: the pairs of by_near k.
--
-- After 103 steps the run stands at $ 1 <A 0 10 10 11 11 11 $: left counter 1, right counter 0111, both with their
-- least digits nearest to the head. 14 >= 1 + 2^3 + 1, so the invariant holds.
use Rattle.std.proofs.Common.{ℕ, zero, suc, ◌≤◌, List, [], ◌∷◌, ◌++◌, sym, ◌∙◌, ap, refl, arith}
use Rattle.machine_text.specs.declared.table.Sym.{Sym}
use Rattle.machine_text.specs.declared.table.Sym.TheVariants.{Zero, One}
use Rattle.machine_text.specs.Terms.{Packed, entry_of}
use Rattle.law_turing.specs.Terms.{Machine, Never}
use Rattle.law_machines.specs.Zipper.{AtLeft, AtRight, blank_zipper, steps, Comes, Goes, repeat}
use Rattle.law_machines.proofs.RuleLaws.{run, run⁺, same, ◌⨾◌, ◌⨾⁺◌, ◌⁺⨾◌, repeat_turned, sweep_right}
use Rattle.law_machines.proofs.DigitLists.{o, i, ii, io, oi, iooo, twice, val, val_inc, pairs, pairs_repeat}
use Rattle.law_machines.proofs.ShiftTapes.{fours, by, by_twice, tapes_never}
use Rattle.law_machines.proofs.Skelet33To35.{table, carry, clear, forth, back, turn, turn_near, turn_far}

abbrev pub skelet33 : Packed
skelet33 = table 29

abbrev m : Machine
m = entry_of skelet33

cross : (n : ℕ) (x y : List Sym) → Comes m (AtRight x 4 (repeat ii n y)) (AtRight (repeat ii n x) 4 y)
unfolding entry_of steps
cross = sweep_right m 4 ii ii (λ x y. run m 2 _ _ refl)

inc : (n : ℕ) (x y : List Sym) →
    Comes m (AtRight x 1 (Zero ∷ io ++ repeat ii n (One ∷ Zero ∷ y)))
    (AtLeft x 0 (Zero ∷ io ++ repeat io n (One ∷ One ∷ y)))
unfolding entry_of steps
inc n x y =
    run m 7 _ _ refl ⨾
    cross (suc n) (One ∷ x) (One ∷ Zero ∷ y) ⨾
    run m 2 _ _ refl ⨾
    same m (ap (λ z. AtLeft (One ∷ z) 0 (One ∷ y)) (repeat_turned One One (suc n) x)) ⨾
    back 29 (suc (suc n)) x (One ∷ y) ⨾
    same m (ap (λ z. AtLeft x 0 (Zero ∷ z)) (sym (repeat_turned One Zero (suc n) (One ∷ y))))

over : (w : ℕ) (x : List Sym) → Comes m (AtRight x 1 (Zero ∷ io ++ repeat ii (suc w) []))
    (AtLeft x 2 (One ∷ repeat oi (suc (suc w)) (One ∷ [])))
unfolding entry_of steps
over w x =
    run m 7 _ _ refl ⨾
    cross (suc (suc w)) (One ∷ x) [] ⨾
    run m 1 _ _ refl ⨾
    back 29 (suc (suc w)) (One ∷ x) (One ∷ []) ⨾
    run m 1 _ _ refl

-- the digits that come where a near one is eaten
abbrev by_near : ℕ → List Sym
by_near zero = Zero ∷ One ∷ []
by_near (suc k) = One ∷ Zero ∷ repeat o (twice k) (One ∷ Zero ∷ [])

-- behind an older digit one, before the right counter is counted up
reach : (k : ℕ) (x y : List Sym) →
    Goes m (AtLeft (repeat iooo k (One ∷ Zero ∷ Zero ∷ One ∷ Zero ∷ x)) 0 (Zero ∷ y))
    (AtRight (One ∷ x) 1 (repeat oi (suc (suc (twice k))) (One ∷ y)))
unfolding entry_of steps
reach k x y =
    carry 29 k (One ∷ Zero ∷ Zero ∷ One ∷ Zero ∷ x) (Zero ∷ y) ⨾⁺
    run⁺ m 3 _ _ refl ⁺⨾
    same m (ap (λ z. AtRight (One ∷ Zero ∷ x) 4 (One ∷ One ∷ One ∷ z)) (fours k (Zero ∷ y))
    ∙ ap (λ z. AtRight (One ∷ Zero ∷ x) 4 (One ∷ One ∷ z)) (sym (repeat_turned One One (twice k) (Zero ∷ y)))) ⨾
    cross (suc (twice k)) (One ∷ Zero ∷ x) (One ∷ Zero ∷ y) ⨾
    run m 2 _ _ refl ⨾
    same m (ap (λ z. AtLeft (One ∷ One ∷ One ∷ z) 0 (One ∷ y)) (repeat_turned One One (twice k) (Zero ∷ x))) ⨾
    back 29 (suc (suc (twice k))) (Zero ∷ x) (One ∷ y) ⨾
    run m 1 _ _ refl

eat_near : (k : ℕ) (x y : List Sym) →
    Goes m (AtLeft (repeat iooo k (One ∷ Zero ∷ Zero ∷ One ∷ Zero ∷ x)) 0 (Zero ∷ io ++ y))
    (AtLeft (One ∷ x) 0 (Zero ∷ io ++ pairs (by_near k) y))
eat_near zero x y = reach zero x (io ++ y) ⁺⨾ inc 1 (One ∷ x) y
eat_near (suc k) x y =
    reach (suc k) x (io ++ y) ⁺⨾
    inc 0 (One ∷ x) (One ∷ Zero ∷ One ∷ repeat oi (twice k) (One ∷ io ++ y)) ⨾
    same m (ap (λ z. AtLeft (One ∷ x) 0 (Zero ∷ io ++ ii ++ io ++ z))
    (sym (repeat_turned One Zero (twice k) (One ∷ io ++ y)) ∙ sym (pairs_repeat Zero (twice k) (One ∷ Zero ∷ []) y)))

eat_far : (k : ℕ) (x y : List Sym) →
    Goes m (AtLeft (repeat iooo k (One ∷ One ∷ Zero ∷ x)) 0 (Zero ∷ io ++ y))
    (AtLeft (One ∷ x) 0 (Zero ∷ io ++ pairs (by (twice k)) y))
unfolding entry_of steps
eat_far k x y =
    carry 29 k (One ∷ One ∷ Zero ∷ x) (Zero ∷ io ++ y) ⨾⁺
    run⁺ m 3 _ _ refl ⁺⨾
    same m (ap (λ z. AtRight (Zero ∷ One ∷ x) 2 (One ∷ z)) (fours k (Zero ∷ io ++ y))
    ∙ ap (AtRight (Zero ∷ One ∷ x) 2) (sym (repeat_turned One One (twice k) (Zero ∷ io ++ y)))) ⨾
    forth 29 (twice k) (One ∷ x) (One ∷ Zero ∷ io ++ y) ⨾
    run m 10 _ _ refl ⨾
    back 29 (suc (suc (twice k))) (One ∷ x) (One ∷ y) ⨾
    same m (ap (λ z. AtLeft (One ∷ x) 0 (Zero ∷ io ++ z)) (sym (repeat_turned One Zero (twice k) (One ∷ y))
    ∙ sym (pairs_repeat Zero (twice k) (One ∷ []) y)))

-- behind an overflow
first : (w : ℕ) (x : List Sym) →
    Comes m (AtRight x 1 (Zero ∷ One ∷ repeat oi (suc (suc w)) (One ∷ [])))
    (AtLeft x 0 (Zero ∷ io ++ One ∷ One ∷ repeat io w (One ∷ One ∷ [])))
first w x =
    inc 0 x (One ∷ repeat oi w (One ∷ [])) ⨾
    same m (ap (λ z. AtLeft x 0 (Zero ∷ io ++ One ∷ One ∷ z)) (sym (repeat_turned One Zero w (One ∷ []))))

pub skelet33_never : Never (entry_of skelet33)
unfolding entry_of steps
skelet33_never =
    tapes_never m 0 1 2 io (λ w. repeat oi (suc w) (One ∷ [])) (carry 29) (clear 29) (turn 29) inc over (turn_near 29)
    (turn_far 29) first first
    by_near (λ k. by (twice k)) eat_near eat_far three by_twice (Zero ∷ One ∷ One ∷ One ∷ []) (omega arith)
    (run m 103 blank_zipper (AtLeft i 0 (Zero ∷ io ++ pairs (Zero ∷ One ∷ One ∷ One ∷ []) [])) refl)
  where
    three : (k : ℕ) → 2 ≤ val (by_near k)
    three zero = omega arith
    three (suc k) = omega (arith, val_inc (twice k) (Zero ∷ []))
