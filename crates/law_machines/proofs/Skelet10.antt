-- Skelet 10, 1RB0RA_0LC1RA_1RE1LD_1LC0LD_---0RB, never halts; the pair that halts is E0. Its run has parts within
-- parts, as Fibonacci numbers have: a part of size t is made of parts of the sizes 1 to t - 3, and one of size t - 2.
--
--          0    1
--     A   1RB  0RA
--     B   0LC  1RA
--     C   1RE  1LD
--     D   1LC  0LD
--     E   ---  0RB
--
-- The run comes to these configurations, one after another, for k = 1, 2, 3, ..:
--
--     at k        $ 1 E> 1 (11)^k 0^k 10 $
--
-- The head goes over words in these ways, n, p, q and s any numbers:
--
--     a_right     x A> (11)^n y                   -> x (00)^n A> y                            2 n steps
--     b_right     x B> (10)^n y                   -> x (11)^n B> y                            2 n
--     d_ones      x 1^n <D y                      -> x <D 0^n y                               n
--     d_words     x (10)^n <D y                   -> x <D (11)^n y                            2 n
--     back        x 00 (10)^p 1^(q + 1) <C y      -> x 1 E> 1 (11)^p 0^q 1 y                  2 p + q + 3
--     back_end    $ (10)^p 1^(q + 1) <C y         -> $ 1 E> 1 (11)^p 0^q 1 y                  2 p + q + 3
--     turn        x B> (10)^s 0 y                 -> x (11)^s <C 0 y                          2 s + 1
--
-- The one rule that all hangs on is the pass of size t, for any s, x and y:
--
--     pass t      x 1 E> 1 (11)^t 0^t (10)^s 0 y  -> x (10)^(t + 1) (11)^s 1^t <C 0 y
--
-- The pass is proved by induction on t. The sizes 0, 1 and 2 are a few steps and a turn: 2 s + 2, 2 s + 5 and 2 s + 14.
-- A pass of size u + 3 begins with 22 steps and a sweep of A over u words, 2 u steps, and then stands where rounds of
-- an inner counter begin, x (10)^2 (00)^u 1 E> 1 11 0 10 0^u ..: each round is a pass of size j, 1 to u, and a way
-- back, and makes two zeros on the left to a one more there:
--
--     inner j     x 00 1 E> 1 (11)^j 0^j 10 0 y   -> x 1 E> 1 (11)^(j + 1) 0^(j + 1) 10 y     pass j, and 3 j + 6
--
-- After u rounds a pass of size u + 1, over one more word 10, does the rest. So from at k a pass of size k and a way
-- back from the blank end lead to at (k + 1), and there is no other case. The run begins with 15 steps to at 1.
use Rattle.std.proofs.Common.{◌≡◌, ℕ, zero, suc, ◌+◌, ◌≤◌, List, [], ◌∷◌, ◌++◌, ◌∙◌, ap, refl, arith}
use Rattle.machine_text.specs.declared.table.Sym.{Sym}
use Rattle.machine_text.specs.declared.table.Sym.TheVariants.{Zero, One}
use Rattle.machine_text.specs.Terms.{Packed, entry_of}
use Rattle.law_turing.specs.Terms.{Machine, Never}
use Rattle.law_machines.specs.Zipper.{Zipper, AtLeft, AtRight, blank_zipper, steps, Comes, Goes, repeat}
use Rattle.law_machines.proofs.RuleLaws.{run, run⁺, same, ◌⨾◌, ◌⨾⁺◌, ◌⁺⨾◌, never_by_rules, repeat_last, repeat_swap, repeat_turned, sweep_right, sweep_left, same_blank, same_word, same_repeat, same_right}
use Rattle.law_machines.proofs.DigitLists.{o, i, oo, ii, io, oi}

-- the table as it is stored
abbrev pub skelet10 : Packed
skelet10 = record { codes = 26 ∷ 9 ∷ 3 ∷ 25 ∷ 29 ∷ 20 ∷ 19 ∷ 4 ∷ 0 ∷ 10 ∷ 0 ∷ 0 ∷ 0 ∷ 0 ∷ []; states = 5 }

abbrev m : Machine
m = entry_of skelet10

a_right : (n : ℕ) (x y : List Sym) → Comes m (AtRight x 0 (repeat ii n y)) (AtRight (repeat oo n x) 0 y)
unfolding entry_of steps
a_right = sweep_right m 0 ii oo (λ x y. run m 2 _ _ refl)

b_right : (n : ℕ) (x y : List Sym) → Comes m (AtRight x 1 (repeat io n y)) (AtRight (repeat ii n x) 1 y)
unfolding entry_of steps
b_right = sweep_right m 1 io ii (λ x y. run m 2 _ _ refl)

d_ones : (n : ℕ) (x y : List Sym) → Comes m (AtLeft (repeat i n x) 3 y) (AtLeft x 3 (repeat o n y))
unfolding entry_of steps
d_ones = sweep_left m 3 i o (λ x y. run m 1 _ _ refl)

d_words : (n : ℕ) (x y : List Sym) → Comes m (AtLeft (repeat oi n x) 3 y) (AtLeft x 3 (repeat ii n y))
unfolding entry_of steps
d_words = sweep_left m 3 oi ii (λ x y. run m 2 _ _ refl)

-- C goes back over ones and words 10 up to two zeros
back : (p q : ℕ) (x y : List Sym) →
    Comes m (AtLeft (repeat i (suc q) (repeat oi p (oo ++ x))) 2 y)
    (AtRight (One ∷ x) 4 (One ∷ repeat ii p (repeat o q (One ∷ y))))
unfolding entry_of steps
back p q x y =
    run m 1 _ _ refl ⨾
    d_ones q (repeat oi p (oo ++ x)) (One ∷ y) ⨾
    d_words p (oo ++ x) (repeat o q (One ∷ y)) ⨾
    run m 2 _ _ refl

-- or up to the blank end
back_end : (p q : ℕ) (y : List Sym) →
    Goes m (AtLeft (repeat i (suc q) (repeat oi p [])) 2 y) (AtRight i 4 (One ∷ repeat ii p (repeat o q (One ∷ y))))
unfolding entry_of steps
back_end p q y =
    run⁺ m 0 _ (AtLeft (repeat i q (repeat oi p [])) 3 (One ∷ y)) refl ⁺⨾
    d_ones q (repeat oi p []) (One ∷ y) ⨾
    d_words p [] (repeat o q (One ∷ y)) ⨾
    run m 2 _ _ refl

-- the pass of size t
abbrev Pass : ℕ → Type 0
Pass t = (s : ℕ) (x y : List Sym) →
    Comes m (AtRight (One ∷ x) 4 (One ∷ repeat ii t (repeat o t (repeat io s (Zero ∷ y)))))
    (AtLeft (repeat i t (repeat ii s (repeat oi (suc t) x))) 2 (Zero ∷ y))

-- B goes over the words 10 and turns back
turn : (s : ℕ) (x y : List Sym) → Comes m (AtRight x 1 (repeat io s (Zero ∷ y))) (AtLeft (repeat ii s x) 2 (Zero ∷ y))
unfolding entry_of steps
turn s x y = b_right s x (Zero ∷ y) ⨾ run m 1 _ _ refl

pass0 : Pass 0
unfolding entry_of steps
pass0 s x y = run m 1 _ _ refl ⨾ turn s (oi ++ x) y

pass1 : Pass 1
unfolding entry_of steps
pass1 s x y =
    run m 4 _ _ refl ⨾
    turn s (One ∷ repeat oi 2 x) y ⨾
    same m (ap (λ z. AtLeft z 2 (Zero ∷ y)) (repeat_turned One One s (repeat oi 2 x)))

pass2 : Pass 2
unfolding entry_of steps
pass2 s x y =
    run m 13 _ _ refl ⨾
    turn s (One ∷ One ∷ repeat oi 3 x) y ⨾
    same m (ap (λ z. AtLeft z 2 (Zero ∷ y)) (repeat_last ii s (repeat oi 3 x)))

-- one round of the inner counter
inner : (j : ℕ) → Pass j → (x y : List Sym) →
    Comes m (AtRight (One ∷ oo ++ x) 4 (One ∷ repeat ii j (repeat o j (io ++ Zero ∷ y))))
    (AtRight (One ∷ x) 4 (One ∷ repeat ii (suc j) (repeat o (suc j) (io ++ y))))
inner j pass x y =
    pass 1 (oo ++ x) y ⨾
    same m (ap (λ z. AtLeft z 2 (Zero ∷ y)) (repeat_swap i j 2 (repeat oi (suc j) (oo ++ x)))) ⨾
    back (suc j) (suc j) x (Zero ∷ y)

-- k rounds, the first with a pass of size j
inners : (e : ℕ) → ((j : ℕ) → j ≤ e → Pass j) → (k j : ℕ) → k + j ≡ e → (x y : List Sym) →
    Comes m (AtRight (One ∷ repeat oo k x) 4 (One ∷ repeat ii j (repeat o j (io ++ repeat o k y))))
    (AtRight (One ∷ x) 4 (One ∷ repeat ii e (repeat o e (io ++ y))))
inners e below zero j at x y =
    same m (ap (λ n. AtRight (One ∷ x) 4 (One ∷ repeat ii n (repeat o n (io ++ y)))) (let p : j ≡ e = omega arith in p))
inners e below (suc k) j at x y =
    inner j (below j (omega arith)) (repeat oo k x) (repeat o k y) ⨾
    inners e below k (suc j) (omega arith) x y

-- a pass of passes of smaller sizes
pass_more : (u : ℕ) → ((j : ℕ) → j ≤ suc u → Pass j) → Pass (suc (suc (suc u)))
unfolding entry_of steps
pass_more u below s x y =
    let z : List Sym = repeat oi 2 x in
    let far : List Sym = repeat io s (Zero ∷ y) in
    run m 7 _ _ refl ⨾
    a_right u (repeat oo 2 z) (Zero ∷ Zero ∷ Zero ∷ repeat o u far) ⨾
    same m (ap (λ l. AtRight l 0 (Zero ∷ Zero ∷ Zero ∷ repeat o u far)) (repeat_swap oo u 2 z)) ⨾
    run m 15 _ _ refl ⨾
    inners (suc u) below u 1 (omega arith) z far ⨾
    below (suc u) (omega arith) (suc s) z y ⨾
    same m (ap (λ l. AtLeft l 2 (Zero ∷ y)) (
    repeat_swap i (suc u) 2 (repeat ii s (repeat oi (suc (suc u)) z)) ∙
    ap (λ l. repeat i (suc (suc (suc u))) (repeat ii s l)) (repeat_swap oi (suc (suc u)) 2 x)
    ))

-- so of every size
pass_up_to : (n t : ℕ) → t ≤ n → Pass t
pass_up_to n zero within = pass0
pass_up_to n (suc zero) within = pass1
pass_up_to n (suc (suc zero)) within = pass2
pass_up_to zero (suc (suc (suc u))) within = absurd (omega arith)
pass_up_to (suc n) (suc (suc (suc u))) within = pass_more u (λ j low. pass_up_to n j (omega arith))

-- the configurations
abbrev at : ℕ → Zipper
at k = AtRight i 4 (One ∷ repeat ii k (repeat o k io))

onward : (k : ℕ) → Goes m (at k) (at (suc k))
onward k =
    same_right m 4 i (One ∷ repeat ii k (repeat o k io)) (One ∷ repeat ii k (repeat o k (io ++ Zero ∷ [])))
    (same_word i _ _ (same_repeat ii k _ _ (same_repeat o k _ _ (same_word io [] (Zero ∷ []) same_blank)))) ⨾⁺
    pass_up_to k k (omega arith) 1 [] [] ⨾⁺
    same m (ap (λ l. AtLeft l 2 (Zero ∷ [])) (repeat_swap i k 2 (repeat oi (suc k) []))) ⨾⁺
    back_end (suc k) (suc k) (Zero ∷ [])

pub skelet10_never : Never (entry_of skelet10)
unfolding entry_of steps
skelet10_never = never_by_rules m ℕ at 1 (run m 15 blank_zipper (at 1) refl) (λ k. (suc k, onward k))
