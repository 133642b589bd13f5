-- The rules of the machine, and what they make of words: sweeps and turns.
use Rattle.std.proofs.Common.{List, [], ◌∷◌, refl, ◌≡◌, ℕ, zero, suc, ◌+◌, ◌%◌, ◌∙◌, ap, arith, ◌-◌, ◌≤◌, ◌++◌}
use Rattle.machine_text.specs.declared.table.Sym.{Sym}
use Rattle.machine_text.specs.declared.table.Sym.TheVariants.{Zero, One}
use Rattle.machine_text.specs.Terms.{entry_of}
use Rattle.law_machines.specs.Terms.{steps, Comes, Goes}
use Rattle.law_machines.proofs.RuleLaws.{run, run⁺, stay, same, ◌⨾◌}
use Rattle.kind_named.specs.inside.Tokens.{machine, other_answer, leftward, rightward, c_left, c_right, turned, xs_left, xs_right, separator_left, rope_left, rope_right, wound_left, AreOdd, AreLong}
use Rattle.kind_named.specs.declared.visit.Answer.{Answer}
use Rattle.kind_named.specs.declared.visit.Answer.TheVariants.{A, C}

-- The rules of the machine, each so many steps, and what they make of words.

-- L 101 << R => L << 011 R
pub rule1 : (l r : List Sym) → Comes machine (leftward (One ∷ Zero ∷ One ∷ l) r) (leftward l (Zero ∷ One ∷ One ∷ r))
unfolding entry_of steps
rule1 l r = run machine 3 _ _ refl

-- L 10 << R => L << 01 R
pub rule2 : (l r : List Sym) → Comes machine (leftward (c_left l) r) (leftward l (c_right r))
unfolding entry_of steps
rule2 l r = run machine 6 _ _ refl

-- L 11 << R => L 0101 A> R
pub rule3 : (l r : List Sym) → Comes machine (leftward (One ∷ One ∷ l) r) (rightward A (One ∷ Zero ∷ One ∷ Zero ∷ l) r)
unfolding entry_of steps
rule3 l r = run machine 7 _ _ refl

-- L 00 << R => L 1101 C> R
pub rule4 : (l r : List Sym) → Comes machine (leftward (Zero ∷ Zero ∷ l) r) (rightward C (One ∷ Zero ∷ One ∷ One ∷ l) r)
unfolding entry_of steps
rule4 l r = run machine 9 _ _ refl

-- L C> 011 R => L 101 A> R, and the same with A and C exchanged
pub rule56 : (a : Answer) (l r : List Sym) → Comes machine (rightward a l (Zero ∷ One ∷ One ∷ r)) (rightward (other_answer a) (One ∷ Zero ∷ One ∷ l) r)
unfolding entry_of steps
rule56 A l r = run machine 5 _ _ refl
rule56 C l r = run machine 5 _ _ refl

-- L A> 01 R => L 10 C> R
pub rule7 : (l r : List Sym) → Comes machine (rightward A l (c_right r)) (rightward C (c_left l) r)
unfolding entry_of steps
rule7 l r = run machine 2 _ _ refl

-- L C> 0101 R => L 1101 C> R
pub rule8 : (l r : List Sym) → Comes machine (rightward C l (c_right (c_right r))) (rightward C (One ∷ Zero ∷ One ∷ One ∷ l) r)
unfolding entry_of steps
rule8 l r = run machine 4 _ _ refl

-- L C> 01011 R => L 1 << 01 R
pub rule9 : (l r : List Sym) → Comes machine (rightward C l (c_right (Zero ∷ One ∷ One ∷ r))) (leftward (One ∷ l) (c_right r))
unfolding entry_of steps
rule9 l r = run machine 8 _ _ refl

-- L C> 0* => L 1 << 0*, and L A> 0* => L << 0*
pub end_C : (l : List Sym) → Goes machine (rightward C l []) (leftward (One ∷ l) [])
unfolding entry_of steps
end_C l = run⁺ machine 3 _ _ refl

pub end_A : (l : List Sym) → Goes machine (rightward A l []) (leftward l [])
unfolding entry_of steps
end_A l = run⁺ machine 2 _ _ refl

-- The laws of words: a further x may stand first or last, and what so many of them make of an answer.
pub other_other : (a : Answer) → other_answer (other_answer a) ≡ a
other_other A = refl
other_other C = refl

pub turned_first : (a : Answer) (n : ℕ) → turned a (suc n) ≡ turned (other_answer a) n
unfolding turned
turned_first a n = refl

pub turned_two : (a : Answer) (n : ℕ) → turned a (suc (suc n)) ≡ turned a n
unfolding turned
turned_two a n = ap (λ b. turned b n) (other_other a)

pub turned_even : (a : Answer) (n : ℕ) → n % 2 ≡ 0 → turned a n ≡ a
unfolding turned
turned_even a zero e = refl
turned_even a (suc zero) e = absurd (omega arith)
turned_even a (suc (suc n)) e = turned_two a n ∙ turned_even a n (omega arith)

pub turned_odd : (a : Answer) (n : ℕ) → n % 2 ≡ 1 → turned a n ≡ other_answer a
unfolding turned
turned_odd a zero e = absurd (omega arith)
turned_odd a (suc zero) e = refl
turned_odd a (suc (suc n)) e = turned_two a n ∙ turned_odd a n (omega arith)

pub turned_add : (a : Answer) (n k : ℕ) → turned (turned a n) k ≡ turned a (n + k)
unfolding turned
turned_add a zero k = ap (turned a) (let p : k ≡ 0 + k = omega arith in p)
turned_add a (suc n) k = turned_add (other_answer a) n k ∙ ap (turned a) (let p : suc (n + k) ≡ suc n + k = omega arith in p)

pub xs_left_last : (n : ℕ) (l : List Sym) → xs_left n (One ∷ Zero ∷ One ∷ l) ≡ One ∷ Zero ∷ One ∷ xs_left n l
unfolding xs_left
xs_left_last zero l = refl
xs_left_last (suc n) l = ap (λ k. One ∷ Zero ∷ One ∷ k) (xs_left_last n l)

pub xs_right_last : (n : ℕ) (r : List Sym) → xs_right n (Zero ∷ One ∷ One ∷ r) ≡ Zero ∷ One ∷ One ∷ xs_right n r
unfolding xs_right
xs_right_last zero r = refl
xs_right_last (suc n) r = ap (λ k. Zero ∷ One ∷ One ∷ k) (xs_right_last n r)

pub xs_left_add : (n k : ℕ) (l : List Sym) → xs_left n (xs_left k l) ≡ xs_left (n + k) l
unfolding xs_left
xs_left_add zero k l = ap (λ i. xs_left i l) (let p : k ≡ 0 + k = omega arith in p)
xs_left_add (suc n) k l = ap (λ x. One ∷ Zero ∷ One ∷ x) (xs_left_add n k l) ∙ ap (λ i. xs_left i l) (let p : suc (n + k) ≡ suc n + k = omega arith in p)

pub xs_right_add : (n k : ℕ) (r : List Sym) → xs_right n (xs_right k r) ≡ xs_right (n + k) r
unfolding xs_right
xs_right_add zero k r = ap (λ i. xs_right i r) (let p : k ≡ 0 + k = omega arith in p)
xs_right_add (suc n) k r = ap (λ x. Zero ∷ One ∷ One ∷ x) (xs_right_add n k r) ∙ ap (λ i. xs_right i r) (let p : suc (n + k) ≡ suc n + k = omega arith in p)

-- What the rules make of the words: sweeps over x and over ropes, and the turns at separators.
pub leftward_x : (n : ℕ) (l r : List Sym) → Comes machine (leftward (xs_left n l) r) (leftward l (xs_right n r))
unfolding xs_left xs_right
leftward_x zero l r = stay machine _
leftward_x (suc n) l r = rule1 (xs_left n l) r ⨾ leftward_x n l (Zero ∷ One ∷ One ∷ r) ⨾ same machine (ap (leftward l) (xs_right_last n r))

pub rightward_x : (n : ℕ) (a : Answer) (l r : List Sym) → Comes machine (rightward a l (xs_right n r)) (rightward (turned a n) (xs_left n l) r)
unfolding xs_left xs_right turned
rightward_x zero a l r = stay machine _
rightward_x (suc n) a l r =
    rule56 a l (xs_right n r) ⨾
    rightward_x n (other_answer a) (One ∷ Zero ∷ One ∷ l) r ⨾
    same machine (ap (λ k. rightward (turned (other_answer a) n) k r) (xs_left_last n l))

pub leftward_rope : (gs : List ℕ) (l r : List Sym) → Comes machine (leftward (rope_left gs l) r) (leftward l (rope_right gs r))
unfolding rope_left rope_right
leftward_rope [] l r = stay machine _
leftward_rope (g ∷ gs) l r = leftward_rope gs (xs_left g (c_left l)) r ⨾ leftward_x g (c_left l) (rope_right gs r) ⨾ rule2 l (xs_right g (rope_right gs r))

-- c x^g, g odd, takes A to A
pub rightward_group : (g : ℕ) → g % 2 ≡ 1 → (l r : List Sym) → Comes machine (rightward A l (c_right (xs_right g r))) (rightward A (xs_left g (c_left l)) r)
rightward_group g odd l r = rule7 l (xs_right g r) ⨾ rightward_x g C (c_left l) r ⨾ same machine (ap (λ a. rightward a (xs_left g (c_left l)) r) (turned_odd C g odd))

pub rightward_rope : (gs : List ℕ) → AreOdd gs → (l r : List Sym) → Comes machine (rightward A l (rope_right gs r)) (rightward A (rope_left gs l) r)
unfolding rope_left rope_right
rightward_rope [] odd l r = stay machine _
rightward_rope (g ∷ gs) odd l r = rightward_group g odd.0 l (rope_right gs r) ⨾ rightward_rope gs odd.1 (xs_left g (c_left l)) r

-- a rope read in C, behind an x
wind : (k : ℕ) → k % 2 ≡ 0 → (l r : List Sym) → Comes machine (rightward C (xs_left 1 l) (c_right (xs_right (suc (suc (suc k))) r))) (rightward C (xs_left 1 (xs_left (suc k) (c_left (xs_left 1 (separator_left 1 l))))) r)
unfolding xs_left xs_right
wind k even l r =
    rule9 (xs_left 1 l) (xs_right (suc (suc k)) r) ⨾
    rule3 (Zero ∷ One ∷ l) (c_right (xs_right (suc (suc k)) r)) ⨾
    rule7 (xs_left 1 (separator_left 1 l)) (xs_right (suc (suc k)) r) ⨾
    rightward_x (suc (suc k)) C (c_left (xs_left 1 (separator_left 1 l))) r ⨾
    same machine (ap (λ a. rightward a (xs_left (suc (suc k)) (c_left (xs_left 1 (separator_left 1 l)))) r) (turned_even C (suc (suc k)) (omega arith)))

wind_group : (g : ℕ) → g % 2 ≡ 1 → 3 ≤ g → (l r : List Sym) → Comes machine (rightward C (xs_left 1 l) (c_right (xs_right g r))) (rightward C (xs_left 1 (xs_left (g - 2) (c_left (xs_left 1 (separator_left 1 l))))) r)
wind_group zero odd long l r = absurd (omega arith)
wind_group (suc zero) odd long l r = absurd (omega arith)
wind_group (suc (suc zero)) odd long l r = absurd (omega arith)
wind_group (suc (suc (suc k))) odd long l r =
    wind k (omega arith) l r ⨾
    same machine (ap (λ i. rightward C (xs_left 1 (xs_left i (c_left (xs_left 1 (separator_left 1 l))))) r) (let p : suc k ≡ suc (suc (suc k)) - 2 = omega arith in p))

pub rightward_wound : (gs : List ℕ) → AreOdd gs → AreLong gs → (l r : List Sym) → Comes machine (rightward C (xs_left 1 l) (rope_right gs r)) (rightward C (xs_left 1 (wound_left gs l)) r)
unfolding rope_right wound_left
rightward_wound [] odd long l r = stay machine _
rightward_wound (g ∷ gs) odd long l r =
    wind_group g odd.0 long.0 l (rope_right gs r) ⨾ rightward_wound gs odd.1 long.1 (xs_left (g - 2) (c_left (xs_left 1 (separator_left 1 l)))) r

-- the turns
pub leftward_s1 : (l r : List Sym) → Comes machine (leftward (separator_left 1 l) r) (rightward C (xs_left 1 (separator_left 2 l)) r)
unfolding xs_left
leftward_s1 l r = rule4 (One ∷ l) r

pub leftward_s0 : (n : ℕ) (l r : List Sym) → Comes machine (leftward (separator_left 0 (xs_left (suc n) l)) r) (rightward A (xs_left 1 (separator_left 1 (xs_left n l))) r)
unfolding xs_left
leftward_s0 n l r = rule3 (Zero ∷ One ∷ xs_left n l) r

pub leftward_s2 : (n : ℕ) (l r : List Sym) → Comes machine (leftward (separator_left 2 (xs_left (suc n) l)) r) (rightward A (xs_left 1 (c_left (c_left (xs_left n l)))) r)
unfolding xs_left
leftward_s2 n l r = rule3 (One ∷ Zero ∷ One ∷ xs_left n l) r

pub leftward_s2_s0 : (l r : List Sym) → Comes machine (leftward (separator_left 2 (separator_left 0 l)) r) (rightward A (xs_left 1 (c_left l)) r)
unfolding xs_left
leftward_s2_s0 l r = rule3 (One ∷ l) r

pub leftward_s2_s2 : (l r : List Sym) → Comes machine (leftward (separator_left 2 (separator_left 2 l)) r) (rightward A (xs_left 1 (c_left (separator_left 0 l))) r)
unfolding xs_left
leftward_s2_s2 l r = rule3 (One ∷ One ∷ l) r

pub leftward_blank : (r : List Sym) → Comes machine (leftward [] r) (rightward C (xs_left 1 (separator_left 0 [])) r)
unfolding entry_of steps xs_left
leftward_blank r = run machine 9 _ _ refl

pub rightward_cc : (l r : List Sym) → Comes machine (rightward C l (c_right (c_right r))) (rightward C (xs_left 1 (separator_left 0 l)) r)
unfolding xs_left
rightward_cc l r = rule8 l r

pub rightward_c_x : (n : ℕ) (l r : List Sym) → Comes machine (rightward C l (c_right (xs_right (suc n) r))) (leftward (separator_left 0 l) (c_right (xs_right n r)))
unfolding xs_right
rightward_c_x n l r = rule9 l (xs_right n r)

-- ropes one behind the other
pub rope_left_append : (gs hs : List ℕ) (l : List Sym) → rope_left (gs ++ hs) l ≡ rope_left hs (rope_left gs l)
unfolding rope_left
rope_left_append [] hs l = refl
rope_left_append (g ∷ gs) hs l = rope_left_append gs hs (xs_left g (c_left l))

pub rope_right_append : (gs hs : List ℕ) (r : List Sym) → rope_right (gs ++ hs) r ≡ rope_right gs (rope_right hs r)
unfolding rope_right
rope_right_append [] hs r = refl
rope_right_append (g ∷ gs) hs r = ap (λ k. c_right (xs_right g k)) (rope_right_append gs hs r)

pub wound_append : (gs hs : List ℕ) (l : List Sym) → wound_left (gs ++ hs) l ≡ wound_left hs (wound_left gs l)
unfolding wound_left
wound_append [] hs l = refl
wound_append (g ∷ gs) hs l = wound_append gs hs (xs_left (g - 2) (c_left (xs_left 1 (separator_left 1 l))))

pub rope_left_one : (g : ℕ) (l : List Sym) → rope_left (g ∷ []) l ≡ xs_left g (c_left l)
unfolding rope_left
rope_left_one g l = refl

pub rope_right_one : (g : ℕ) (r : List Sym) → rope_right (g ∷ []) r ≡ c_right (xs_right g r)
unfolding rope_right
rope_right_one g r = refl

pub wound_one : (g : ℕ) (l : List Sym) → wound_left (g ∷ []) l ≡ xs_left (g - 2) (c_left (xs_left 1 (separator_left 1 l)))
unfolding wound_left
wound_one g l = refl

-- the text 1 behind c is x
pub one_c : (l : List Sym) → separator_left 0 (c_left l) ≡ xs_left 1 l
unfolding xs_left
one_c l = refl

-- tables are closed under joining
pub odd_append : (gs hs : List ℕ) → AreOdd gs → AreOdd hs → AreOdd (gs ++ hs)
odd_append [] hs p q = q
odd_append (g ∷ gs) hs p q = (p.0, odd_append gs hs p.1 q)

pub long_append : (gs hs : List ℕ) → AreLong gs → AreLong hs → AreLong (gs ++ hs)
long_append [] hs p q = q
long_append (g ∷ gs) hs p q = (p.0, long_append gs hs p.1 q)
