-- Lists of binary digits have values, and stand on the tape as words of cells.
use Rattle.std.proofs.Common.{List, [], ◌∷◌, ◌≡◌, ℕ, zero, suc, ◌+◌, ◌*◌, ◌<◌, ◌≤◌, ◌++◌, ◌⊎◌, inl, inr, ap, refl, arith, sym, ◌∙◌}
use Rattle.machine_text.specs.declared.table.Sym.{Sym}
use Rattle.machine_text.specs.declared.table.Sym.TheVariants.{Zero, One}
use Rattle.law_machines.specs.Zipper.{repeat, symbol_at, SameCells}
use Rattle.law_machines.proofs.RuleLaws.{repeat_last, same_blank, same_word, same_repeat}

-- Short words of cells, written as they look: o for a blank, i for a one. A word stands from the head outwards, so on
-- the left half of a tape `iooo` is drawn as 0001, and on the right half as 1000.
--
-- Drawings in the files of the machines: `x <A y` is state A between the half tapes x and y with the head on the last
-- cell of x, `x A> y` with the head on the first cell of y, `(10)^n` the word 10 n times, and $ an end behind which all
-- is blank. A rule `X -> Y` holds for all half tapes that it leaves open (x, y) and all numbers; behind it stands in
-- how many steps.
abbrev pub o : List Sym
o = Zero ∷ []

abbrev pub i : List Sym
i = One ∷ []

abbrev pub oo : List Sym
oo = Zero ∷ Zero ∷ []

abbrev pub oi : List Sym
oi = Zero ∷ One ∷ []

abbrev pub io : List Sym
io = One ∷ Zero ∷ []

abbrev pub ii : List Sym
ii = One ∷ One ∷ []

abbrev pub oooo : List Sym
oooo = Zero ∷ Zero ∷ Zero ∷ Zero ∷ []

abbrev pub iooo : List Sym
iooo = One ∷ Zero ∷ Zero ∷ Zero ∷ []

abbrev pub iiii : List Sym
iiii = One ∷ One ∷ One ∷ One ∷ []

-- Numbers as lists of binary digits, the least one first. `val l` is the value, `full l` is 2 to the length, and
-- `scaled l x` is 2 to the length, times x: by recursion on the list, so that no power and no product is ever met.
abbrev pub twice : ℕ → ℕ
twice zero = zero
twice (suc n) = suc (suc (twice n))

pub twice_is : (n : ℕ) → twice n ≡ 2 * n
twice_is zero = refl
twice_is (suc n) = omega (arith, twice_is n)

abbrev pub bit : Sym → ℕ
bit Zero = 0
bit One = 1

abbrev pub val : List Sym → ℕ
val [] = 0
val (d ∷ l) = bit d + 2 * val l

-- 2 to the length, times x
abbrev pub scaled : List Sym → ℕ → ℕ
scaled [] x = x
scaled (d ∷ l) x = 2 * scaled l x

abbrev pub full : List Sym → ℕ
full [] = 1
full (d ∷ l) = 2 * full l

pub full_pos : (l : List Sym) → 1 ≤ full l
full_pos [] = omega arith
full_pos (d ∷ l) = omega (arith, full_pos l)

pub val_below : (l : List Sym) → val l + 1 ≤ full l
val_below [] = omega arith
val_below (Zero ∷ l) = omega (arith, val_below l)
val_below (One ∷ l) = omega (arith, val_below l)

pub scaled_two : (l : List Sym) (x : ℕ) → 2 ≤ x → 2 * full l ≤ scaled l x
scaled_two [] x two = omega arith
scaled_two (d ∷ l) x two = omega (arith, scaled_two l x two)

pub scaled_val : (l : List Sym) (x : ℕ) → 1 ≤ x → val l + x ≤ scaled l x
scaled_val [] x one = omega arith
scaled_val (Zero ∷ l) x one = omega (arith, scaled_val l x one)
scaled_val (One ∷ l) x one = omega (arith, scaled_val l x one)

pub scaled_room : (l : List Sym) (a x y : ℕ) → a + x ≤ y → 1 ≤ x → (val l + x) + scaled l a ≤ scaled l y
scaled_room [] a x y room one = omega arith
scaled_room (Zero ∷ l) a x y room one = omega (arith, scaled_room l a x y room one)
scaled_room (One ∷ l) a x y room one = omega (arith, scaled_room l a x y room one)

pub scaled_top : (l : List Sym) (a y : ℕ) → y ≤ 2 * a → scaled l y ≤ 2 * scaled l a
scaled_top [] a y top = omega arith
scaled_top (d ∷ l) a y top = omega (arith, scaled_top l a y top)

pub val_append : (l r : List Sym) → val (l ++ r) ≡ val l + scaled l (val r)
val_append [] r = omega arith
val_append (d ∷ l) r = omega (arith, val_append l r)

pub full_append : (l r : List Sym) → full (l ++ r) ≡ scaled l (full r)
full_append [] r = refl
full_append (d ∷ l) r = omega (arith, full_append l r)

-- powers of two
pub full_gap : (a b : List Sym) → full a < full b → 2 * full a ≤ full b
full_gap [] [] less = omega arith
full_gap [] (d ∷ b) less = omega (arith, full_pos b)
full_gap (c ∷ a) [] less = omega (arith, full_pos a)
full_gap (c ∷ a) (d ∷ b) less =
    let h : full a < full b = omega arith in
    omega (arith, full_gap a b h)

-- ones alone, and a number and the next one
pub val_ones : (k : ℕ) → val (repeat i k []) + 1 ≡ full (repeat i k [])
val_ones zero = refl
val_ones (suc k) = omega (arith, val_ones k)

pub val_inc : (k : ℕ) (t : List Sym) → val (repeat o k (One ∷ t)) ≡ val (repeat i k (Zero ∷ t)) + 1
val_inc zero t = omega arith
val_inc (suc k) t = omega (arith, val_inc k t)

pub full_inc : (k : ℕ) (t : List Sym) → full (repeat o k (One ∷ t)) ≡ full (repeat i k (Zero ∷ t))
full_inc zero t = refl
full_inc (suc k) t = omega (arith, full_inc k t)

pub scaled_inc : (k : ℕ) (t : List Sym) (x : ℕ) → scaled (repeat o k (One ∷ t)) x ≡ scaled (repeat i k (Zero ∷ t)) x
scaled_inc zero t x = refl
scaled_inc (suc k) t x = omega (arith, scaled_inc k t x)

pub val_grow : (k : ℕ) → val (repeat o k (One ∷ [])) ≡ full (repeat i k [])
val_grow zero = refl
val_grow (suc k) = omega (arith, val_grow k)

pub full_grow : (k : ℕ) → full (repeat o k (One ∷ [])) ≡ 2 * full (repeat i k [])
full_grow zero = refl
full_grow (suc k) = omega (arith, full_grow k)

pub scaled_grow : (k : ℕ) (x : ℕ) → scaled (repeat o k (One ∷ [])) x ≡ scaled (repeat i k []) (2 * x)
scaled_grow zero x = refl
scaled_grow (suc k) x = omega (arith, scaled_grow k x)

pub val_zero : (k : ℕ) → val (repeat i k []) ≡ val (repeat i k (Zero ∷ []))
val_zero zero = refl
val_zero (suc k) = omega (arith, val_zero k)

pub scaled_twice : (l : List Sym) (x : ℕ) → scaled l (2 * x) ≡ 2 * scaled l x
scaled_twice [] x = refl
scaled_twice (d ∷ l) x = omega (arith, scaled_twice l x)

-- a list has a first zero, or is ones alone
pub look : (l : List Sym) → ((k : ℕ) × (t : List Sym) × (l ≡ repeat i k (Zero ∷ t))) ⊎ ((k : ℕ) × (l ≡ repeat i k []))
look [] = inr (0, refl)
look (Zero ∷ l) = inl (0, l, refl)
look (One ∷ l) =
    elim (look l) [
      | inl h ↦ inl (suc h.0, h.1, ap (λ x. One ∷ x) h.2)
      | inr h ↦ inr (suc h.0, ap (λ x. One ∷ x) h.1)
    ]

-- What stands on the tape of a shift overflow counter, as words that are made of lists of digits. A digit is a cell,
-- the least one stands nearest to the head.

-- the right counter, each digit behind a one: 1 d0 1 d1 1 d2 .. y
abbrev pub pairs : List Sym → List Sym → List Sym
pairs [] y = y
pairs (d ∷ l) y = One ∷ d ∷ pairs l y

-- the left counter, its digits four cells apart: d0 000 d1 000 d2 .. z, read from the head to the left
abbrev pub behind : List Sym → List Sym → List Sym
behind [] z = z
behind (d ∷ l) z = Zero ∷ Zero ∷ Zero ∷ d ∷ behind l z

abbrev pub digits : List Sym → List Sym → List Sym
digits [] z = z
digits (d ∷ l) z = d ∷ behind l z

-- an older left counter that lies behind it: e1 000 e2 000 .. en 000
abbrev pub older : List Sym → List Sym
older [] = []
older (d ∷ l) = d ∷ Zero ∷ Zero ∷ Zero ∷ older l

-- where older digits lie. The next place of the left counter would be four cells behind its last digit; the first older
-- digit is three cells behind that (Near: one cell nearer), or just behind it (Far)
pub data Shift : Type 0 where
  Near : Shift
  Far : Shift

abbrev pub beyond : Shift → List Sym → List Sym
beyond Near l = Zero ∷ Zero ∷ older l
beyond Far l = older l

-- counters of repeated digits are repeated words
pub pairs_append : (l r y : List Sym) → pairs (l ++ r) y ≡ pairs l (pairs r y)
pairs_append [] r y = refl
pairs_append (d ∷ l) r y = ap (λ x. One ∷ d ∷ x) (pairs_append l r y)

pub pairs_repeat : (d : Sym) (k : ℕ) (l y : List Sym) →
    pairs (repeat (d ∷ []) k l) y ≡ repeat (One ∷ d ∷ []) k (pairs l y)
pairs_repeat d zero l y = refl
pairs_repeat d (suc k) l y = ap (λ x. One ∷ d ∷ x) (pairs_repeat d k l y)

behind_repeat : (d s : Sym) (k : ℕ) (t z : List Sym) →
    behind (repeat (d ∷ []) k (s ∷ t)) z ≡ Zero ∷ Zero ∷ Zero ∷ repeat (d ∷ Zero ∷ Zero ∷ Zero ∷ []) k (s ∷ behind t z)
behind_repeat d s zero t z = refl
behind_repeat d s (suc k) t z = ap (λ x. Zero ∷ Zero ∷ Zero ∷ d ∷ x) (behind_repeat d s k t z)

pub digits_repeat : (d s : Sym) (k : ℕ) (t z : List Sym) →
    digits (repeat (d ∷ []) k (s ∷ t)) z ≡ repeat (d ∷ Zero ∷ Zero ∷ Zero ∷ []) k (s ∷ behind t z)
digits_repeat d s zero t z = refl
digits_repeat d s (suc k) t z = ap (λ x. d ∷ x) (behind_repeat d s k t z)

pub digits_ones : (k : ℕ) (z : List Sym) → digits (repeat i (suc k) []) z ≡ repeat iooo k (One ∷ z)
digits_ones k z = ap (λ l. digits l z) (sym (repeat_last i k [])) ∙ digits_repeat One One k [] z

pub older_repeat : (d s : Sym) (k : ℕ) (t : List Sym) →
    older (repeat (d ∷ []) k (s ∷ t)) ≡ repeat (d ∷ Zero ∷ Zero ∷ Zero ∷ []) k (s ∷ Zero ∷ Zero ∷ Zero ∷ older t)
older_repeat d s zero t = refl
older_repeat d s (suc k) t = ap (λ x. d ∷ Zero ∷ Zero ∷ Zero ∷ x) (older_repeat d s k t)

same_eq : (l k : List Sym) → l ≡ k → SameCells l k
same_eq l k e = record { cell = λ n. ap (λ x. symbol_at x n) e }

same_after : (l k j : List Sym) → SameCells l k → SameCells k j → SameCells l j
same_after l k j a b = record { cell = λ n. a.cell n ∙ b.cell n }

pub same_zero : (l : List Sym) → SameCells [] l → SameCells [] (Zero ∷ l)
same_zero l a = record { cell = go }
  where
    go : (n : ℕ) → symbol_at [] n ≡ symbol_at (Zero ∷ l) n
    go zero = refl
    go (suc n) = a.cell n

four_zeros : SameCells [] oooo
four_zeros = same_zero (Zero ∷ Zero ∷ Zero ∷ []) (same_zero oo (same_zero (Zero ∷ []) same_blank))

-- digits behind which all is blank may be read as older ones
pub same_behind : (t : List Sym) → SameCells (behind t oo) (Zero ∷ Zero ∷ Zero ∷ older t)
same_behind [] = same_word oo [] (Zero ∷ []) same_blank
same_behind (d ∷ t) = same_word (Zero ∷ Zero ∷ Zero ∷ d ∷ []) (behind t oo) (Zero ∷ Zero ∷ Zero ∷ older t)
    (same_behind t)

-- a first zero of the left counter, which may be one beyond its digits: k ones stand before it. When it becomes a one,
-- and the ones before it zeros, the last digit is a one again
abbrev pub FirstZero : List Sym → Type 0
FirstZero l =
    (k : ℕ) × (t : List Sym) × SameCells (digits l oo) (digits (repeat i k (Zero ∷ t)) oo)
    × (val l ≡ val (repeat i k (Zero ∷ t))) × (full (repeat o k (One ∷ t)) ≤ 2 * val (repeat o k (One ∷ t)))

pub first_zero : (l : List Sym) → full l ≤ 2 * val l → FirstZero l
first_zero l top =
    elim (look l) [
      | inl h ↦
          let v : val l ≡ val (repeat i h.0 (Zero ∷ h.1)) = ap val h.2 in
          let f : full l ≡ full (repeat i h.0 (Zero ∷ h.1)) = ap full h.2 in (
            h.0,
            h.1,
            same_eq _ _ (ap (λ x. digits x oo) h.2),
            v,
            omega (arith, val_inc h.0 h.1, full_inc h.0 h.1),
          )
      | inr h ↦ ones h.0 h.1
    ]
  where
    ones : (k : ℕ) → l ≡ repeat i k [] → FirstZero l
    ones zero e =
        let v : val l ≡ 0 = ap val e in
        let f : full l ≡ 1 = ap full e in
        absurd (omega arith)
    ones (suc k) e =
        let v : val l ≡ val (repeat i (suc k) []) = ap val e in (
          suc k,
          [],
          same_after _ (repeat iooo k (One ∷ Zero ∷ Zero ∷ [])) _
              (same_eq _ _ (ap (λ x. digits x oo) e ∙ digits_ones k oo))
              (same_after _ (repeat iooo k (iooo ++ Zero ∷ Zero ∷ Zero ∷ [])) _
              (same_repeat iooo k (One ∷ Zero ∷ Zero ∷ []) (iooo ++ Zero ∷ Zero ∷ Zero ∷ [])
              (same_word (One ∷ Zero ∷ Zero ∷ []) [] oooo four_zeros))
              (same_eq _ _ (repeat_last iooo k (Zero ∷ Zero ∷ Zero ∷ [])
              ∙ sym (digits_repeat One Zero (suc k) [] oo)))),
          v ∙ val_zero (suc k),
          omega (arith, val_grow (suc k), full_grow (suc k)),
        )
