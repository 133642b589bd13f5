-- The tables of Skelet 33, 34 and 35 are one but for the entry E1, and these are the rules that don't meet it:
--
--          0    1
--     A   1RB  1LC
--     B   0RC  0RB
--     C   1LD  0LA
--     D   1LE  ---
--     E   1LA   *       1RE in Skelet 33, 1RA in 34, 0LA in 35
--
-- All three are shift overflow counters (ShiftCounters has the drawing and the invariant, ShiftTapes the rules that
-- make it).
--
--     carry      x (0001)^n <A y     -> x <A (1111)^n y       4 n steps
--     clear      x B> (1111)^n y     -> x (0000)^n B> y       4 n
--     forth      x 0 C> (11)^n y     -> x (11)^n 0 C> y       6 n
--     back       x (11)^n <A y       -> x <A (01)^n y         2 n
--     turn       x 0 <A y            -> x 1 B> y              1
--     turn_near  x 01 <C y           -> x 1 B> 0 y            2
--     turn_far   x 0000 <C 1 y       -> x 1 0000 B> y         8
use Rattle.std.proofs.Common.{ℕ, zero, suc, List, [], ◌∷◌, ◌++◌, ap, refl}
use Rattle.machine_text.specs.declared.table.Sym.{Sym}
use Rattle.machine_text.specs.declared.table.Sym.TheVariants.{Zero, One}
use Rattle.machine_text.specs.Terms.{Packed, entry_of}
use Rattle.law_turing.specs.Terms.{Machine}
use Rattle.law_machines.specs.Zipper.{AtLeft, AtRight, steps, Comes, Goes, repeat}
use Rattle.law_machines.proofs.RuleLaws.{run, run⁺, stay, same, ◌⨾◌, repeat_last, sweep_right, sweep_left}
use Rattle.law_machines.proofs.DigitLists.{ii, oi, oooo, iooo, iiii}

-- the table as it is stored, where e is the code of its entry E1
abbrev pub table : ℕ → Packed
table e = record { codes = 26 ∷ 19 ∷ 11 ∷ 10 ∷ 20 ∷ 1 ∷ 21 ∷ 0 ∷ 17 ∷ e ∷ 0 ∷ 0 ∷ 0 ∷ 0 ∷ []; states = 5 }

abbrev pub machine : ℕ → Machine
machine e = entry_of (table e)

module _ (e : ℕ) where
  pub carry : (n : ℕ) (x y : List Sym) → Comes (machine e) (AtLeft (repeat iooo n x) 0 y) (AtLeft x 0 (repeat iiii n y))
  unfolding entry_of steps
  carry = sweep_left (machine e) 0 iooo iiii (λ x y. run (machine e) 4 _ _ refl)

  pub clear : (n : ℕ) (x y : List Sym) → Comes (machine e) (AtRight x 1 (repeat iiii n y))
      (AtRight (repeat oooo n x) 1 y)
  unfolding entry_of steps
  clear = sweep_right (machine e) 1 iiii oooo (λ x y. run (machine e) 4 _ _ refl)

  pub forth : (n : ℕ) (x y : List Sym) → Comes (machine e) (AtRight (Zero ∷ x) 2 (repeat ii n y))
      (AtRight (Zero ∷ repeat ii n x) 2 y)
  unfolding entry_of steps
  forth zero x y = stay (machine e) _
  forth (suc n) x y =
      run (machine e) 6 _ (AtRight (Zero ∷ ii ++ x) 2 (repeat ii n y)) refl ⨾
      forth n (ii ++ x) y ⨾
      same (machine e) (ap (λ z. AtRight (Zero ∷ z) 2 y) (repeat_last ii n x))

  pub back : (n : ℕ) (x y : List Sym) → Comes (machine e) (AtLeft (repeat ii n x) 0 y) (AtLeft x 0 (repeat oi n y))
  unfolding entry_of steps
  back = sweep_left (machine e) 0 ii oi (λ x y. run (machine e) 2 _ _ refl)

  pub turn : (x y : List Sym) → Goes (machine e) (AtLeft (Zero ∷ x) 0 y) (AtRight (One ∷ x) 1 y)
  unfolding entry_of steps
  turn x y = run⁺ (machine e) 0 _ _ refl

  pub turn_near : (x y : List Sym) → Comes (machine e) (AtLeft (One ∷ Zero ∷ x) 2 y) (AtRight (One ∷ x) 1 (Zero ∷ y))
  unfolding entry_of steps
  turn_near x y = run (machine e) 2 _ _ refl

  pub turn_far : (x y : List Sym) → Comes (machine e) (AtLeft (oooo ++ x) 2 (One ∷ y)) (AtRight (oooo ++ One ∷ x) 1 y)
  unfolding entry_of steps
  turn_far x y = run (machine e) 8 _ _ refl
