-- Skelet 26, 1RB1LD_1RC0RB_1LA1RC_1LE0LA_1LC---, never halts. It is a shift overflow counter; the pair that halts is
-- E1.
--
--          0    1
--     A   1RB  1LD
--     B   1RC  0RB
--     C   1LA  1RC
--     D   1LE  0LA
--     E   1LC  ---
--
-- ShiftCounters draws the tape and says why such a counter never halts, ShiftTapes which rules make one, and
-- Skelet15And26 how they are made of moves. These are the moves, A at the turns, B that clears, D that comes back from
-- an overflow, and C over ones:
--
--     carry      x 0001 <A y       -> x <A 1111 y       4 steps
--     clear      x B> 1111 y       -> x 0000 B> y       4
--     cross      x C> 11 y         -> x 11 C> y         2
--     back       x 11 <A y         -> x <A 01 y         2
--     turn       x 0 <A y          -> x 1 B> y          1
--     enter      x B> 0 y          -> x 1 C> y          1
--     meet       x C> 10 y         -> x 1 <A 1 y        2
--     meet_end   x C> $            -> x <A 1 $          1
--     leave      x 1 <A y          -> x <D 1 y          1
--     turn_near  x 01 <D y         -> x 1 B> 0 y        2
--     turn_far   x 0000 <D 1 y     -> x 1 0000 B> y     8
--     meet_near  x 01001 <A y      -> x 01 C> 111 y     4
--     meet_far   x 011 <A y        -> x 1 B> 01 y       3
--
-- After 84 steps the run stands at $ 1 <A 0 10 11 11 10 11 $: left counter 1, right counter 01101, both with their
-- least digits nearest to the head. 22 >= 1 + 2^4 + 1, so the invariant holds.
use Rattle.std.proofs.Common.{List, [], ◌∷◌, refl, arith}
use Rattle.machine_text.specs.declared.table.Sym.{Sym}
use Rattle.machine_text.specs.declared.table.Sym.TheVariants.{Zero, One}
use Rattle.machine_text.specs.Terms.{Packed, entry_of}
use Rattle.law_turing.specs.Terms.{Machine, Never}
use Rattle.law_machines.specs.Zipper.{AtLeft, blank_zipper, steps}
use Rattle.law_machines.proofs.RuleLaws.{run, run⁺}
use Rattle.law_machines.proofs.DigitLists.{i, pairs}
use Rattle.law_machines.proofs.Skelet15And26.{Moves, counts_never}

-- the table as it is stored
abbrev pub skelet26 : Packed
skelet26 = record { codes = 26 ∷ 20 ∷ 27 ∷ 10 ∷ 17 ∷ 27 ∷ 21 ∷ 1 ∷ 19 ∷ 0 ∷ 0 ∷ 0 ∷ 0 ∷ 0 ∷ []; states = 5 }

abbrev m : Machine
m = entry_of skelet26

moves : Moves m 0 1 3 2
unfolding entry_of steps
moves = record {
  carry = λ x y. run m 4 _ _ refl;
  clear = λ x y. run m 4 _ _ refl;
  cross = λ x y. run m 2 _ _ refl;
  back = λ x y. run m 2 _ _ refl;
  turn = λ x y. run⁺ m 0 _ _ refl;
  enter = λ x y. run m 1 _ _ refl;
  meet = λ x y. run m 2 _ _ refl;
  meet_end = λ x. run m 1 _ _ refl;
  leave = λ x y. run m 1 _ _ refl;
  turn_near = λ x y. run m 2 _ _ refl;
  turn_far = λ x y. run m 8 _ _ refl;
  meet_near = λ x y. run⁺ m 3 _ _ refl;
  meet_far = λ x y. run⁺ m 2 _ _ refl;
}

abbrev right : List Sym
right = Zero ∷ One ∷ One ∷ Zero ∷ One ∷ []

pub skelet26_never : Never (entry_of skelet26)
unfolding entry_of steps
skelet26_never = counts_never m 0 1 3 2 moves right (omega arith)
    (run m 84 blank_zipper (AtLeft i 0 (Zero ∷ pairs right [])) refl)
