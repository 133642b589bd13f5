-- Skelet 15, 1RB---_1RC1LB_1LD1RE_1LB0LD_1RA0RC, never halts. It is a shift overflow counter; the pair that halts is
-- A1.
--
--          0    1                                   0    1
--     A   1RB  ---                             A   1LB  ---
--     B   1RC  1LB       its mirror image:     B   1LC  1RB
--     C   1LD  1RE                             C   1RD  1LE
--     D   1LB  0LD                             D   1RB  0RD
--     E   1RA  0RC                             E   1LA  0LC
--
-- Its mirror image is Skelet 26 with the states E, C, A, B and D named A, B, C, D and E, so that it begins in the state
-- that is E there. A machine and its mirror image halt both or neither. ShiftCounters draws the tape and says why such
-- a counter never halts, ShiftTapes which rules make one, and Skelet15And26 how they are made of moves. These are the
-- moves of the mirror image, C at the turns, D that clears, E that comes back from an overflow, and B over ones:
--
--     carry      x 0001 <C y       -> x <C 1111 y       4 steps
--     clear      x D> 1111 y       -> x 0000 D> y       4
--     cross      x B> 11 y         -> x 11 B> y         2
--     back       x 11 <C y         -> x <C 01 y         2
--     turn       x 0 <C y          -> x 1 D> y          1
--     enter      x D> 0 y          -> x 1 B> y          1
--     meet       x B> 10 y         -> x 1 <C 1 y        2
--     meet_end   x B> $            -> x <C 1 $          1
--     leave      x 1 <C y          -> x <E 1 y          1
--     turn_near  x 01 <E y         -> x 1 D> 0 y        2
--     turn_far   x 0000 <E 1 y     -> x 1 0000 D> y     8
--     meet_near  x 01001 <C y      -> x 01 B> 111 y     4
--     meet_far   x 011 <C y        -> x 1 D> 01 y       3
--
-- After 71 steps the run of the mirror image stands at $ 1 <C 0 11 11 11 10 11 $: left counter 1, right counter 11101,
-- both with their least digits nearest to the head. 23 >= 1 + 2^4 + 1, so the invariant holds.
use Rattle.std.proofs.Common.{List, [], ◌∷◌, refl, arith}
use Rattle.machine_text.specs.declared.table.Sym.{Sym}
use Rattle.machine_text.specs.declared.table.Sym.TheVariants.{Zero, One}
use Rattle.machine_text.specs.Terms.{Packed, entry_of}
use Rattle.law_turing.specs.Terms.{Machine, mirrored, Never}
use Rattle.law_turing.proofs.Renaming.{mirror_keeps}
use Rattle.law_machines.specs.Zipper.{AtLeft, blank_zipper, steps}
use Rattle.law_machines.proofs.RuleLaws.{run, run⁺}
use Rattle.law_machines.proofs.DigitLists.{i, pairs}
use Rattle.law_machines.proofs.Skelet15And26.{Moves, counts_never}

-- the table as it is stored
abbrev pub skelet15 : Packed
skelet15 = record { codes = 26 ∷ 0 ∷ 27 ∷ 18 ∷ 20 ∷ 29 ∷ 18 ∷ 4 ∷ 25 ∷ 11 ∷ 0 ∷ 0 ∷ 0 ∷ 0 ∷ []; states = 5 }

-- the mirror image
abbrev m : Machine
m = mirrored (entry_of skelet15)

moves : Moves m 2 3 4 1
unfolding entry_of steps
moves = record {
  carry = λ x y. run m 4 _ _ refl;
  clear = λ x y. run m 4 _ _ refl;
  cross = λ x y. run m 2 _ _ refl;
  back = λ x y. run m 2 _ _ refl;
  turn = λ x y. run⁺ m 0 _ _ refl;
  enter = λ x y. run m 1 _ _ refl;
  meet = λ x y. run m 2 _ _ refl;
  meet_end = λ x. run m 1 _ _ refl;
  leave = λ x y. run m 1 _ _ refl;
  turn_near = λ x y. run m 2 _ _ refl;
  turn_far = λ x y. run m 8 _ _ refl;
  meet_near = λ x y. run⁺ m 3 _ _ refl;
  meet_far = λ x y. run⁺ m 2 _ _ refl;
}

abbrev right : List Sym
right = One ∷ One ∷ One ∷ Zero ∷ One ∷ []

mirror_never : Never m
unfolding entry_of steps
mirror_never = counts_never m 2 3 4 1 moves right (omega arith)
    (run m 71 blank_zipper (AtLeft i 2 (Zero ∷ pairs right [])) refl)

pub skelet15_never : Never (entry_of skelet15)
skelet15_never k halts = mirror_never k (mirror_keeps (entry_of skelet15) k halts)
