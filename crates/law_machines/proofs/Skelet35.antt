-- Skelet 35, 1RB1LC_0RC0RB_1LD0LA_1LE---_1LA0LA, never halts. It is a shift overflow counter; the pair that halts is
-- state D on a one.
--
--          0    1
--     A   1RB  1LC
--     B   0RC  0RB
--     C   1LD  0LA
--     D   1LE  ---
--     E   1LA  0LA
--
-- ShiftCounters draws the tape and says why such a counter never halts, and ShiftTapes which rules make one;
-- Skelet33To35 and Skelet34And35 have those of its rules that other machines share. Here are the ones that meet its own
-- entry E1:
--
--     meet      x 0 C> 10 y     -> x <A 011 y         6 steps
--     meet_end  x 10 C> $       -> x <A 011 $         3
--     meet_old  x 01001 <A y    -> x 1 B> 0111 y      5
--
-- After 102 steps the run stands at $ 1 <A 0 11 10 11 10 11 $: left counter 1, right counter 10101 in binary, both with
-- their least digits nearest to the head. 21 >= 1 + 2^4 + 1, so the invariant holds.
use Rattle.std.proofs.Common.{List, [], ◌∷◌, refl, arith}
use Rattle.machine_text.specs.declared.table.Sym.{Sym}
use Rattle.machine_text.specs.declared.table.Sym.TheVariants.{Zero, One}
use Rattle.machine_text.specs.Terms.{Packed, entry_of}
use Rattle.law_turing.specs.Terms.{Machine, Never}
use Rattle.law_machines.specs.Zipper.{AtLeft, AtRight, blank_zipper, steps, Comes, Goes}
use Rattle.law_machines.proofs.RuleLaws.{run, run⁺}
use Rattle.law_machines.proofs.DigitLists.{i, pairs}
use Rattle.law_machines.proofs.Skelet33To35.{table}
use Rattle.law_machines.proofs.Skelet34And35.{counts_never}

abbrev pub skelet35 : Packed
skelet35 = table 1

abbrev m : Machine
m = entry_of skelet35

meet : (x y : List Sym) → Comes m (AtRight (Zero ∷ x) 2 (One ∷ Zero ∷ y)) (AtLeft x 0 (Zero ∷ One ∷ One ∷ y))
unfolding entry_of steps
meet x y = run m 6 _ _ refl

meet_end : (x : List Sym) → Comes m (AtRight (Zero ∷ One ∷ x) 2 []) (AtLeft x 0 (Zero ∷ One ∷ One ∷ []))
unfolding entry_of steps
meet_end x = run m 3 _ _ refl

meet_old : (x y : List Sym) → Goes m (AtLeft (One ∷ Zero ∷ Zero ∷ One ∷ Zero ∷ x) 0 y)
    (AtRight (One ∷ x) 1 (Zero ∷ One ∷ One ∷ One ∷ y))
unfolding entry_of steps
meet_old x y = run⁺ m 4 _ _ refl

abbrev right : List Sym
right = One ∷ Zero ∷ One ∷ Zero ∷ One ∷ []

pub skelet35_never : Never (entry_of skelet35)
unfolding entry_of steps
skelet35_never = counts_never 1 meet meet_end meet_old right (omega arith)
    (run m 102 blank_zipper (AtLeft i 0 (Zero ∷ pairs right [])) refl)
