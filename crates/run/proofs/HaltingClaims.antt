-- A claim that a table halts reads back, and what it shows is true.
use Rattle.std.proofs.Common.{◌≡◌, ℕ, [], ◌∷◌, Option, Some, None, Ok, refl, arith, ◌<◌, ◌≤◌, ◌^◌, IfSome}
use Rattle.std.specs.Prelude.{decimal}
use Rattle.std.proofs.lemmas.Bool.Decides.{nat_tests}
use Rattle.text.specs.Terms.{AreFields}
use Rattle.text.proofs.DecimalFields.{decimal_value-decimal, length_of_number, number_is_field, and_field, no_fields, length-spaced}
use Rattle.run.specs.declared.halting.HaltsIn.{HaltsIn}
use Rattle.run.specs.Halts.{AreShort, halts_by, halts_fields, with_steps, IsInReach, HaltsAsClaimed, IsWithinReach}
use Rattle.run.specs.declared.reach.Reach.{Reach}
use Rattle.run.specs.declared.reach.Reach.TheVariants.{Early, Late}
use Rattle.law_turing.specs.Terms.{HaltsWith, score_at}
use Rattle.machine_text.specs.Terms.{Packed, entry_of}
use Rattle.law_turing.proofs.RunLaws.{halts_with, score_within}
use Rattle.run.specs.Limits.{late_step_limit}

-- The fields of a record read back.
abbrev claim : Reach → ℕ → Option ℕ → HaltsIn
claim r k o = record { steps = k; ones = o; reach = r }

with_reach : (r : Reach) (k : ℕ) (o : Option ℕ) → IsInReach r k → with_steps r k o ≡ Ok (claim r k o)
with_reach Early k o has = refl
with_reach Late k o has = grind (arith, nat_tests, has)

read_back : (r : Reach) (k : ℕ) (o : Option ℕ) → AreShort (claim r k o) → halts_by r (halts_fields (claim r k o)) ≡ Ok (claim r k o)
read_back r k None short = rw (decimal_value-decimal k short.0) (with_reach r k None short.2)
read_back r k (Some s) short = rw (decimal_value-decimal k short.0, decimal_value-decimal s short.1) (with_reach r k (Some s) short.2)

are_fields : (r : Reach) (k : ℕ) (o : Option ℕ) → AreShort (claim r k o) → AreFields (halts_fields (claim r k o))
are_fields r k None short = record {
  each = and_field (decimal k) [] (number_is_field k short.0) no_fields;
  short = omega (arith, length-spaced (decimal k) [], length_of_number k short.0);
}
are_fields r k (Some s) short = record {
  each = and_field (decimal k) (decimal s ∷ []) (number_is_field k short.0) (and_field (decimal s) [] (number_is_field s short.1) no_fields);
  short = omega (arith, length-spaced (decimal k) (decimal s ∷ []), length-spaced (decimal s) [], length_of_number k short.0, length_of_number s short.1);
}

pub halts_back : (e : HaltsIn) → AreShort e → halts_by e.reach (halts_fields e) ≡ Ok e
halts_back e = read_back e.reach e.steps e.ones

pub halts_are_fields : (e : HaltsIn) → AreShort e → AreFields (halts_fields e)
halts_are_fields e = are_fields e.reach e.steps e.ones

-- What a claim that a table halts shows is true where the claim stands, and its numbers are short.
pub claimed_is_true : (e : HaltsIn) (p : Packed) → HaltsAsClaimed e p → HaltsWith (entry_of p) e.steps (score_at (entry_of p) e.steps)
claimed_is_true e p stands = halts_with (entry_of p) e.steps stands.halts

short_where : (o : Option ℕ) (n : ℕ) → n < 2 ^ 64 → IfSome o (λ s. s ≡ n) → IfSome o (λ s. s < 2 ^ 64)
short_where None n small is = tt
short_where (Some s) n small is = omega (arith, is)

-- a number of steps that is carried out is one of its reach
pub in_reach : (r : Reach) (k : ℕ) → IsWithinReach r k → (k ≤ late_step_limit) × IsInReach r k
in_reach Early k within = (omega (arith, within), tt)
in_reach Late k within = (within.1, within.0)

pub claimed_is_short : (e : HaltsIn) (p : Packed) → IsWithinReach e.reach e.steps → HaltsAsClaimed e p → AreShort e
claimed_is_short e p within stands =
    let few = score_within (entry_of p) e.steps stands.halts in
    let reach = in_reach e.reach e.steps within in
    let most = reach.0 in
    (omega (arith, most), short_where e.ones (score_at (entry_of p) e.steps) (omega (arith, few, most)) stands.score, reach.1)
