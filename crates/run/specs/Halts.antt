-- The claim that a table halts, as the fields of a record.
use Rattle.std.specs.Prelude.{ℕ, ◌<◌, ◌≤◌, List, codes, if◌then◌else◌, ◌^◌, nat_lt, IfSome, [], ◌∷◌, Option, Some, None, Result, Ok, Err, decimal, ◌≡◌}
use Rattle.run.specs.Limits.{halt_step_limit, late_step_limit}
use Rattle.run.specs.declared.reach.Reach.{Reach}
use Rattle.run.specs.declared.reach.Reach.TheVariants.{Early, Late}
use Rattle.text.specs.Terms.{decimal_value, with_value}
use Rattle.text.specs.declared.fields.FieldFault.{FieldFault}
use Rattle.text.specs.declared.fields.FieldFault.TheVariants.{BadKind, BadNumber}
use Rattle.run.specs.declared.halting.HaltsIn.{HaltsIn}
use Rattle.machine_text.specs.Terms.{Packed, entry_of}
use Rattle.law_turing.specs.Terms.{HaltsAt, score_at}
use Rattle.kind_evidence.specs.Terms.{Meaning}

-- How late a run halts, and by which letter a record says so.

-- a record may say so many steps: late is later than a record of the other letter may be
abbrev pub IsInReach : Reach → ℕ → Type 0
IsInReach Early k = Unit {0}
IsInReach Late k = halt_step_limit < k

-- so many steps are carried out
abbrev pub IsWithinReach : Reach → ℕ → Type 0
IsWithinReach Early k = k ≤ halt_step_limit
IsWithinReach Late k = (halt_step_limit < k) × (k ≤ late_step_limit)

abbrev pub reach_letter : Reach → List ℕ
reach_letter Early = codes "H"
reach_letter Late = codes "L"

-- The fields of a record of a table that halts: how they are read and written.

-- a number of steps, where it is one of that reach
abbrev pub with_steps : Reach → ℕ → Option ℕ → Result HaltsIn FieldFault
with_steps Early k s = Ok (record { steps = k; ones = s; reach = Early })
with_steps Late k s =
    if nat_lt halt_step_limit k then Ok (record { steps = k; ones = s; reach = Late }) else Err BadNumber

-- a number of steps, and a number of ones where it is given
abbrev pub halts_by : Reach → List (List ℕ) → Result HaltsIn FieldFault
halts_by reach (k ∷ []) = with_value (decimal_value k) (λ k. with_steps reach k None)
halts_by reach (k ∷ s ∷ []) = with_value (decimal_value k)
    (λ k. with_value (decimal_value s) (λ s. with_steps reach k (Some s)))
halts_by reach fields = Err BadKind

abbrev pub ones_fields : Option ℕ → List (List ℕ)
ones_fields None = []
ones_fields (Some s) = decimal s ∷ []

abbrev pub halts_fields : HaltsIn → List (List ℕ)
halts_fields e = decimal e.steps ∷ ones_fields e.ones

-- its numbers are those of 64 bits, and that of its steps is one of its reach
abbrev pub AreShort : HaltsIn → Type 0
AreShort e = (e.steps < 2 ^ 64) × IfSome e.ones (λ s. s < 2 ^ 64) × IsInReach e.reach e.steps

-- When the claim that a table halts stands, and what it means.

-- the table halts in so many steps, and with so many ones where that is claimed too
pub record HaltsAsClaimed (e : HaltsIn) (p : Packed) : Type 0 where
  pub halts : HaltsAt (entry_of p) e.steps
  pub score : IfSome e.ones (λ s. s ≡ score_at (entry_of p) e.steps)

-- one that isn't within its reach isn't carried out, and takes no memory
abbrev pub halts_meaning : HaltsIn → Meaning
halts_meaning e = record {
  writable = AreShort e;
  made_for = λ n. Unit {0};
  within = IsWithinReach e.reach e.steps;
  wide = λ p. ⊥;
  overflows = λ p. ⊥;
  stands = HaltsAsClaimed e;
  unseen = λ p. ⊥;
  takes_memory = λ p. IsWithinReach e.reach e.steps;
}
