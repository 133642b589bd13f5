-- Backward reasoning as a kind of certificates.
use Rattle.std.specs.Prelude.{◌≡◌, ℕ, ◌≤◌, Some, List, [], ◌∷◌, Result, Ok, Err, decimal, ◌<◌, ◌^◌, codes}
use Rattle.machine_text.specs.Terms.{Packed, entry_of}
use Rattle.law_turing.specs.Terms.{Config, after, IsWider, Backward as IsBackward}
use Rattle.backward.specs.Limits.{path_limit, depth_limit}
use Rattle.text.specs.Terms.{decimal_value, with_value}
use Rattle.text.specs.declared.fields.FieldFault.{FieldFault}
use Rattle.text.specs.declared.fields.FieldFault.TheVariants.{BadKind}
use Rattle.law_turing.proofs.BackwardLaws.{backward_never}
use Rattle.law_turing.proofs.RunLaws.{table_machine}
use Rattle.kind_evidence.specs.Terms.{Kind}
use Rattle.backward.specs.declared.backward.Backward.{Backward}

-- When backward reasoning has more paths to go through than it may.

-- the run does so many steps, and some depth up to them has more paths than the limit
pub record IsTooWide (p : Packed) (steps : ℕ) : Type 0 where
  pub at : Config
  pub runs : after (entry_of p) steps ≡ Some at
  pub depth : ℕ
  pub within : depth ≤ steps
  pub wider : IsWider p.states (entry_of p) depth path_limit

-- Backward reasoning as a kind of certificates: how its field is read and written, what it means, and its law.

-- a depth
abbrev pub backward_by : List (List ℕ) → Result Backward FieldFault
backward_by (depth ∷ []) = with_value (decimal_value depth) (λ depth. Ok (record { depth = depth }))
backward_by fields = Err BadKind

abbrev pub backward_fields : Backward → List (List ℕ)
backward_fields e = decimal e.depth ∷ []

-- no configuration comes to a halting pair after exactly so many steps; one over its limit isn't carried out
abbrev pub backward_kind : Kind Backward
backward_kind = record {
  letter = codes "B";
  by = λ n fields. backward_by fields;
  fields = backward_fields;
  meaning = λ e. record {
    writable = e.depth < 2 ^ 64;
    made_for = λ n. Unit {0};
    within = e.depth ≤ depth_limit;
    wide = λ p. IsTooWide p e.depth;
    overflows = λ p. ⊥;
    stands = λ p. IsBackward p.states (entry_of p) e.depth;
    unseen = λ p. ⊥;
    takes_memory = λ p. e.depth ≤ depth_limit;
  };
  law = λ e p table stands. backward_never p.states (entry_of p) e.depth (table_machine p table) stands;
}
