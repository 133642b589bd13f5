-- Cycles and translated cycles as kinds of certificates: how their fields are read and written, what they mean, and their
-- laws.
use Rattle.std.specs.Prelude.{ℕ, List, [], ◌∷◌, Result, Ok, Err, decimal, ◌<◌, ◌≤◌, ◌^◌, codes}
use Rattle.text.specs.Terms.{decimal_value, with_value}
use Rattle.text.specs.declared.fields.FieldFault.{FieldFault}
use Rattle.text.specs.declared.fields.FieldFault.TheVariants.{BadKind}
use Rattle.kind_evidence.specs.Terms.{side_of, side_text, Kind}
use Rattle.machine_text.specs.Terms.{entry_of}
use Rattle.law_turing.specs.Terms.{Cycle as IsCycle, Translated as IsTranslated}
use Rattle.law_turing.proofs.Cycles.{cycle_never, translated_never}
use Rattle.loops.specs.declared.cycles.Cycle.{Cycle}
use Rattle.loops.specs.declared.translated.Translated.{Translated}
use Rattle.loops.specs.Limits.{time_limit}

-- two times
abbrev pub cycle_by : List (List ℕ) → Result Cycle FieldFault
cycle_by (i ∷ (j ∷ [])) = with_value (decimal_value i)
    (λ i. with_value (decimal_value j) (λ j. Ok (record { i = i; j = j })))
cycle_by fields = Err BadKind

abbrev pub cycle_fields : Cycle → List (List ℕ)
cycle_fields c = decimal c.i ∷ (decimal c.j ∷ [])

-- two times and a side
abbrev pub translated_by : List (List ℕ) → Result Translated FieldFault
translated_by (i ∷ (j ∷ (side ∷ []))) =
    with_value (decimal_value i) (λ i. with_value (decimal_value j)
    (λ j. with_value (side_of side) (λ side. Ok (record { i = i; j = j; side = side }))))
translated_by fields = Err BadKind

abbrev pub translated_fields : Translated → List (List ℕ)
translated_fields c = decimal c.i ∷ (decimal c.j ∷ (side_text c.side ∷ []))

-- the same configuration at two times; a claim over its limit, or whose times aren't in order, isn't carried out
abbrev pub cycle_kind : Kind Cycle
cycle_kind = record {
  letter = codes "C";
  by = λ n fields. cycle_by fields;
  fields = cycle_fields;
  meaning = λ e. record {
    writable = (e.i < 2 ^ 64) × (e.j < 2 ^ 64);
    made_for = λ n. Unit {0};
    within = e.j ≤ time_limit;
    wide = λ p. ⊥;
    overflows = λ p. ⊥;
    stands = λ p. IsCycle (entry_of p) e.i e.j;
    unseen = λ p. ⊥;
    takes_memory = λ p. (e.i < e.j) × (e.j ≤ time_limit);
  };
  law = λ e p table stands. cycle_never (entry_of p) e.i e.j stands;
}

-- the same but for a shift, and for what lies behind
abbrev pub translated_kind : Kind Translated
translated_kind = record {
  letter = codes "T";
  by = λ n fields. translated_by fields;
  fields = translated_fields;
  meaning = λ e. record {
    writable = (e.i < 2 ^ 64) × (e.j < 2 ^ 64);
    made_for = λ n. Unit {0};
    within = e.j ≤ time_limit;
    wide = λ p. ⊥;
    overflows = λ p. ⊥;
    stands = λ p. IsTranslated (entry_of p) e.i e.j e.side;
    unseen = λ p. ⊥;
    takes_memory = λ p. (e.i < e.j) × (e.j ≤ time_limit);
  };
  law = λ e p table stands. translated_never (entry_of p) e.i e.j e.side stands;
}
