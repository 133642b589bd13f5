-- Cycles and translated cycles are kinds.
use Rattle.std.proofs.Common.{[], ◌∷◌, refl, arith}
use Rattle.std.specs.Prelude.{decimal}
use Rattle.kind_evidence.specs.Terms.{side_text, IsKind}
use Rattle.kind_evidence.proofs.EvidenceLaws.{side_back, side_is_high, length_of_side, is_letter, have_room}
use Rattle.text.specs.Terms.{AreFields}
use Rattle.text.proofs.DecimalFields.{decimal_value-decimal, length_of_number, number_is_field, and_field, no_fields, length-spaced}
use Rattle.loops.specs.declared.cycles.Cycle.{Cycle}
use Rattle.loops.specs.declared.translated.Translated.{Translated}
use Rattle.loops.specs.Kinds.{cycle_fields, cycle_kind, translated_fields, translated_kind}

are_cycle_fields : (e : Cycle) → (cycle_kind.meaning e).writable → AreFields (cycle_fields e)
are_cycle_fields e small = record {
  each = and_field (decimal e.i) (decimal e.j ∷ []) (number_is_field e.i small.0) (and_field (decimal e.j) [] (number_is_field e.j small.1) no_fields);
  short = omega (arith, length-spaced (decimal e.i) (decimal e.j ∷ []), length-spaced (decimal e.j) [], length_of_number e.i small.0, length_of_number e.j small.1);
}

are_translated_fields : (e : Translated) → (translated_kind.meaning e).writable → AreFields (translated_fields e)
are_translated_fields e small =
    let side = side_text e.side in
    record {
      each = and_field (decimal e.i) (decimal e.j ∷ (side ∷ [])) (number_is_field e.i small.0) (and_field (decimal e.j) (side ∷ []) (number_is_field e.j small.1) (and_field side [] (side_is_high e.side) no_fields));
      short = omega (arith, length-spaced (decimal e.i) (decimal e.j ∷ (side ∷ [])), length-spaced (decimal e.j) (side ∷ []), length-spaced side [], length_of_number e.i small.0, length_of_number e.j small.1, length_of_side e.side);
    }

pub cycle_is_kind : IsKind cycle_kind
cycle_is_kind = record {
  letter = is_letter 67 (omega arith);
  are_fields = λ e small. (are_cycle_fields e small).each;
  short = λ e n few small made. have_room (cycle_fields e) n few (are_cycle_fields e small);
  back = λ e n small made. rw (decimal_value-decimal e.i small.0, decimal_value-decimal e.j small.1) refl;
  writable = λ e p within stands. (omega (arith, within, stands.order), omega (arith, within));
  made = λ e p stands. tt;
}

pub translated_is_kind : IsKind translated_kind
translated_is_kind = record {
  letter = is_letter 84 (omega arith);
  are_fields = λ e small. (are_translated_fields e small).each;
  short = λ e n few small made. have_room (translated_fields e) n few (are_translated_fields e small);
  back = λ e n small made. rw (decimal_value-decimal e.i small.0, decimal_value-decimal e.j small.1, side_back e.side) refl;
  writable = λ e p within stands. (omega (arith, within, stands.order), omega (arith, within));
  made = λ e p stands. tt;
}
