-- Backward reasoning is a kind.
use Rattle.std.proofs.Common.{[], refl, arith}
use Rattle.std.specs.Prelude.{decimal}
use Rattle.text.specs.Terms.{AreFields}
use Rattle.text.proofs.DecimalFields.{decimal_value-decimal, length_of_number, number_is_field, and_field, no_fields, length-spaced}
use Rattle.kind_evidence.specs.Terms.{IsKind}
use Rattle.kind_evidence.proofs.EvidenceLaws.{is_letter, have_room}
use Rattle.backward.specs.declared.backward.Backward.{Backward}
use Rattle.backward.specs.Kind.{backward_fields, backward_kind}

are_backward_fields : (e : Backward) → (backward_kind.meaning e).writable → AreFields (backward_fields e)
are_backward_fields e small = record {
  each = and_field (decimal e.depth) [] (number_is_field e.depth small) no_fields;
  short = omega (arith, length-spaced (decimal e.depth) [], length_of_number e.depth small);
}

pub backward_is_kind : IsKind backward_kind
backward_is_kind = record {
  letter = is_letter 66 (omega arith);
  are_fields = λ e small. (are_backward_fields e small).each;
  short = λ e n few small made. have_room (backward_fields e) n few (are_backward_fields e small);
  back = λ e n small made. rw (decimal_value-decimal e.depth small) refl;
  writable = λ e p within stands. omega (arith, within);
  made = λ e p stands. tt;
}
