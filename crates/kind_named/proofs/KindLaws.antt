-- The machine is known by its text, and tables with a proof of their own are a kind.
use Rattle.std.proofs.Common.{◌≡◌, ℕ, true, List, Ok, ◌∙◌, ap, refl, arith}
use Rattle.std.specs.Prelude.{bytes_eq}
use Rattle.std.proofs.lemmas.Slice.Eq.{bytes_eq-Decides}
use Rattle.machine_text.specs.Terms.{Packed, tabulated, entry_of, table_of, text_of, faults_of, fault_at, entry_named}
use Rattle.law_machines.proofs.Proved.{by_text}
use Rattle.kind_named.specs.Kind.{skelet1, skelet1_text, named_kind}
use Rattle.text.proofs.DecimalFields.{no_fields}
use Rattle.kind_evidence.specs.Terms.{IsKind}
use Rattle.kind_evidence.proofs.EvidenceLaws.{is_letter}

-- The machine by its text.
named : table_of skelet1_text ≡ Ok skelet1
unfolding table_of faults_of fault_at entry_named tabulated
named = refl

written : text_of skelet1 ≡ skelet1_text
unfolding text_of entry_of entry_named tabulated
written = refl

pub is_table : (text : List ℕ) (p : Packed) → table_of text ≡ Ok p → bytes_eq text skelet1_text ≡ true → p ≡ skelet1
is_table = by_text skelet1_text skelet1 named

pub is_text : (text : List ℕ) (p : Packed) → text ≡ text_of p → p ≡ skelet1 → bytes_eq text skelet1_text ≡ true
is_text text p is table = (bytes_eq-Decides text skelet1_text).1 (is ∙ ap text_of table ∙ written)

-- Tables with a proof of their own are a kind.
pub named_is_kind : IsKind named_kind
named_is_kind = record {
  letter = is_letter 80 (omega arith);
  are_fields = λ e writable. no_fields;
  short = λ e n few writable made. omega (arith, few);
  back = λ e n writable made. refl;
  writable = λ e p within stands. tt;
  made = λ e p stands. tt;
}
