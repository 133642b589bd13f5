-- Closed position sets as a kind of certificates: how their fields are read and written, what they mean, and their law.
use Rattle.std.specs.Prelude.{ℕ, ◌+◌, ◌&&◌, not, nat_lt, if◌then◌else◌, List, [], ◌∷◌, Option, Some, None, Result, Ok, Err, length, decimal, ◌≡◌, codes}
use Rattle.text.specs.Terms.{decimal_value, with_value}
use Rattle.text.specs.declared.fields.FieldFault.{FieldFault}
use Rattle.text.specs.declared.fields.FieldFault.TheVariants.{BadKind, BadList, TooLong}
use Rattle.machine_text.specs.Terms.{entry_of}
use Rattle.law_turing.proofs.ClosedSets.{closed_never}
use Rattle.kind_evidence.specs.Terms.{Kind}
use Rattle.ngram_cps.specs.Limits.{width_limit, list_byte_limit}
use Rattle.ngram_cps.specs.Lists.{Lists, lists, AreLists, AreWithin, IsLocalItem, IsPositionSet, are_lists}
use Rattle.ngram_cps.specs.Words.{IsItem, word_text}

-- a width of words
abbrev pub width_in : Option ℕ → Option ℕ
width_in None = None
width_in (Some g) = if not (nat_lt g 1) && not (nat_lt width_limit g) then Some g else None

-- three lists: how long they are together is judged before any of them
abbrev pub lists_by : Lists → Result Lists FieldFault
lists_by s =
    if nat_lt list_byte_limit (length s.left + length s.right + length s.local) then Err TooLong
    else if are_lists s then Ok s
    else Err BadList

-- a width and three lists, for a table of n states
abbrev pub ngram_by : ℕ → List (List ℕ) → Result Lists FieldFault
ngram_by n (g ∷ (left ∷ (right ∷ (local ∷ [])))) = with_value (width_in (decimal_value g))
    (λ g. lists_by (lists n g left right local))
ngram_by n fields = Err BadKind

abbrev pub ngram_fields : Lists → List (List ℕ)
ngram_fields s = decimal s.width ∷ (s.left ∷ (s.right ∷ (s.local ∷ [])))

-- the lists are a closed position set; they are judged where they stand, without memory
abbrev pub ngram_kind : Kind Lists
ngram_kind = record {
  letter = codes "N";
  by = ngram_by;
  fields = ngram_fields;
  meaning = λ s. record {
    writable = AreLists s × AreWithin s;
    made_for = λ n. s.states ≡ n;
    within = AreWithin s;
    wide = λ p. ⊥;
    overflows = λ p. ⊥;
    stands = λ p. AreLists s × IsPositionSet s p;
    unseen = λ p. ⊥;
    takes_memory = λ p. ⊥;
  };
  law = λ s p table stands. closed_never (entry_of p) (λ w. IsItem s.width s.left (word_text w))
      (λ w. IsItem s.width s.right (word_text w)) (IsLocalItem s) s.width stands.1.closed;
}
