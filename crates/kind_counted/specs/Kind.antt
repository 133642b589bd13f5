-- Counted automata as a kind of certificates: a claim by its texts, and the counted automata that they give.
use Rattle.std.specs.Prelude.{◌≡◌, ℕ, ◌+◌, ◌≤◌, IsTrue, is_some, List, length, Option, Some, None, option_map, nat_lt, if◌then◌else◌, [], ◌∷◌, Result, Ok, Err, decimal, codes}
use Rattle.std.specs.Option.{option_and_then}
use Rattle.machine_text.specs.Terms.{state_limit, Packed, entry_of}
use Rattle.text.specs.Terms.{parts_of, decimal_value, with_value}
use Rattle.kind_counted.specs.Automata.{transitions_of}
use Rattle.law_machines.specs.Terms.{CountedSystem, CountedStand}
use Rattle.kind_counted.specs.Limits.{coset_byte_limit, count_limit}
use Rattle.kind_counted.specs.Texts.{half_states, automaton_from, items_from}
use Rattle.text.specs.declared.fields.FieldFault.{FieldFault}
use Rattle.text.specs.declared.fields.FieldFault.TheVariants.{BadKind, BadList, TooLong}
use Rattle.law_machines.proofs.CountedLaws.{counted_never}
use Rattle.kind_evidence.specs.Terms.{Kind}

-- A claim by its texts, and the counted automata that they give.

-- how many states the tables have for which it is made, how many counts the left and the right automaton have, the
-- texts of both, and that of the cosets
pub record CosetTexts : Type 0 where
  pub states : ℕ
  pub left_counts : ℕ
  pub right_counts : ℕ
  pub left : List ℕ
  pub right : List ℕ
  pub cosets : List ℕ

abbrev pub coset_texts : ℕ → ℕ → ℕ → List ℕ → List ℕ → List ℕ → CosetTexts
coset_texts states left_counts right_counts left right cosets = record {
  states = states;
  left_counts = left_counts;
  right_counts = right_counts;
  left = left;
  right = right;
  cosets = cosets;
}

-- the counted automata that the texts give, where the automata have so many states
unfoldable pub counted_by_sizes : CosetTexts → ℕ → ℕ → Option CountedSystem
counted_by_sizes t l r =
    option_and_then (λ left. option_and_then (λ right. option_map (λ items.
    record { split = t.left_counts; left = transitions_of left; right = transitions_of right; items = items })
    (items_from (record { states = t.states; left = l; right = r; counts = t.left_counts + t.right_counts }) None
    (parts_of 44 t.cosets)))
    (automaton_from r t.left_counts (t.left_counts + t.right_counts) (parts_of 44 t.right)))
    (automaton_from l 0 t.left_counts (parts_of 44 t.left))

unfoldable pub counted_in : CosetTexts → Option CountedSystem
counted_in t =
    option_and_then (λ l. option_and_then (λ r. counted_by_sizes t l r) (half_states (parts_of 44 t.right)))
    (half_states (parts_of 44 t.left))

-- the texts are within the limits
pub record AreWithinLimits (t : CosetTexts) : Type 0 where
  pub short : length t.left + length t.right + length t.cosets ≤ coset_byte_limit
  pub counts : t.left_counts + t.right_counts ≤ count_limit
  pub made : 1 ≤ t.states
  pub few : t.states ≤ state_limit

-- and give counted automata
pub record AreCosetTexts (t : CosetTexts) : Type 0 where
  pub given : IsTrue (is_some (counted_in t))
  pub within : AreWithinLimits t

-- the table has as many states as they were made for, and the texts are those of counted automata that stand for it
pub record AreCosetsOf (t : CosetTexts) (p : Packed) : Type 0 where
  pub counted : CountedSystem
  pub given : counted_in t ≡ Some counted
  pub states : t.states ≡ p.states
  pub stand : CountedStand (entry_of p) counted

-- The fields of a record of counted automata: how they are read and written.

-- a number of counts, beside so many others
abbrev pub counts_in : ℕ → Option ℕ → Option ℕ
counts_in others None = None
counts_in others (Some n) = if nat_lt count_limit (others + n) then None else Some n

-- three texts: how long they are together is judged before any of them
abbrev pub cosets_by : CosetTexts → Result CosetTexts FieldFault
cosets_by t =
    if nat_lt coset_byte_limit (length t.left + length t.right + length t.cosets) then Err TooLong
    else if is_some (counted_in t) then Ok t
    else Err BadList

-- how many counts the left and the right automaton have, and three texts, for a table of n states
abbrev pub counted_by : ℕ → List (List ℕ) → Result CosetTexts FieldFault
counted_by n (i ∷ (j ∷ (left ∷ (right ∷ (cosets ∷ []))))) =
    with_value (counts_in 0 (decimal_value i))
    (λ i. with_value (counts_in i (decimal_value j)) (λ j. cosets_by (coset_texts n i j left right cosets)))
counted_by n fields = Err BadKind

abbrev pub counted_fields : CosetTexts → List (List ℕ)
counted_fields t = decimal t.left_counts ∷ (decimal t.right_counts ∷ (t.left ∷ (t.right ∷ (t.cosets ∷ []))))

-- Counted automata as a kind of certificates: how their fields are read and written, what they mean, and their law.

-- the counted automata that the texts give stand for the table; a number may get too large when they are judged, which
-- takes memory
abbrev pub counted_kind : Kind CosetTexts
counted_kind = record {
  letter = codes "W";
  by = counted_by;
  fields = counted_fields;
  meaning = λ t. record {
    writable = AreCosetTexts t;
    made_for = λ n. t.states ≡ n;
    within = AreWithinLimits t;
    wide = λ p. ⊥;
    overflows = λ p. Unit {0};
    stands = λ p. AreCosetsOf t p;
    unseen = λ p. ⊥;
    takes_memory = λ p. Unit {0};
  };
  law = λ t p table stands. counted_never (entry_of p) stands.counted stands.stand;
}
