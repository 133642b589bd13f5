-- Automata, by transitions or lists, as kinds of certificates: their fields, what they mean, and their laws.
use Rattle.std.specs.Prelude.{ℕ, ◌&&◌, not, nat_lt, if◌then◌else◌, List, [], ◌∷◌, Option, Some, None, Result, Ok, Err, decimal, ◌≡◌, codes, ◌+◌, ◌≤◌, IsTrue, is_some, length}
use Rattle.machine_text.specs.declared.table.Dir.{Dir}
use Rattle.kind_evidence.specs.Terms.{side_of, side_text, Kind}
use Rattle.text.specs.Terms.{decimal_value, with_value}
use Rattle.text.specs.declared.fields.FieldFault.{FieldFault}
use Rattle.text.specs.declared.fields.FieldFault.TheVariants.{BadKind, BadList, TooLong}
use Rattle.machine_text.specs.Terms.{entry_of, state_limit}
use Rattle.law_turing.proofs.AutomataLaws.{automata_never}
use Rattle.law_turing.proofs.RunLaws.{table_machine}
use Rattle.far.specs.Limits.{size_limit, listed_size_limit, listed_byte_limit}
use Rattle.far.specs.Texts.{Automata, AreAutomata, AreSized, AreAutomataOf, described, delta_text, rows_text, hex_text, automata_by, are_texts}
use Rattle.far.specs.ListedTexts.{ListedTexts, listed_texts, automata_of_texts, described_by}
use Rattle.far.specs.Claims.{AreTextsOf}

-- Automata as a kind of certificates: how their fields are read and written, what they mean, and their law.

-- a size of automata, up to the largest
abbrev pub size_in : ℕ → Option ℕ → Option ℕ
size_in most None = None
size_in most (Some m) = if not (nat_lt m 1) && not (nat_lt most m) then Some m else None

-- three texts of numbers, for tables of n states
abbrev pub numbers_by : ℕ → Dir → ℕ → List ℕ → List ℕ → List ℕ → Result Automata FieldFault
numbers_by n side size delta rows keep = if are_texts n size delta rows keep then Ok
    (automata_by n side size delta rows keep) else Err BadList

-- a side, a size and three texts of numbers, for a table of n states
abbrev pub far_by : ℕ → List (List ℕ) → Result Automata FieldFault
far_by n (side ∷ (size ∷ (delta ∷ (rows ∷ (keep ∷ []))))) =
    with_value (side_of side) (λ side. with_value (size_in size_limit (decimal_value size))
    (λ size. numbers_by n side size delta rows keep))
far_by n fields = Err BadKind

-- the numbers as they are written, from delta on
abbrev pub number_fields : Automata → List (List ℕ)
number_fields a = delta_text a.delta ∷ (rows_text a.rows ∷ (hex_text a.keep ∷ []))

abbrev pub far_fields : Automata → List (List ℕ)
far_fields a = side_text a.side ∷ (decimal a.size ∷ number_fields a)

-- the automata fit the table; they are judged without memory
abbrev pub far_kind : Kind Automata
far_kind = record {
  letter = codes "F";
  by = far_by;
  fields = far_fields;
  meaning = λ a. record {
    writable = AreAutomata a × AreSized a;
    made_for = λ n. a.states ≡ n;
    within = AreSized a;
    wide = λ p. ⊥;
    overflows = λ p. ⊥;
    stands = λ p. AreAutomata a × AreAutomataOf a p;
    unseen = λ p. ⊥;
    takes_memory = λ p. ⊥;
  };
  law = λ a p table stands. automata_never p.states (entry_of p) a.side (described a) (table_machine p table)
      stands.1.fits;
}

-- The fields of a record of automata: how they are read and written.

-- three texts: how long they are together is judged before any of them
abbrev pub texts_by : ListedTexts → Result ListedTexts FieldFault
texts_by t =
    if nat_lt (listed_byte_limit t.states) (length (decimal t.size) + length t.delta + length t.rows + length t.keep)
    then Err TooLong
    else if is_some (automata_of_texts t) then Ok t
    else Err BadList

-- a side, a size and three texts, for a table of n states
abbrev pub listed_by : ℕ → List (List ℕ) → Result ListedTexts FieldFault
listed_by n (side ∷ (size ∷ (delta ∷ (rows ∷ (keep ∷ []))))) =
    with_value (side_of side) (λ side. with_value (size_in listed_size_limit (decimal_value size))
    (λ size. texts_by (listed_texts n side size delta rows keep)))
listed_by n fields = Err BadKind

abbrev pub listed_fields : ListedTexts → List (List ℕ)
listed_fields t = side_text t.side ∷ (decimal t.size ∷ (t.delta ∷ (t.rows ∷ (t.keep ∷ []))))

-- a record of the texts is within the limits
pub record AreWithinRecord (t : ListedTexts) : Type 0 where
  pub short : length (decimal t.size) + length t.delta + length t.rows + length t.keep ≤ listed_byte_limit t.states
  pub some : 1 ≤ t.size
  pub small : t.size ≤ listed_size_limit
  pub made : 1 ≤ t.states
  pub few : t.states ≤ state_limit

-- and the texts give automata
pub record AreListedTexts (t : ListedTexts) : Type 0 where
  pub given : IsTrue (is_some (automata_of_texts t))
  pub within : AreWithinRecord t

-- Automata with listed edges as a kind of certificates: how their fields are read and written, what they mean, and their
-- law.

-- the automata that the texts give fit the table; to judge them takes memory
abbrev pub listed_kind : Kind ListedTexts
listed_kind = record {
  letter = codes "A";
  by = listed_by;
  fields = listed_fields;
  meaning = λ t. record {
    writable = AreListedTexts t;
    made_for = λ n. t.states ≡ n;
    within = AreWithinRecord t;
    wide = λ p. ⊥;
    overflows = λ p. ⊥;
    stands = λ p. AreTextsOf t p;
    unseen = λ p. ⊥;
    takes_memory = λ p. Unit {0};
  };
  law = λ t p table stands. automata_never p.states (entry_of p) stands.automata.side (described_by stands.automata)
      (table_machine p table) stands.fit.fits;
}
