-- Texts are tested, the fields of automata read back, and both sorts of automata are a kind.
use Rattle.std.proofs.Common.{ℕ, ◌+◌, ◌*◌, ◌^◌, List, [], length, get_or, ◌≡◌, ◌<◌, ◌≤◌, true, false, ltb, ◌∷◌, Some, Ok, Err, refl, ap, ◌∙◌, arith, subst, None, sym}
use Rattle.std.specs.Prelude.{Decides, decimal, is_some, IsTrue, All}
use Rattle.std.proofs.lemmas.Bool.Decides.{Decides-and, Decides-eqb, Decides-ltb, nat_tests}
use Rattle.std.proofs.lemmas.Slice.Eq.{bytes_eq-Decides}
use Rattle.std.proofs.lemmas.Bool.{false≢true}
use Rattle.text.specs.Terms.{parts_of, decimal_value, AreFields, with_value, IsField, spaced}
use Rattle.far.specs.Texts.{hex_glyph, hex_value, hex_text, hex_worth, IsDigit, IsHex, IsDelta, IsRows, AreTexts, is_hex, is_state_digit, is_delta, is_rows, are_texts, Automata, AreAutomata, AreSized, automata_by, delta_text, rows_text}
use Rattle.kind_evidence.proofs.EvidenceLaws.{below_decides, side_back, side_is_high, length_of_side, is_letter, have_room}
use Rattle.machine_text.specs.declared.table.Dir.{Dir}
use Rattle.kind_evidence.specs.Terms.{side_text, IsKind, room_for_fields}
use Rattle.text.specs.declared.fields.FieldFault.TheVariants.{BadList}
use Rattle.text.proofs.DecimalFields.{decimal_value-decimal, length_of_number, number_is_field, and_field, no_fields, length-spaced}
use Rattle.far.specs.Limits.{size_limit, listed_size_limit, listed_byte_limit}
use Rattle.far.specs.Kind.{size_in, numbers_by, far_by, number_fields, far_fields, far_kind, texts_by, listed_by, listed_fields, AreListedTexts, listed_kind}
use Rattle.far.proofs.Written.{texts_back, same_back, bytes_above_space, fields_are_short}
use Rattle.far.specs.ListedTexts.{ListedAutomata, ListedTexts, listed_texts, automata_of_texts}
use Rattle.far.proofs.WellRead.{AreRead, texts_read}

-- The tests of texts answer as the texts are.
hex_decides : (limit : ℕ) (text : List ℕ) → Decides (is_hex limit text) (IsHex limit text)
hex_decides limit text =
    let all = Decides-and _ _ (bytes_eq-Decides (hex_text (hex_worth text)) text) (Decides-ltb (hex_worth text) limit) in
    (λ t. let h = all.0 t in record { form = h.0; small = h.1 }, λ h. all.1 (h.form, h.small))

digit_decides : (limit byte : ℕ) → Decides (is_state_digit limit byte) (IsDigit limit byte)
digit_decides limit byte =
    let all = Decides-and _ _ (Decides-eqb (hex_glyph (hex_value byte)) byte) (Decides-ltb (hex_value byte) limit) in
    (λ t. let h = all.0 t in record { form = h.0; small = h.1 }, λ h. all.1 (h.form, h.small))

delta_decides : (size : ℕ) (text : List ℕ) → Decides (is_delta size text) (IsDelta size text)
delta_decides size text =
    let digits = below_decides (λ k. _) (λ k. _) (λ k. digit_decides size (get_or text k 0)) (2 * size) in
    let all = Decides-and _ _ (Decides-eqb (length text) (2 * size)) digits in
    (λ t. let d = all.0 t in record { count = d.0; each = d.1 }, λ d. all.1 (d.count, d.each))

rows_decide : (count limit : ℕ) (text : List ℕ) → Decides (is_rows count limit text) (IsRows count limit text)
rows_decide count limit text =
    let numbers = below_decides (λ k. _) (λ k. _) (λ k. hex_decides limit (get_or (parts_of 44 text) k [])) count in
    let all = Decides-and _ _ (Decides-eqb (length (parts_of 44 text)) count) numbers in
    (λ t. let r = all.0 t in record { count_is = r.0; each = r.1 }, λ r. all.1 (r.count_is, r.each))

pub texts_decide : (states size : ℕ) (delta rows keep : List ℕ) → Decides (are_texts states size delta rows keep) (AreTexts states size delta rows keep)
unfolding are_texts
texts_decide states size delta rows keep =
    let all = Decides-and _ _ (delta_decides size delta) (Decides-and _ _ (rows_decide (2 * (size * states)) (2 ^ (size * states + 1)) rows) (hex_decides (2 ^ (size * states + 1)) keep)) in
    (λ t. let a = all.0 t in record { moves = a.0; edges = a.1.0; kept = a.1.1 }, λ a. all.1 (a.moves, (a.edges, a.kept)))

-- Three texts are read as numbers of automata where they are those of some, and are refused where they are not; the
-- fields of automata read back, and automata are a kind.
module _ (n : ℕ) (side : Dir) (size : ℕ) (delta rows keep : List ℕ) where
  pub numbers_made : (e : Automata) → e ≡ automata_by n side size delta rows keep → AreTexts n size delta rows keep → Ok e ≡ numbers_by n side size delta rows keep
  numbers_made e same texts =
      let tested : are_texts n size delta rows keep ≡ true = (texts_decide n size delta rows keep).1 texts in
      ap (λ a. Ok a) same ∙ rw tested refl

  pub numbers_refused : (AreTexts n size delta rows keep → ⊥) → Err BadList ≡ numbers_by n side size delta rows keep
  numbers_refused none =
      let tested : are_texts n size delta rows keep ≡ false = elim (are_texts n size delta rows keep) as (λ b. are_texts n size delta rows keep ≡ b → b ≡ false) [
        | true ↦ λ is. absurd (none ((texts_decide n size delta rows keep).0 is))
        | false ↦ λ is. refl
      ] refl in
      rw tested refl

pub size_back : (most m : ℕ) → most < 2 ^ 64 → 1 ≤ m → m ≤ most → size_in most (decimal_value (decimal m)) ≡ Some m
size_back most m fits some small =
    let least : ltb m 1 ≡ false = grind (arith, nat_tests, some) in
    let high : ltb most m ≡ false = grind (arith, nat_tests, small) in
    ap (size_in most) (decimal_value-decimal m (omega (arith, small, fits))) ∙ rw (least, high) refl

numbers_back : (a : Automata) → AreAutomata a → AreSized a → numbers_by a.states a.side a.size (delta_text a.delta) (rows_text a.rows) (hex_text a.keep) ≡ Ok a
numbers_back a numbers within =
    let tested : are_texts a.states a.size (delta_text a.delta) (rows_text a.rows) (hex_text a.keep) ≡ true =
    (texts_decide a.states a.size (delta_text a.delta) (rows_text a.rows) (hex_text a.keep)).1 (texts_back a within.some within.made numbers) in
    rw tested (ap (λ b. Ok b) (same_back a within.some within.made numbers))

pub far_back : (a : Automata) → AreAutomata a → AreSized a → far_by a.states (far_fields a) ≡ Ok a
far_back a numbers within =
    ap (λ o. with_value o (λ side. with_value (size_in size_limit (decimal_value (decimal a.size))) (λ m. numbers_by a.states side m (delta_text a.delta) (rows_text a.rows) (hex_text a.keep)))) (side_back a.side)
    ∙ ap (λ o. with_value o (λ m. numbers_by a.states a.side m (delta_text a.delta) (rows_text a.rows) (hex_text a.keep))) (size_back size_limit a.size (omega arith) within.some within.small)
    ∙ numbers_back a numbers within

pub far_are_fields : (a : Automata) → AreAutomata a → AreSized a → AreFields (far_fields a)
far_are_fields a numbers within =
    let few = within.small in
    let small : a.size < 2 ^ 64 = omega arith in
    let high = bytes_above_space a in
    let side = side_text a.side in
    record {
      each =
          and_field side (decimal a.size ∷ number_fields a) (side_is_high a.side)
          (and_field (decimal a.size) (number_fields a) (number_is_field a.size small)
          (and_field (delta_text a.delta) (rows_text a.rows ∷ (hex_text a.keep ∷ [])) high.0
          (and_field (rows_text a.rows) (hex_text a.keep ∷ []) high.1 (and_field (hex_text a.keep) [] high.2 no_fields))));
      short = omega (
        arith,
        fields_are_short a within numbers,
        length-spaced side (decimal a.size ∷ number_fields a),
        length-spaced (decimal a.size) (number_fields a),
        length_of_side a.side,
        length_of_number a.size small,
      );
    }

pub far_is_kind : IsKind far_kind
far_is_kind = record {
  letter = is_letter 70 (omega arith);
  are_fields = λ a automata. (far_are_fields a automata.0 automata.1).each;
  short = λ a n few automata made. have_room (far_fields a) n few (far_are_fields a automata.0 automata.1);
  back = λ a n automata made. subst (λ n. far_by n (far_fields a) ≡ Ok a) made (far_back a automata.0 automata.1);
  writable = λ a p within stands. (stands.0, within);
  made = λ a p stands. stands.1.states;
}

-- The fields of automata read back.
listed_texts_back : (t : ListedTexts) → AreListedTexts t → texts_by t ≡ Ok t
listed_texts_back t are =
    let short = are.within.short in
    let fits : ltb (listed_byte_limit t.states) (length (decimal t.size) + length t.delta + length t.rows + length t.keep) ≡ false = grind (arith, nat_tests, short) in
    let given : is_some (automata_of_texts t) ≡ true = are.given in
    rw (fits, given) refl

pub listed_back : (t : ListedTexts) → AreListedTexts t → listed_by t.states (listed_fields t) ≡ Ok t
listed_back t are =
    ap (λ o. with_value o (λ side. with_value (size_in listed_size_limit (decimal_value (decimal t.size))) (λ size. texts_by (listed_texts t.states side size t.delta t.rows t.keep)))) (side_back t.side)
    ∙ ap (λ o. with_value o (λ size. texts_by (listed_texts t.states t.side size t.delta t.rows t.keep))) (size_back listed_size_limit t.size (omega arith) are.within.some are.within.small)
    ∙ listed_texts_back t are

read_given : (t : ListedTexts) → IsTrue (is_some (automata_of_texts t)) → (a : ListedAutomata) × AreRead t a
read_given t = elim (automata_of_texts t) as (λ o. automata_of_texts t ≡ o → IsTrue (is_some o) → (a : ListedAutomata) × AreRead t a) [ None ↦ λ is given. absurd (false≢true given) | Some a ↦ λ is given. (a, texts_read t a is) ] refl

pub listed_are_fields : (t : ListedTexts) → AreListedTexts t → All IsField (listed_fields t)
listed_are_fields t are =
    let high = (read_given t are.given).1 in
    let few = are.within.small in
    let small : t.size < 2 ^ 64 = omega arith in
    let side = side_text t.side in
    and_field side (decimal t.size ∷ (t.delta ∷ (t.rows ∷ (t.keep ∷ [])))) (side_is_high t.side)
    (and_field (decimal t.size) (t.delta ∷ (t.rows ∷ (t.keep ∷ []))) (number_is_field t.size small)
    (and_field t.delta (t.rows ∷ (t.keep ∷ [])) high.delta (and_field t.rows (t.keep ∷ []) high.rows (and_field t.keep [] high.keep no_fields))))

pub listed_are_short : (t : ListedTexts) → AreListedTexts t → length (spaced (listed_fields t)) ≤ room_for_fields t.states
listed_are_short t are =
    let short = are.within.short in
    let few = are.within.few in
    let side = side_text t.side in
    omega (
      arith,
      short,
      few,
      length-spaced side (decimal t.size ∷ (t.delta ∷ (t.rows ∷ (t.keep ∷ [])))),
      length-spaced (decimal t.size) (t.delta ∷ (t.rows ∷ (t.keep ∷ []))),
      length-spaced t.delta (t.rows ∷ (t.keep ∷ [])),
      length-spaced t.rows (t.keep ∷ []),
      length-spaced t.keep [],
      length_of_side t.side,
    )

-- Automata with listed edges are a kind.
pub listed_is_kind : IsKind listed_kind
listed_is_kind = record {
  letter = is_letter 65 (omega arith);
  are_fields = listed_are_fields;
  short = λ t n few texts made. subst (λ n. length (spaced (listed_fields t)) ≤ room_for_fields n) made (listed_are_short t texts);
  back = λ t n texts made. subst (λ n. listed_by n (listed_fields t) ≡ Ok t) made (listed_back t texts);
  writable = λ t p within stands. record { given = ap is_some stands.given; within = within };
  made = λ t p stands. sym (texts_read t stands.automata stands.given).states ∙ stands.fit.states;
}
