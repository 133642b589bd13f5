-- What is read from texts are automata, and each byte of these texts is above the space.
use Rattle.std.proofs.Common.{List, ◌++◌, Option, ◌≡◌, ℕ, zero, suc, ◌+◌, ◌*◌, ◌<◌, ◌≤◌, Bool, true, false, [], ◌∷◌, length, get_or, Some, None, inl, inr, sym, ◌∙◌, ap, subst, refl, arith, ◌^◌, ◌==◌, ◌&&◌}
use Rattle.std.specs.Prelude.{option_map, nat_lt, slice_index, if◌then◌else◌, decimal, All}
use Rattle.std.specs.Str.{bytes_eq}
use Rattle.std.proofs.lemmas.Bool.{cases_lt, lt-ltb, le-ltb, and_parts, eqb-true, ltb-true}
use Rattle.std.proofs.lemmas.Option.{option_and_then_some, same_Some}
use Rattle.std.specs.List.{onto_first}
use Rattle.std.specs.Option.{option_and_then}
use Rattle.std.proofs.lemmas.List.Elements.{All-nil, All-cons, All-head, All-tail}
use Rattle.std.proofs.lemmas.Slice.Eq.{bytes_eq-Decides}
use Rattle.machine_text.specs.declared.table.Dir.{Dir}
use Rattle.text.specs.Terms.{decimal_value, parts_of, worth_of, IsField}
use Rattle.far.specs.ListedTexts.{listed_automata, IsRising, IsSet, AreListed, bounded, number_in, next_low, numbers_in, row_in, rows_in, ListedAutomata, counted, automata_in, ListedTexts, automata_of_texts}
use Rattle.text.proofs.DecimalFields.{number_is_field, no_fields}

-- Texts that are read number by number, and row by row.

-- what stands before what is left
abbrev pub before : {A : Type 0} → List A → Option (List A) → Option (List A)
before front = option_map (λ rest. front ++ rest)

-- What is read are numbers of automata.
pub same_inside : {A : Type 0} (a b : A) → ◌≡◌ {A = Option A} (Some a) (Some b) → a ≡ b
same_inside a b e = cc

pub none_some : {A : Type 0} (b : A) → ◌≡◌ {A = Option A} None (Some b) → ⊥
none_some b e = absurd (cc)

bounded_is : (low limit x n : ℕ) → bounded low limit x ≡ Some n → (low ≤ n) × (n < limit)
bounded_is low limit x n =
    elim (cases_lt x low) [
      | inl under ↦ λ e.
          let t : nat_lt x low ≡ true = lt-ltb x low under in
          let is : bounded low limit x ≡ None = rw t refl in
          absurd (none_some n (sym is ∙ e))
      | inr from ↦ elim (cases_lt x limit) [
        | inl below ↦ λ e.
            let t : nat_lt x low ≡ false = le-ltb x low from in
            let u : nat_lt x limit ≡ true = lt-ltb x limit below in
            let is : bounded low limit x ≡ Some x = rw (t, u) refl in
            let same = same_inside x n (sym is ∙ e) in
            (omega arith, omega arith)
        | inr past ↦ λ e.
            let t : nat_lt x low ≡ false = le-ltb x low from in
            let u : nat_lt x limit ≡ false = le-ltb x limit past in
            let is : bounded low limit x ≡ None = rw (t, u) refl in
            absurd (none_some n (sym is ∙ e))
      ]
    ]

number_is : (low limit : ℕ) (text : List ℕ) (n : ℕ) → number_in low limit text ≡ Some n → (low ≤ n) × (n < limit)
unfolding number_in
number_is low limit text n e = option_and_then_some (bounded low limit) (decimal_value text) n e (λ x is by. bounded_is low limit x n by)

-- what a list is made of
pub with_first : {A : Type 0} (x : A) (o : Option (List A)) (l : List A) → option_map (λ rest. x ∷ rest) o ≡ Some l → (rest : List A) × (o ≡ Some rest) × (x ∷ rest ≡ l)
with_first x None l e = absurd (none_some l e)
with_first x (Some rest) l e = (rest, refl, same_inside (x ∷ rest) l e)

first_number : (rising : Bool) (low limit : ℕ) (part : List ℕ) (parts : List (List ℕ)) (ns : List ℕ) → numbers_in rising low limit (part ∷ parts) ≡ Some ns →
    (n : ℕ) × (low ≤ n) × (n < limit) × (rest : List ℕ) × (numbers_in rising (next_low rising n) limit parts ≡ Some rest) × (n ∷ rest ≡ ns)
first_number rising low limit part parts ns e =
    option_and_then_some (λ n. option_map (λ ns. n ∷ ns) (numbers_in rising (next_low rising n) limit parts)) (number_in low limit part) ns e (λ n is by.
    let fits = number_is low limit part n is in
    let rest = with_first n (numbers_in rising (next_low rising n) limit parts) ns by in
    (n, fits.0, fits.1, rest.0, rest.1, rest.2))

pub numbers_below : (rising : Bool) (low limit : ℕ) (parts : List (List ℕ)) (ns : List ℕ) → numbers_in rising low limit parts ≡ Some ns → (k : ℕ) → k < length ns → slice_index ns k < limit
numbers_below rising low limit [] ns e k less = let none : length ns ≡ 0 = sym (ap length (same_inside [] ns e)) in absurd (omega arith)
numbers_below rising low limit (part ∷ parts) ns e k less =
    let (n, from, below, rest, is, same) = first_number rising low limit part parts ns e in
    subst (λ l. slice_index l k < limit) same (at n below rest (numbers_below rising (next_low rising n) limit parts rest is) k (subst (λ l. k < length l) (sym same) less))
  where
    at : (n : ℕ) → n < limit → (rest : List ℕ) → ((k : ℕ) → k < length rest → slice_index rest k < limit) → (k : ℕ) → k < length (n ∷ rest) → slice_index (n ∷ rest) k < limit
    at n below rest all zero less = below
    at n below rest all (suc k) less = all k (omega arith)

pub record RisesFrom (low : ℕ) (ns : List ℕ) : Type 0 where
  pub rising : IsRising ns
  pub from : (k : ℕ) → k < length ns → low ≤ slice_index ns k

pub numbers_rise : (low limit : ℕ) (parts : List (List ℕ)) (ns : List ℕ) → numbers_in true low limit parts ≡ Some ns → RisesFrom low ns
numbers_rise low limit [] ns e =
    let none : length ns ≡ 0 = sym (ap length (same_inside [] ns e)) in
    record { rising = record { order = λ k less. absurd (omega arith) }; from = λ k less. absurd (omega arith) }
numbers_rise low limit (part ∷ parts) ns e =
    let (n, from, below, rest, is, same) = first_number true low limit part parts ns e in
    subst (RisesFrom low) same (more n from rest (numbers_rise (n + 1) limit parts rest is))
  where
    more : (n : ℕ) → low ≤ n → (rest : List ℕ) → RisesFrom (n + 1) rest → RisesFrom low (n ∷ rest)
    more n from rest rises = record { rising = record { order = order }; from = at }
      where
        at : (k : ℕ) → k < length (n ∷ rest) → low ≤ slice_index (n ∷ rest) k
        at zero less = from
        at (suc k) less = omega (arith, rises.from k (omega arith))

        order : (k : ℕ) → k + 1 < length (n ∷ rest) → slice_index (n ∷ rest) k < slice_index (n ∷ rest) (k + 1)
        order zero less = omega (arith, rises.from 0 (omega arith))
        order (suc k) less =
            let e : suc k + 1 ≡ suc (k + 1) = omega arith in
            subst (λ i. slice_index rest k < slice_index (n ∷ rest) i) (sym e) (rises.rising.order k (omega arith))

number_set : (last : ℕ) (parts : List (List ℕ)) (ns : List ℕ) → numbers_in true 0 last parts ≡ Some ns → IsSet last ns
number_set last parts ns e = record { rising = (numbers_rise 0 last parts ns e).rising; small = λ k less. omega (arith, numbers_below true 0 last parts ns e k less) }

row_set : (last : ℕ) (text row : List ℕ) → row_in last text ≡ Some row → IsSet last row
unfolding row_in
row_set last text row =
    elim (bytes_eq text (45 ∷ [])) as (λ b. (if b then Some (last ∷ []) else if bytes_eq text (46 ∷ []) then Some [] else numbers_in true 0 last (parts_of 46 text)) ≡ Some row → IsSet last row) [
      | true ↦ λ e. subst (IsSet last) (same_inside (last ∷ []) row e) one
      | false ↦ elim (bytes_eq text (46 ∷ [])) as (λ b. (if b then Some [] else numbers_in true 0 last (parts_of 46 text)) ≡ Some row → IsSet last row) [
        | true ↦ λ e. subst (IsSet last) (same_inside [] row e) (record { rising = record { order = λ k less. absurd (omega arith) }; small = λ k less. absurd (omega arith) })
        | false ↦ λ e. number_set last (parts_of 46 text) row e
      ]
    ]
  where
    small : (k : ℕ) → k < 1 → slice_index (last ∷ []) k ≤ last
    small zero less = omega arith
    small (suc k) less = absurd (omega arith)

    one : IsSet last (last ∷ [])
    one = record { rising = record { order = λ k less. absurd (omega arith) }; small = small }

rows_sets : (last : ℕ) (parts : List (List ℕ)) (rows : List (List ℕ)) → rows_in last parts ≡ Some rows → (k : ℕ) → k < length rows → IsSet last (get_or rows k [])
rows_sets last [] rows e k less = let none : length rows ≡ 0 = sym (ap length (same_inside [] rows e)) in absurd (omega arith)
rows_sets last (part ∷ parts) rows e k less =
    option_and_then_some (λ row. option_map (λ rows. row ∷ rows) (rows_in last parts)) (row_in last part) rows e (λ row is by.
    let (rest, rest_is, same) = with_first row (rows_in last parts) rows by in
    subst (λ l. IsSet last (get_or l k [])) same (at row (row_set last part row is) rest (rows_sets last parts rest rest_is) k (subst (λ l. k < length l) (sym same) less)))
  where
    at : (row : List ℕ) → IsSet last row → (rest : List (List ℕ)) → ((k : ℕ) → k < length rest → IsSet last (get_or rest k [])) → (k : ℕ) → k < length (row ∷ rest) → IsSet last (get_or (row ∷ rest) k [])
    at row set rest all zero less = set
    at row set rest all (suc k) less = all k (omega arith)

pub read_are : (states : ℕ) (side : Dir) (size : ℕ) (delta_parts rows_parts keep_parts : List (List ℕ)) (delta : List ℕ) (rows : List (List ℕ)) (keep : List ℕ) →
    numbers_in false 0 size delta_parts ≡ Some delta → rows_in (size * states) rows_parts ≡ Some rows → numbers_in true 0 (size * states) keep_parts ≡ Some keep →
    length delta ≡ 2 * size → length rows ≡ 2 * (size * states) → AreListed (listed_automata states side size delta rows keep)
read_are states side size delta_parts rows_parts keep_parts delta rows keep delta_is rows_is keep_is moves edges = record {
  moves = moves;
  targets = numbers_below false 0 size delta_parts delta delta_is;
  edges = edges;
  lists = rows_sets (size * states) rows_parts rows rows_is;
  kept = number_set (size * states) keep_parts keep keep_is;
}

-- Each byte of automata's texts is above the space, and the automata are made for the states that the texts are.
abbrev High : ℕ → Type 0
High byte = 33 ≤ byte

-- a text whose parts are high, and so is what stands between them
onto_high : (x : ℕ) (parts : List (List ℕ)) → All IsField (onto_first x parts) → High x × All IsField parts
onto_high x [] all = (All-head High x [] (All-head IsField (x ∷ []) [] all), no_fields)
onto_high x (part ∷ parts) all =
    let first = All-head IsField (x ∷ part) parts all in
    (All-head High x part first, All-cons IsField part parts (All-tail High x part first) (All-tail IsField (x ∷ part) parts all))

split_high : (byte : ℕ) → High byte → (text : List ℕ) → All IsField (parts_of byte text) → IsField text
split_high byte high [] all = All-nil High
split_high byte high (x ∷ xs) all = elim (x == byte) as (λ b. x == byte ≡ b → All IsField (if b then [] ∷ parts_of byte xs else onto_first x (parts_of byte xs)) → IsField (x ∷ xs)) [
  | true ↦ λ is rest. All-cons High x xs (let same = eqb-true x byte is in omega (arith, high)) (split_high byte high xs (All-tail IsField [] (parts_of byte xs) rest))
  | false ↦ λ is rest. let parts = onto_high x (parts_of byte xs) rest in All-cons High x xs parts.0 (split_high byte high xs parts.1)
] refl all

-- a number's text
value_high : (text : List ℕ) (n : ℕ) → decimal_value text ≡ Some n → IsField text
unfolding decimal_value
value_high text n = elim (nat_lt (worth_of text) (2 ^ 64) && bytes_eq (decimal (worth_of text)) text)
    as (λ b. (nat_lt (worth_of text) (2 ^ 64) && bytes_eq (decimal (worth_of text)) text) ≡ b → (if b then Some (worth_of text) else None) ≡ Some n → IsField text) [
      | true ↦ λ is e.
          let both = and_parts (nat_lt (worth_of text) (2 ^ 64)) (bytes_eq (decimal (worth_of text)) text) is in
          subst IsField ((bytes_eq-Decides (decimal (worth_of text)) text).0 both.1) (number_is_field (worth_of text) (ltb-true (worth_of text) (2 ^ 64) both.0))
      | false ↦ λ is e. absurd (none_some n e)
    ] refl

number_high : (low limit : ℕ) (text : List ℕ) (n : ℕ) → number_in low limit text ≡ Some n → IsField text
unfolding number_in
number_high low limit text n e = option_and_then_some (bounded low limit) (decimal_value text) n e (λ x is by. value_high text x is)

numbers_high : (rising : Bool) (low limit : ℕ) (parts : List (List ℕ)) (ns : List ℕ) → numbers_in rising low limit parts ≡ Some ns → All IsField parts
numbers_high rising low limit [] ns e = no_fields
numbers_high rising low limit (part ∷ parts) ns e =
    option_and_then_some (λ n. option_map (λ ns. n ∷ ns) (numbers_in rising (next_low rising n) limit parts)) (number_in low limit part) ns e (λ n is by.
    let rest = with_first n (numbers_in rising (next_low rising n) limit parts) ns by in
    All-cons IsField part parts (number_high low limit part n is) (numbers_high rising (next_low rising n) limit parts rest.0 rest.1))

row_high : (last : ℕ) (text row : List ℕ) → row_in last text ≡ Some row → IsField text
unfolding row_in
row_high last text row =
    elim (bytes_eq text (45 ∷ [])) as (λ b. bytes_eq text (45 ∷ []) ≡ b → (if b then Some (last ∷ []) else if bytes_eq text (46 ∷ []) then Some [] else numbers_in true 0 last (parts_of 46 text)) ≡ Some row → IsField text) [
      | true ↦ λ is e. subst IsField (sym ((bytes_eq-Decides text (45 ∷ [])).0 is)) (All-cons High 45 [] (omega arith) (All-nil High))
      | false ↦ λ is. elim (bytes_eq text (46 ∷ [])) as (λ b. bytes_eq text (46 ∷ []) ≡ b → (if b then Some [] else numbers_in true 0 last (parts_of 46 text)) ≡ Some row → IsField text) [
        | true ↦ λ is e. subst IsField (sym ((bytes_eq-Decides text (46 ∷ [])).0 is)) (All-cons High 46 [] (omega arith) (All-nil High))
        | false ↦ λ is e. split_high 46 (omega arith) text (numbers_high true 0 last (parts_of 46 text) row e)
      ] refl
    ] refl

rows_high : (last : ℕ) (parts : List (List ℕ)) (rows : List (List ℕ)) → rows_in last parts ≡ Some rows → All IsField parts
rows_high last [] rows e = no_fields
rows_high last (part ∷ parts) rows e =
    option_and_then_some (λ row. option_map (λ rows. row ∷ rows) (rows_in last parts)) (row_in last part) rows e (λ row is by.
    let rest = with_first row (rows_in last parts) rows by in
    All-cons IsField part parts (row_high last part row is) (rows_high last parts rest.0 rest.1))

pub record AreRead (t : ListedTexts) (a : ListedAutomata) : Type 0 where
  pub delta : IsField t.delta
  pub rows : IsField t.rows
  pub keep : IsField t.keep
  pub states : a.states ≡ t.states

counted_states : (states : ℕ) (side : Dir) (size : ℕ) (delta : List ℕ) (rows : List (List ℕ)) (keep : List ℕ) (a : ListedAutomata) → counted states side size delta rows keep ≡ Some a → a.states ≡ states
counted_states states side size delta rows keep a =
    let made = listed_automata states side size delta rows keep in
    elim ((length delta == 2 * size) && (length rows == 2 * (size * states))) as (λ b. (if b then Some made else None) ≡ Some a → a.states ≡ states) [
      | true ↦ λ e. sym (ap (λ (a : ListedAutomata). a.states) (same_Some made a e))
      | false ↦ λ e. absurd (cc)
    ]

pub texts_read : (t : ListedTexts) (a : ListedAutomata) → automata_of_texts t ≡ Some a → AreRead t a
unfolding automata_in
texts_read t a e =
    let last : ℕ = t.size * t.states in
    option_and_then_some (λ delta. option_and_then (λ rows. option_and_then (λ keep. counted t.states t.side t.size delta rows keep) (numbers_in true 0 last (parts_of 44 t.keep))) (rows_in last (parts_of 44 t.rows)))
    (numbers_in false 0 t.size (parts_of 44 t.delta)) a e (λ delta delta_is by.
    option_and_then_some (λ rows. option_and_then (λ keep. counted t.states t.side t.size delta rows keep) (numbers_in true 0 last (parts_of 44 t.keep)))
    (rows_in last (parts_of 44 t.rows)) a by (λ rows rows_is by.
    option_and_then_some (λ keep. counted t.states t.side t.size delta rows keep) (numbers_in true 0 last (parts_of 44 t.keep)) a by (λ keep keep_is by.
    record {
      delta = split_high 44 (omega arith) t.delta (numbers_high false 0 t.size (parts_of 44 t.delta) delta delta_is);
      rows = split_high 44 (omega arith) t.rows (rows_high last (parts_of 44 t.rows) rows rows_is);
      keep = split_high 44 (omega arith) t.keep (numbers_high true 0 last (parts_of 44 t.keep) keep keep_is);
      states = counted_states t.states t.side t.size delta rows keep a by;
    })))
