-- The texts of automata are short, give their numbers again, and are those in which these are written.
use Rattle.std.proofs.Common.{◌≡◌, ℕ, zero, suc, ◌+◌, ◌-◌, ◌*◌, ◌^◌, ◌<◌, ◌≤◌, false, cond, eqb, min, List, [], ◌∷◌, ◌++◌, length, take, get_or, map, refl, inl, inr, sym, ◌∙◌, ap, subst, arith, drop}
use Rattle.std.specs.Prelude.{All, slice_index_or}
use Rattle.std.specs.Int.Digits.{digits_of, number_from_digits}
use Rattle.std.proofs.lemmas.Bool.{cases_eq, cases_lt, lt-ltb, le-ltb, ne_eqb}
use Rattle.std.proofs.lemmas.Int.Digits.{number_digits_of, length-digits_of-le}
use Rattle.std.proofs.lemmas.List.{length-map, get_or-map, length-append, length-take, length-take-le, take-take, append_assoc, take_more, take_at, get_or_past}
use Rattle.std.proofs.lemmas.List.Elements.{All-append, All-cons, All-nil}
use Rattle.std.proofs.lemmas.List.Splits.{slice_split_at, slice_split_none, join_with_byte-slice_split}
use Rattle.std.proofs.Math.Nat.{mul-le-mul}
use Rattle.std.proofs.Math.Pow.{pow_mono}
use Rattle.std.proofs.lemmas.Nat.{pow_pos}
use Rattle.std.specs.List.{join_with_byte}
use Rattle.std.proofs.Math.Seq.{drop-append_seam}
use Rattle.far.specs.Texts.{Automata, automata, AreAutomata, hex_glyph, hex_value, hex_text, hex_worth, IsDigit, IsHex, IsDelta, IsRows, AreTexts, delta_text, rows_of, rows_text, automata_by, AreSized, delta_of, owned_delta, owned_rows, owned_keep}
use Rattle.text.specs.Terms.{parts_of, spaced}
use Rattle.far.specs.Limits.{pair_limit, digit_limit, number_byte_limit, size_limit}
use Rattle.far.specs.Kind.{number_fields}
use Rattle.text.proofs.DecimalFields.{length-spaced}
use Rattle.machine_text.specs.declared.table.Dir.{Dir}
use Rattle.machine_text.specs.Terms.{state_limit}

-- The texts of numbers give the numbers again.

-- a digit
glyph_low : (d : ℕ) → d < 10 → hex_glyph d ≡ 48 + d
glyph_low d low = ap (λ b. cond b (48 + d) (87 + d)) (lt-ltb d 10 low)

glyph_high : (d : ℕ) → 10 ≤ d → hex_glyph d ≡ 87 + d
glyph_high d high = ap (λ b. cond b (48 + d) (87 + d)) (le-ltb d 10 high)

pub value_back : (d : ℕ) → hex_value (hex_glyph d) ≡ d
value_back d =
    elim (cases_lt d 10) [
      | inl low ↦ ap hex_value (glyph_low d low) ∙ ap (λ b. cond b (48 + d - 48) (48 + d - 87)) (lt-ltb (48 + d) 58 (omega arith)) ∙ (let e : 48 + d - 48 ≡ d = omega arith in e)
      | inr high ↦ ap hex_value (glyph_high d high) ∙ ap (λ b. cond b (87 + d - 48) (87 + d - 87)) (le-ltb (87 + d) 58 (omega arith)) ∙ (let e : 87 + d - 87 ≡ d = omega arith in e)
    ]

values_back : (ds : List ℕ) → map hex_value (map hex_glyph ds) ≡ ds
values_back [] = refl
values_back (d ∷ ds) = ap (λ x. x ∷ map hex_value (map hex_glyph ds)) (value_back d) ∙ ap (λ xs. d ∷ xs) (values_back ds)

-- a number
pub text_of_some : (n : ℕ) → (n ≡ 0 → ⊥) → hex_text n ≡ map hex_glyph (digits_of 16 n)
unfolding hex_text
text_of_some n some = ap (λ b. cond b (48 ∷ []) (map hex_glyph (digits_of 16 n))) (ne_eqb n 0 some)

pub text_of_none : hex_text 0 ≡ 48 ∷ []
unfolding hex_text
text_of_none = refl

pub worth_back : (n : ℕ) → hex_worth (hex_text n) ≡ n
worth_back n = elim (cases_eq n 0) [
  | inl none ↦ ap (λ k. hex_worth (hex_text k)) none ∙ ap hex_worth text_of_none ∙ sym none
  | inr some ↦ ap hex_worth (text_of_some n some) ∙ ap (number_from_digits 16) (values_back (digits_of 16 n)) ∙ number_digits_of 16 n (omega arith)
]

hex_back : (limit n : ℕ) → n < limit → IsHex limit (hex_text n)
hex_back limit n small = record { form = ap hex_text (worth_back n); small = subst (λ k. k < limit) (sym (worth_back n)) small }

-- each byte of it is a digit
glyph_above : (d : ℕ) → 48 ≤ hex_glyph d
glyph_above d = elim (cases_lt d 10) [
  | inl low ↦ let e = glyph_low d low in omega arith
  | inr high ↦ let e = glyph_high d high in omega arith
]

glyphs_above : (ds : List ℕ) → All (λ b. 48 ≤ b) (map hex_glyph ds)
glyphs_above [] = All-nil (λ b. 48 ≤ b)
glyphs_above (d ∷ ds) = All-cons (λ b. 48 ≤ b) (hex_glyph d) (map hex_glyph ds) (glyph_above d) (glyphs_above ds)

text_above : (n : ℕ) → All (λ b. 48 ≤ b) (hex_text n)
text_above n = elim (cases_eq n 0) [
  | inl none ↦ subst (All (λ b. 48 ≤ b)) (sym (ap hex_text none ∙ text_of_none)) (All-cons (λ b. 48 ≤ b) 48 [] (omega arith) (All-nil (λ b. 48 ≤ b)))
  | inr some ↦ subst (All (λ b. 48 ≤ b)) (sym (text_of_some n some)) (glyphs_above (digits_of 16 n))
]

weaken : (P Q : ℕ → Type 0) → ((b : ℕ) → P b → Q b) → (xs : List ℕ) → All P xs → All Q xs
weaken P Q each xs all = λ k d less. each (slice_index_or xs k d) (all k d less)

no_comma : (n : ℕ) → All (λ b. eqb b 44 ≡ false) (hex_text n)
no_comma n = weaken (λ b. 48 ≤ b) (λ b. eqb b 44 ≡ false) (λ b above. ne_eqb b 44 (λ same. omega arith)) (hex_text n) (text_above n)

above_space : (n : ℕ) → All (λ b. 33 ≤ b) (hex_text n)
above_space n = weaken (λ b. 48 ≤ b) (λ b. 33 ≤ b) (λ b above. omega arith) (hex_text n) (text_above n)

-- rows
parts_back : (x : ℕ) (xs : List ℕ) → parts_of 44 (rows_text (x ∷ xs)) ≡ map hex_text (x ∷ xs)
parts_back x [] = slice_split_none (λ b. eqb b 44) (hex_text x) (no_comma x)
parts_back x (y ∷ ys) = slice_split_at (λ b. eqb b 44) (hex_text x) 44 (rows_text (y ∷ ys)) (no_comma x) refl ∙ ap (λ ps. hex_text x ∷ ps) (parts_back y ys)

parts_of_rows : (rows : List ℕ) → 1 ≤ length rows → parts_of 44 (rows_text rows) ≡ map hex_text rows
parts_of_rows [] some = absurd (omega arith)
parts_of_rows (x ∷ xs) some = parts_back x xs

worths_back : (rows : List ℕ) → map hex_worth (map hex_text rows) ≡ rows
worths_back [] = refl
worths_back (x ∷ xs) = ap (λ n. n ∷ map hex_worth (map hex_text xs)) (worth_back x) ∙ ap (λ ns. x ∷ ns) (worths_back xs)

rows_above_space : (rows : List ℕ) → All (λ b. 33 ≤ b) (rows_text rows)
rows_above_space [] = All-nil (λ b. 33 ≤ b)
rows_above_space (x ∷ []) = above_space x
rows_above_space (x ∷ y ∷ ys) = All-append (λ b. 33 ≤ b) (hex_text x) (44 ∷ rows_text (y ∷ ys)) (above_space x) (All-cons (λ b. 33 ≤ b) 44 (rows_text (y ∷ ys)) (omega arith) (rows_above_space (y ∷ ys)))

rows_back : (count limit : ℕ) (rows : List ℕ) → 1 ≤ count → length rows ≡ count → ((k : ℕ) → get_or rows k 0 < limit) → IsRows count limit (rows_text rows)
rows_back count limit rows some size small =
    let parts = parts_of_rows rows (omega arith) in
    record {
      count_is = ap length parts ∙ length-map rows hex_text ∙ size;
      each = λ k less. subst (IsHex limit) (sym (ap (λ ps. get_or ps k []) parts ∙ get_or-map hex_text rows k 0 [] (omega arith))) (hex_back limit (get_or rows k 0) (small k));
    }

-- delta
delta_above_space : (delta : List ℕ) → All (λ b. 33 ≤ b) (delta_text delta)
delta_above_space [] = All-nil (λ b. 33 ≤ b)
delta_above_space (d ∷ ds) = All-cons (λ b. 33 ≤ b) (hex_glyph d) (delta_text ds) (let high = glyph_above d in omega arith) (delta_above_space ds)

pub digit_back : (size d : ℕ) → d < size → IsDigit size (hex_glyph d)
digit_back size d small = record { form = ap hex_glyph (value_back d); small = subst (λ k. k < size) (sym (value_back d)) small }

delta_back : (size : ℕ) (delta : List ℕ) → length delta ≡ 2 * size → ((k : ℕ) → get_or delta k 0 < size) → IsDelta size (delta_text delta)
delta_back size delta long small = record {
  count = length-map delta hex_glyph ∙ long;
  each = λ k less. subst (IsDigit size) (sym (get_or-map hex_glyph delta k 0 0 (omega arith))) (digit_back size (get_or delta k 0) (small k));
}

some_rows : (m n : ℕ) → 1 ≤ m → 1 ≤ n → 1 ≤ 2 * (m * n)
some_rows (suc m) (suc n) one two = omega arith
some_rows zero n one two = absurd (omega arith)
some_rows (suc m) zero one two = absurd (omega arith)

pub texts_back : (a : Automata) → 1 ≤ a.size → 1 ≤ a.states → AreAutomata a → AreTexts a.states a.size (delta_text a.delta) (rows_text a.rows) (hex_text a.keep)
texts_back a sized some numbers = record {
  moves = delta_back a.size a.delta numbers.moves numbers.targets;
  edges = rows_back (2 * (a.size * a.states)) (2 ^ (a.size * a.states + 1)) a.rows (some_rows a.size a.states sized some) numbers.edges numbers.sets;
  kept = hex_back (2 ^ (a.size * a.states + 1)) a.keep numbers.kept;
}

pub same_back : (a : Automata) → 1 ≤ a.size → 1 ≤ a.states → AreAutomata a → automata_by a.states a.side a.size (delta_text a.delta) (rows_text a.rows) (hex_text a.keep) ≡ a
same_back a sized some numbers =
    let edges = numbers.edges in
    ap (λ d. automata a.states a.side a.size d (rows_of (rows_text a.rows)) (hex_worth (hex_text a.keep))) (values_back a.delta)
    ∙ ap (λ r. automata a.states a.side a.size a.delta r (hex_worth (hex_text a.keep))) (ap (map hex_worth) (parts_of_rows a.rows (subst (λ n. 1 ≤ n) (sym edges) (some_rows a.size a.states sized some))) ∙ worths_back a.rows)
    ∙ ap (λ k. automata a.states a.side a.size a.delta a.rows k) (worth_back a.keep)

pub bytes_above_space : (a : Automata) → All (λ b. 33 ≤ b) (delta_text a.delta) × All (λ b. 33 ≤ b) (rows_text a.rows) × All (λ b. 33 ≤ b) (hex_text a.keep)
bytes_above_space a = (delta_above_space a.delta, rows_above_space a.rows, above_space a.keep)

-- rows, one more
pub rows_more : (rows : List ℕ) (k : ℕ) → 1 ≤ k → k < length rows → rows_text (take (k + 1) rows) ≡ rows_text (take k rows) ++ 44 ∷ hex_text (get_or rows k 0)
rows_more rows k some less = ap rows_text (take_more rows k 0 less) ∙ joined (take k rows) (get_or rows k 0) (let n = length-take-le k rows (omega arith) in omega arith)
  where
    joined : (xs : List ℕ) (x : ℕ) → 1 ≤ length xs → rows_text (xs ++ x ∷ []) ≡ rows_text xs ++ 44 ∷ hex_text x
    joined [] x some = absurd (omega arith)
    joined (y ∷ []) x some = refl
    joined (y ∷ z ∷ zs) x some = ap (λ t. hex_text y ++ 44 ∷ t) (joined (z ∷ zs) x (omega arith)) ∙ sym (append_assoc (hex_text y) (44 ∷ rows_text (z ∷ zs)) (44 ∷ hex_text x))

-- what is appended to a text leaves its beginning
pub begun : (old mid new more : List ℕ) → mid ≡ old ++ more → take (length mid) new ≡ mid → take (length old) new ≡ old
begun old mid new more is kept =
    let longer : length mid ≡ length old + length more = ap length is ∙ length-append old more in
    sym (take-take (length old) (length mid) new (omega arith)) ∙ ap (take (length old)) kept ∙ ap (take (length old)) is ∙ take_at old more (length old) refl

pub appended : (old new more : List ℕ) → new ≡ old ++ more → take (length old) new ≡ old
appended old new more is = ap (take (length old)) is ∙ take_at old more (length old) refl

pub chain : (a b c : List ℕ) → take (length a) b ≡ a → take (length b) c ≡ b → take (length a) c ≡ a
chain a b c first second =
    let size : length a ≡ min (length a) (length b) = sym (ap length first) ∙ length-take (length a) b in
    sym (take-take (length a) (length b) c (omega arith)) ∙ ap (take (length a)) second ∙ first

-- The texts of automata are short.
length_of_hex : (n k : ℕ) → 1 ≤ k → n < 16 ^ k → length (hex_text n) ≤ k
length_of_hex n k some small = elim (cases_eq n 0) [
  | inl none ↦ let e : length (hex_text n) ≡ 1 = ap (λ n. length (hex_text n)) none ∙ ap length text_of_none in omega (arith, e)
  | inr above ↦
      let e : length (hex_text n) ≡ length (digits_of 16 n) = ap length (text_of_some n above) ∙ length-map (digits_of 16 n) hex_glyph in
      let fewer = length-digits_of-le 16 k n (omega arith) small in
      omega (arith, e, fewer)
]

length_of_rows : (rows : List ℕ) (k : ℕ) → 1 ≤ k → ((i : ℕ) → get_or rows i 0 < 16 ^ k) → length (rows_text rows) ≤ length rows * (k + 1)
length_of_rows [] k some small = omega arith
length_of_rows (x ∷ []) k some small = let first = length_of_hex x k some (small 0) in omega (arith, first)
length_of_rows (x ∷ y ∷ ys) k some small =
    let first = length_of_hex x k some (small 0) in
    let others = length_of_rows (y ∷ ys) k some (λ i. small (suc i)) in
    let whole = length-append (hex_text x) (44 ∷ rows_text (y ∷ ys)) in
    omega (arith, first, others, whole)

-- the digits of a set are enough for its bits
digits_of_set : (last n : ℕ) → last ≤ pair_limit → n < 2 ^ (last + 1) → n < 16 ^ digit_limit
digits_of_set last n few small =
    let most : 2 ^ (last + 1) ≤ 2 ^ (pair_limit + 1) = pow_mono {i = last + 1} {j = pair_limit + 1} (omega arith) in
    omega (arith, most, small)

pub fields_are_short : (a : Automata) → AreSized a → AreAutomata a → length (spaced (number_fields a)) ≤ number_byte_limit
fields_are_short a within numbers =
    let few : a.size * a.states ≤ pair_limit = mul-le-mul within.small within.few in
    let rows = length_of_rows a.rows digit_limit (omega arith) (λ i. digits_of_set (a.size * a.states) (get_or a.rows i 0) few (numbers.sets i)) in
    let keep = length_of_hex a.keep digit_limit (omega arith) (digits_of_set (a.size * a.states) a.keep few numbers.kept) in
    let moves : length (delta_text a.delta) ≡ length a.delta = length-map a.delta hex_glyph in
    let small = within.small in
    let count = numbers.moves in
    let edges = numbers.edges in
    omega (
      arith,
      few,
      rows,
      keep,
      moves,
      small,
      count,
      edges,
      length-spaced (delta_text a.delta) (rows_text a.rows ∷ (hex_text a.keep ∷ [])),
      length-spaced (rows_text a.rows) (hex_text a.keep ∷ []),
      length-spaced (hex_text a.keep) [],
    )

-- The numbers of texts that are those of automata are as many as there have to be, and none is too large.
targets_small : (size : ℕ) (text : List ℕ) (k : ℕ) → 1 ≤ size → IsDelta size text → get_or (delta_of text) k 0 < size
targets_small size text k some d =
    let count = d.count in
    elim (cases_lt k (2 * size)) [
      | inl less ↦
          let at : get_or (delta_of text) k 0 ≡ hex_value (get_or text k 0) = get_or-map hex_value text k 0 0 (omega arith) in
          let small = (d.each k less).small in
          omega arith
      | inr past ↦
          let at : get_or (delta_of text) k 0 ≡ 0 = get_or_past (delta_of text) k 0 (let n = length-map text hex_value in omega arith) in
          omega arith
    ]

sets_small : (count bits : ℕ) (text : List ℕ) (k : ℕ) → IsRows count (2 ^ bits) text → get_or (rows_of text) k 0 < 2 ^ bits
sets_small count bits text k r =
    let size = r.count_is in
    elim (cases_lt k count) [
      | inl less ↦
          let at : get_or (rows_of text) k 0 ≡ hex_worth (get_or (parts_of 44 text) k []) = get_or-map hex_worth (parts_of 44 text) k [] 0 (omega arith) in
          let small = (r.each k less).small in
          omega arith
      | inr past ↦
          let at : get_or (rows_of text) k 0 ≡ 0 = get_or_past (rows_of text) k 0 (let n = length-map (parts_of 44 text) hex_worth in omega arith) in
          let some = pow_pos bits in
          omega arith
    ]

pub texts_give : (states size : ℕ) (side : Dir) (delta rows : List ℕ) (keep : ℕ) (delta_text rows_text keep_text : List ℕ) → 1 ≤ size
    → delta ≡ delta_of delta_text → IsDelta size delta_text → rows ≡ rows_of rows_text → IsRows (2 * (size * states)) (2 ^ (size * states + 1)) rows_text
    → keep ≡ hex_worth keep_text → IsHex (2 ^ (size * states + 1)) keep_text → AreAutomata (automata states side size delta rows keep)
texts_give states size side delta rows keep delta_text rows_text keep_text some delta_is d rows_is r keep_is h = record {
  moves = ap length delta_is ∙ length-map delta_text hex_value ∙ d.count;
  targets = λ k. subst (λ xs. get_or xs k 0 < size) (sym delta_is) (targets_small size delta_text k some d);
  edges = ap length rows_is ∙ length-map (parts_of 44 rows_text) hex_worth ∙ r.count_is;
  sets = λ k. subst (λ xs. get_or xs k 0 < 2 ^ (size * states + 1)) (sym rows_is) (sets_small (2 * (size * states)) (size * states + 1) rows_text k r);
  kept = subst (λ n. n < 2 ^ (size * states + 1)) (sym keep_is) h.small;
}

-- Texts that are those of automata are those in which the numbers that they give are written; and three texts one
-- behind another are found again.
digits_written : (text : List ℕ) → ((k : ℕ) → k < length text → hex_glyph (hex_value (get_or text k 0)) ≡ get_or text k 0) → map hex_glyph (map hex_value text) ≡ text
digits_written [] each = refl
digits_written (b ∷ bs) each = ap (λ c. c ∷ map hex_glyph (map hex_value bs)) (each 0 (omega arith)) ∙ ap (λ cs. b ∷ cs) (digits_written bs (λ k less. each (suc k) (omega arith)))

pub delta_written : (size : ℕ) (text : List ℕ) → IsDelta size text → text ≡ delta_text (delta_of text)
delta_written size text d = let count = d.count in sym (digits_written text (λ k less. (d.each k (omega arith)).form))

numbers_written : (texts : List (List ℕ)) → ((k : ℕ) → k < length texts → hex_text (hex_worth (get_or texts k [])) ≡ get_or texts k []) → map hex_text (map hex_worth texts) ≡ texts
numbers_written [] each = refl
numbers_written (t ∷ ts) each = ap (λ s. s ∷ map hex_text (map hex_worth ts)) (each 0 (omega arith)) ∙ ap (λ ss. t ∷ ss) (numbers_written ts (λ k less. each (suc k) (omega arith)))

pub rows_written : (count limit : ℕ) (text : List ℕ) → IsRows count limit text → text ≡ rows_text (rows_of text)
rows_written count limit text r =
    let size = r.count_is in
    sym (ap (join_with_byte 44) (numbers_written (parts_of 44 text) (λ k less. (r.each k (omega arith)).form)) ∙ join_with_byte-slice_split 44 text)

-- they are short
pub texts_are_short : (states size : ℕ) (side : Dir) (delta rows keep : List ℕ) → 1 ≤ size → size ≤ size_limit → 1 ≤ states → states ≤ state_limit → AreTexts states size delta rows keep
    → length delta + length rows + length keep ≤ number_byte_limit
texts_are_short states size side delta rows keep some small made few texts =
    let a : Automata = automata_by states side size delta rows keep in
    let numbers : AreAutomata a = texts_give states size side _ _ _ delta rows keep some refl texts.moves refl texts.edges refl texts.kept in
    let short = fields_are_short a (record { some = some; small = small; made = made; few = few }) numbers in
    omega (
      arith,
      short,
      ap length (delta_written size delta texts.moves),
      ap length (rows_written _ _ rows texts.edges),
      ap length texts.kept.form,
      length-spaced (delta_text a.delta) (rows_text a.rows ∷ (hex_text a.keep ∷ [])),
      length-spaced (rows_text a.rows) (hex_text a.keep ∷ []),
      length-spaced (hex_text a.keep) [],
    )

-- three texts one behind another
module _ (states size row_bytes : ℕ) (delta rows keep text : List ℕ) (text_is : text ≡ (delta ++ rows) ++ keep) (count : length delta ≡ 2 * size) (row_is : row_bytes ≡ length rows) where
  joined : text ≡ delta ++ (rows ++ keep)
  joined = text_is ∙ append_assoc delta rows keep

  others : drop (2 * size) text ≡ rows ++ keep
  others = ap (drop (2 * size)) joined ∙ ap (λ n. drop n (delta ++ (rows ++ keep))) (sym count) ∙ drop-append_seam delta (rows ++ keep)

  delta_again : owned_delta size text ≡ delta
  delta_again = ap (take (2 * size)) joined ∙ take_at delta (rows ++ keep) (2 * size) count

  rows_again : owned_rows size row_bytes text ≡ rows
  rows_again = ap (take row_bytes) others ∙ take_at rows keep row_bytes (sym row_is)

  keep_again : owned_keep size row_bytes text ≡ keep
  keep_again = ap (drop row_bytes) others ∙ ap (λ n. drop n (rows ++ keep)) row_is ∙ drop-append_seam rows keep

  pub room_for : 2 * size + row_bytes ≤ length text
  room_for = omega (arith, ap length joined, length-append delta (rows ++ keep), length-append rows keep, count, row_is)

  pub texts_again : AreTexts states size delta rows keep → AreTexts states size (owned_delta size text) (owned_rows size row_bytes text) (owned_keep size row_bytes text)
  texts_again texts = rw (delta_again, rows_again, keep_again) texts

  pub automata_again : (side : Dir) → automata_by states side size (owned_delta size text) (owned_rows size row_bytes text) (owned_keep size row_bytes text) ≡ automata_by states side size delta rows keep
  automata_again side = rw (delta_again, rows_again, keep_again) refl

-- the texts of numbers, written one behind another
module _ (a : Automata) (some : 1 ≤ a.size) (made : 1 ≤ a.states) (numbers : AreAutomata a) (start first second text delta rows : List ℕ) (len : ℕ)
    (start_is : start ≡ []) (delta_is : delta ≡ a.delta) (first_is : first ≡ start ++ delta_text delta) (rows_is : rows ≡ a.rows)
    (second_is : second ≡ first ++ rows_text rows) (len_is : len ≡ length second) (text_is : text ≡ second ++ hex_text a.keep) where
  both : second ≡ delta_text a.delta ++ rows_text a.rows
  both = second_is ∙ ap (λ xs. xs ++ rows_text rows) (first_is ∙ ap (λ xs. xs ++ delta_text delta) start_is ∙ ap delta_text delta_is) ∙ ap (λ r. delta_text a.delta ++ rows_text r) rows_is

  whole : text ≡ (delta_text a.delta ++ rows_text a.rows) ++ hex_text a.keep
  whole = text_is ∙ ap (λ xs. xs ++ hex_text a.keep) both

  counted : length (delta_text a.delta) ≡ 2 * a.size
  counted = length-map a.delta hex_glyph ∙ numbers.moves

  rows_counted : len - length delta ≡ length (rows_text a.rows)
  rows_counted = omega (arith, len_is, ap length both, length-append (delta_text a.delta) (rows_text a.rows), length-map a.delta hex_glyph, ap length delta_is)

  pub room_written : 2 * a.size + (len - length delta) ≤ length text
  room_written = room_for a.states a.size (len - length delta) _ _ _ text whole counted (rows_counted)

  pub texts_written : AreTexts a.states a.size (owned_delta a.size text) (owned_rows a.size (len - length delta) text) (owned_keep a.size (len - length delta) text)
  texts_written = texts_again a.states a.size (len - length delta) _ _ _ text whole counted (rows_counted) (texts_back a some made numbers)

  pub automata_written : automata_by a.states a.side a.size (owned_delta a.size text) (owned_rows a.size (len - length delta) text) (owned_keep a.size (len - length delta) text) ≡ a
  automata_written = automata_again a.states a.size (len - length delta) _ _ _ text whole counted (rows_counted) a.side ∙ same_back a some made numbers
