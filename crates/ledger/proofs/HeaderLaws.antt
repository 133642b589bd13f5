-- Which texts begin with a header, as what is kept of their first lines shows.
use Rattle.std.proofs.Common.{◌≡◌, ◌≢◌, ℕ, Bool, true, false, eqb, List, ◌++◌, length, take, drop, Err, inl, inr, ◌↔◌, IsTrue, refl, sym, ap, ◌∙◌, subst, arith, get_or, ◌+◌, ◌≤◌, min, [], ◌∷◌, Ok, append_assoc, length-append, length-take, take_all}
use Rattle.std.specs.Cmp.Lexicographic.{pointwise}
use Rattle.std.proofs.lemmas.Bool.Decides.{Decides-eqb}
use Rattle.std.proofs.lemmas.Slice.Eq.{starts_is, slice_eq-Decides}
use Rattle.std.proofs.lemmas.List.{append_cancel_left, take-append-drop, take_at, take-append-le}
use Rattle.std.proofs.Math.Seq.{take-append-add}
use Rattle.std.proofs.lemmas.Bool.{cases_lt}
use Rattle.machine_text.specs.declared.grammar.TextFault.{TextFault}
use Rattle.machine_text.specs.Terms.{Packed, table_of, states_in, is_table_length, text_byte_limit}
use Rattle.text.specs.Terms.{HasNoNewline, BeginsWithLine}
use Rattle.ledger.specs.LedgerText.{header_words, BeginsBy, BeginsAsHeader, HasHeader, HasNoHeader, IsTornLeft}
use Rattle.ledger.specs.declared.header.Format.{Format}
use Rattle.ledger.specs.declared.header.Format.TheVariants.{One, Two}
use Rattle.ledger.specs.Loading.{NamesAfter, NamesRoot, header_start}
use Rattle.text.proofs.Cuts.{line_has_newline, same_line}
use Rattle.machine_text.proofs.RoundTrip.{table_of-length, length_of_states}
use Rattle.ledger.specs.declared.loading.Left.{Left}
use Rattle.ledger.specs.declared.loading.Left.TheVariants.{Nothing, From}

-- Texts that begin with a header, or with a beginning of one.
module _ (words text : List ℕ) where
  -- the words begin with the text
  pub within_words : (r : Bool) → r ≡ pointwise eqb text (take (length text) words) → r ≡ true → BeginsBy words text
  within_words r is holds = inl (drop (length text) words, (starts_is Decides-eqb words text r is).0 holds)

  -- they don't, and the text begins with the words or doesn't
  pub past_words : (r s : Bool) → r ≡ pointwise eqb text (take (length text) words) → r ≡ false
      → s ≡ pointwise eqb words (take (length words) text) → IsTrue s ↔ BeginsBy words text
  past_words r s is fails past =
      let begins = starts_is Decides-eqb text words s past in (
        λ holds. inr (drop (length words) text, begins.0 holds),
        λ h. elim h [
          | inl w ↦ let holds = (starts_is Decides-eqb words text r is).1 w.0 w.1 in absurd (cc)
          | inr w ↦ begins.1 w.0 w.1
        ],
      )

-- the words of both versions are as long, and differ
pub words_length : (format : Format) → length (header_words format) ≡ 12
words_length One = refl
words_length Two = refl

pub one_format : (f g : Format) (a b : List ℕ) → header_words f ++ a ≡ header_words g ++ b → f ≡ g
one_format One One a b same = refl
one_format One Two a b same = let digits : 49 ≡ 50 = ap (λ (l : List ℕ). get_or l 10 0) same in absurd (omega (arith, digits))
one_format Two One a b same = let digits : 50 ≡ 49 = ap (λ (l : List ℕ). get_or l 10 0) same in absurd (omega (arith, digits))
one_format Two Two a b same = refl

-- and a line that is the header of no root in either version is none
pub named_by_none : (line : List ℕ) → ((root : Packed) → NamesRoot One line root → ⊥) → ((root : Packed) → NamesRoot Two line root → ⊥)
    → (format : Format) (root : Packed) → NamesRoot format line root → ⊥
named_by_none line one two One root named = one root named
named_by_none line one two Two root named = two root named

module _ (text : List ℕ) where
  -- a text without a newline that doesn't begin as a header
  pub none_begun : HasNoNewline text → (BeginsAsHeader text → ⊥) → HasNoHeader text
  none_begun no_newline apart = record {
    whole = λ torn. apart torn.begun;
    none = λ root rest header. line_has_newline header.line no_newline;
  }

  module _ (line rest : List ℕ) (begins : BeginsWithLine text line rest) where
    -- the first line is no header
    pub none_named : ((format : Format) (root : Packed) → NamesRoot format line root → ⊥) → HasNoHeader text
    none_named apart = record {
      whole = λ torn. line_has_newline begins torn.no_newline;
      none = λ root rest' header. apart header.format root (record { name = header.name; is = (same_line begins header.line).0; reads = header.reads });
    }

    -- it is one
    abbrev pub is_named : (format : Format) (root : Packed) → NamesRoot format line root → HasHeader text root rest
    is_named format root named = record { format = format; name = named.name; line = subst (λ (l : List ℕ). BeginsWithLine text l rest) named.is begins; reads = named.reads }

-- a line names no root behind these words, as it doesn't begin with them, or no table stands behind them
pub unnamed : (words line : List ℕ) → ((name : List ℕ) → line ≢ words ++ name) → (root : Packed) → NamesAfter words line root → ⊥
unnamed words line apart root named = apart named.name named.is

pub misnamed : (words line name : List ℕ) (f : TextFault) → line ≡ words ++ name → table_of name ≡ Err f → (root : Packed) → NamesAfter words line root → ⊥
misnamed words line name f worded fails root named =
    let same : name ≡ named.name = append_cancel_left words name named.name (sym worded ∙ named.is) in
    let reads = named.reads in
    absurd (cc)

-- what is behind the words
pub stripped : (words line name : List ℕ) → pointwise eqb (take (length words) line) words ≡ true → name ≡ drop (length words) line → line ≡ words ++ name
stripped words line name same behind =
    let front : take (length words) line ≡ words = (slice_eq-Decides Decides-eqb (take (length words) line) words _ refl).0 same in
    sym (take-append-drop (length words) line) ∙ (ap (λ l. l ++ drop (length words) line) front ∙ ap (λ l. words ++ l) (sym behind))

pub unstripped : (words line : List ℕ) → pointwise eqb (take (length words) line) words ≡ false → (name : List ℕ) → line ≢ words ++ name
unstripped words line apart name e =
    let front : take (length words) line ≡ words = ap (take (length words)) e ∙ take_at words name (length words) refl in
    let same = (slice_eq-Decides Decides-eqb (take (length words) line) words _ refl).1 front in
    cc

-- What is kept of a first line shows whether it is a header, and whether it begins as one.

-- the beginning of a list stays where more is put behind it
pub start_more : (n : ℕ) (line more : List ℕ) → take n (take n line ++ more) ≡ take n (line ++ more)
start_more n line more = elim (cases_lt (length line) n) [
  | inl short ↦ ap (λ (l : List ℕ). take n (l ++ more)) (take_all n line (omega arith))
  | inr long ↦
      let all : n ≤ length (take n line) = omega (arith, length-take n line) in
      take-append-le n (take n line) more all ∙ (take_all n (take n line) (omega (arith, length-take n line)) ∙ sym (take-append-le n line more long))
]

-- no more of it is put behind the beginning than there is room for
pub start_added : (n room count : ℕ) (old more : List ℕ) → room + length old ≡ n → count ≡ min (length more) room → old ++ take count more ≡ take n (old ++ more)
start_added n room count old more all is =
    let same : take count more ≡ take room more = elim (cases_lt room (length more)) [
      | inl short ↦ let e : count ≡ room = omega (arith, is) in ap (λ (k : ℕ). take k more) e
      | inr long ↦ take_all count more (omega (arith, is)) ∙ sym (take_all room more long)
    ] in
    let size : length old + room ≡ n = omega (arith, all) in
    ap (λ (l : List ℕ). old ++ l) same ∙ (sym (take-append-add old more room) ∙ ap (λ (k : ℕ). take k (old ++ more)) size)

-- the most bytes of a header: its words, and the text of a table
abbrev pub header_limit : ℕ
header_limit = 12 + text_byte_limit

table_text_short : (name : List ℕ) (root : Packed) → table_of name ≡ Ok root → length name ≤ text_byte_limit
table_text_short name root reads =
    elim (is_table_length (length name)) as (λ v. is_table_length (length name) ≡ v → length name ≤ text_byte_limit) [
      | true ↦ λ is. let sizes = length_of_states (length name) (states_in (length name)) refl is in omega (arith, sizes.0, sizes.2)
      | false ↦ λ is. let fails = table_of-length name is in absurd (cc)
    ] refl

pub header_short : (format : Format) (line : List ℕ) (root : Packed) → NamesRoot format line root → length line ≤ header_limit
header_short format line root named =
    omega (arith, ap length named.is, length-append (header_words format) named.name, words_length format, table_text_short named.name root named.reads)

whole_start : (line : List ℕ) → length line ≤ header_limit → header_start line ≡ line
whole_start line short = take_all 64 line (omega arith)

-- a line and what is kept of it are headers of the same roots
pub named_whole : (format : Format) (line : List ℕ) (root : Packed) → NamesRoot format (header_start line) root → NamesRoot format line root
named_whole format line root named =
    let short : length line ≤ header_limit = omega (arith, header_short format (header_start line) root named, length-take 64 line) in
    subst (λ (l : List ℕ). NamesRoot format l root) (whole_start line short) named

pub named_start : (format : Format) (line : List ℕ) (root : Packed) → NamesRoot format line root → NamesRoot format (header_start line) root
named_start format line root named = subst (λ (l : List ℕ). NamesRoot format l root) (sym (whole_start line (header_short format line root named))) named

-- and begin both as headers
pub begun_whole : (text : List ℕ) → BeginsAsHeader (header_start text) → BeginsAsHeader text
begun_whole text (format, inl w) =
    let short : length text ≤ header_limit = omega (arith, ap length w.1, length-append (header_start text) w.0, length-take 64 text, words_length format) in
    (format, inl (w.0, w.1 ∙ ap (λ (l : List ℕ). l ++ w.0) (whole_start text short)))
begun_whole text (format, inr w) = (
  format,
  inr (
    w.0 ++ drop 64 text,
    sym (take-append-drop 64 text) ∙ (ap (λ (l : List ℕ). l ++ drop 64 text) w.1 ∙ append_assoc (header_words format) w.0 (drop 64 text)),
  ),
)

pub begun_start : (text : List ℕ) → BeginsAsHeader text → BeginsAsHeader (header_start text)
begun_start text (format, inl w) =
    let short : length text ≤ header_limit = omega (arith, ap length w.1, length-append text w.0, words_length format) in
    (format, inl (w.0, w.1 ∙ ap (λ (l : List ℕ). l ++ w.0) (sym (whole_start text short))))
begun_start text (format, inr w) =
    let words = header_words format in
    let size : 64 ≡ length words + 52 = omega (arith, words_length format) in
    (format, inr (take 52 w.0, ap (take 64) w.1 ∙ (ap (λ (k : ℕ). take k (words ++ w.0)) size ∙ take-append-add words w.0 52)))

empty_start : (text : List ℕ) → header_start text ≡ [] → text ≡ []
empty_start [] e = refl
empty_start (b ∷ text) e = let size : length (header_start (b ∷ text)) ≡ 0 = ap length e in absurd (omega (arith, length-take 64 (b ∷ text), size))

pub torn_left : (text : List ℕ) (left : Left) → IsTornLeft (header_start text) left → IsTornLeft text left
torn_left text Nothing is = empty_start text is
torn_left text (From line kept why) is = (λ e. is.0 (ap header_start e), is.1, is.2, is.3)
