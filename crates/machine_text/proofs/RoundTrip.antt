-- The text of a table is ASCII, and names that table when it is parsed.
use Rattle.std.proofs.Common.{◌≡◌, ℕ, ◌+◌, ◌-◌, ◌*◌, ◌/◌, ◌%◌, ◌<◌, ◌≤◌, true, false, eqb, cond, List, [], ◌∷◌, length, get_or, Option, Some, None, IfSome, Ok, Err, refl, sym, ap, ◌∙◌, inl, inr, arith, ◌≢◌, zero, suc}
use Rattle.std.proofs.lemmas.Bool.{cases_lt}
use Rattle.std.proofs.lemmas.Bool.Decides.{nat_tests}
use Rattle.std.proofs.lemmas.List.{ext_get_or, get_or_past}
use Rattle.std.proofs.lemmas.List.FromFn.{length-map-range_with_len}
use Rattle.machine_text.specs.Limits.{state_limit}
use Rattle.machine_text.specs.declared.table.Sym.{Sym}
use Rattle.machine_text.specs.declared.table.Sym.TheVariants.{Zero, One}
use Rattle.machine_text.specs.declared.table.Dir.TheVariants.{L, R}
use Rattle.machine_text.specs.declared.table.Entry.{Entry}
use Rattle.machine_text.specs.declared.grammar.TextFault.{TextFault}
use Rattle.machine_text.specs.declared.grammar.TextFault.TheVariants.{BadLength}
use Rattle.machine_text.specs.Packed.{symbol_number, symbol_of, code_of, tabulated, IsMapOf, Packed, IsTable, coded_entry, pair_place, entry_of}
use Rattle.machine_text.specs.Text.{states_in, is_table_length, is_state_letter, faults_of, entry_named, table_named, table_of, symbol_byte, direction_byte, text_of, may_begin, may_direct, may_end, fault_at}
use Rattle.machine_text.proofs.Tables.{symbol_number-symbol_of, entry_with, codes-tabulated, symbol_number-le, symbol_of-symbol_number, same_entry, same_table, IsTable-tabulated, entry_of-tabulated}
use Rattle.machine_text.specs.declared.table.Dir.{Dir}
use Rattle.machine_text.specs.inside.{entry_byte, byte_at}
use Rattle.machine_text.proofs.Reading.{found_nowhere}
use Rattle.machine_text.proofs.Rows.{length-text_of, get_or-text_of, byte_in_row, byte_of_bar}

-- The table that a text names, and what parsing the text of a table gives.

-- a letter is that of one of n states
letter_within : (n byte : ℕ) → is_state_letter n byte ≡ true → byte - 65 < n
letter_within n byte is = grind (arith, nat_tests)

-- what a text of n states names, pair by pair
abbrev pub named : ℕ → List ℕ → ℕ → Sym → Option Entry
named n text q s = entry_named n text (7 * q + 3 * symbol_number s)

-- it is a map of n states
module _ (n : ℕ) (text : List ℕ) (some : 1 ≤ n) (limit : n ≤ state_limit) (size : 7 * n ≡ length text + 1) where
  inside_named : (i : ℕ) → IfSome (entry_named n text i) (λ e. e.next.0 < n)
  unfolding entry_named
  inside_named i =
      elim (is_state_letter n (get_or text (i + 2) 0)) as (λ b. is_state_letter n (get_or text (i + 2) 0) ≡ b → IfSome (cond b (Some (entry_with (cond (eqb (get_or text i 0) 48) Zero One) (cond (eqb (get_or text (i + 1) 0) 76) L R) (get_or text (i + 2) 0 - 65))) None) (λ e. e.next.0 < n)) [
        | true ↦ λ is. letter_within n (get_or text (i + 2) 0) is
        | false ↦ λ is. tt
      ] refl

  none_past : (i : ℕ) → length text ≤ i + 2 → entry_named n text i ≡ None
  unfolding entry_named
  none_past i past =
      let blank : get_or text (i + 2) 0 ≡ 0 = get_or_past text (i + 2) 0 past in
      rw blank refl

  pub IsMapOf-named : IsMapOf n (named n text)
  IsMapOf-named = record {
    some = some;
    limit = limit;
    beyond = λ q s past. none_past (7 * q + 3 * symbol_number s) (omega arith);
    inside = λ q s. inside_named (7 * q + 3 * symbol_number s);
  }

  place_of_pair : (k : ℕ) → 7 * (k / 2) + 3 * symbol_number (symbol_of (k % 2)) ≡ 7 * (k / 2) + 3 * (k % 2)
  place_of_pair k = ap (λ s. 7 * (k / 2) + 3 * s) (symbol_number-symbol_of (k % 2) (omega arith))

  -- codes that are written for the pairs of the states, and for no others, are those of the table
  pub codes_from_written : (codes : List ℕ) → length codes ≡ 2 * state_limit
      → ((j : ℕ) → j < 2 * n → get_or codes j 0 ≡ code_of (entry_named n text (7 * (j / 2) + 3 * (j % 2))))
      → ((j : ℕ) → 2 * n ≤ j → get_or codes j 0 ≡ 0)
      → codes ≡ (table_named n text).codes
  unfolding tabulated
  codes_from_written codes all written others =
      ext_get_or 0 codes (table_named n text).codes (all ∙ sym (length-map-range_with_len (λ k. code_of (named n text (k / 2) (symbol_of (k % 2)))) 0 (2 * state_limit))) (λ j below.
      let same : code_of (entry_named n text (7 * (j / 2) + 3 * (j % 2))) ≡ get_or (table_named n text).codes j 0 =
      ap (λ i. code_of (entry_named n text i)) (sym (place_of_pair j)) ∙ sym (codes-tabulated n (named n text) IsMapOf-named j) in
      elim (cases_lt j (2 * n)) [
        | inl within ↦ written j within ∙ same
        | inr past ↦
            let none : entry_named n text (7 * (j / 2) + 3 * (j % 2)) ≡ None = none_past _ (omega arith) in
            others j past ∙ ap code_of (sym none) ∙ same
      ])

-- what a text is read as, by its length and its faults
pub table_of-length : (text : List ℕ) → is_table_length (length text) ≡ false → table_of text ≡ Err BadLength
unfolding table_of
table_of-length text other = rw other refl

pub table_of-faulty : (text : List ℕ) (n : ℕ) (f : TextFault) (others : List TextFault) → n ≡ states_in (length text) → is_table_length (length text) ≡ true → faults_of n text ≡ f ∷ others → table_of text ≡ Err f
unfolding table_of
table_of-faulty text n f others states size faults =
    let same : faults_of (states_in (length text)) text ≡ f ∷ others = ap (λ m. faults_of m text) (sym states) ∙ faults in
    rw (size, same) refl

pub table_of-clean : (text : List ℕ) (n : ℕ) → n ≡ states_in (length text) → is_table_length (length text) ≡ true → faults_of n text ≡ [] → table_of text ≡ Ok (table_named n text)
unfolding table_of
table_of-clean text n states size faults =
    let same : faults_of (states_in (length text)) text ≡ [] = ap (λ m. faults_of m text) (sym states) ∙ faults in
    rw (size, same) (ap (λ m. Ok (table_named m text)) (sym states))

-- what a table's length says
pub length_of_states : (len n : ℕ) → n ≡ states_in len → is_table_length len ≡ true → (7 * n ≡ len + 1) × (1 ≤ n) × (n ≤ state_limit)
length_of_states len n states is = (grind (arith, nat_tests), grind (arith, nat_tests), grind (arith, nat_tests))

-- Parsing the text of a table gives the table again.

-- the entries of a table lead to its states
pub next_within : (p : Packed) → IsTable p → (q : ℕ) (s : Sym) → IfSome (entry_of p q s) (λ e. e.next.0 < p.states)
unfolding entry_of
next_within p table q s =
    elim (cases_lt 0 (get_or p.codes (pair_place q s) 0)) [
      | inl some ↦
          let code = eqb (get_or p.codes (pair_place q s) 0) 0 in
          let is_some : eqb (get_or p.codes (pair_place q s) 0) 0 ≡ false = grind (arith, nat_tests) in
          rw is_some (table.nexts (pair_place q s) some)
      | inr none ↦
          let is_none : eqb (get_or p.codes (pair_place q s) 0) 0 ≡ true = grind (arith, nat_tests) in
          rw is_none tt
    ]

-- a table has no entry beyond its states
pub none_beyond : (p : Packed) → IsTable p → (q : ℕ) (s : Sym) → p.states ≤ q → entry_of p q s ≡ None
unfolding entry_of
none_beyond p table q s past = ap coded_entry (table.beyond (pair_place q s) (omega (arith, symbol_number-le s)))

-- the three bytes of an entry are what may stand there
pub record BytesFit (n : ℕ) (o : Option Entry) : Type 0 where
  pub first : may_begin (entry_byte o 0) ≡ true
  pub second : may_direct (entry_byte o 0) (entry_byte o 1) ≡ true
  pub third : may_end n (entry_byte o 0) (entry_byte o 2) ≡ true

letter_of_state : (n x : ℕ) → x < n → is_state_letter n (65 + x) ≡ true
letter_of_state n x below = grind (arith, nat_tests)

begins : (w : Sym) → may_begin (symbol_byte w) ≡ true
begins Zero = refl
begins One = refl

directs : (w : Sym) (d : Dir) → may_direct (symbol_byte w) (direction_byte d) ≡ true
directs Zero L = refl
directs Zero R = refl
directs One L = refl
directs One R = refl

ends : (n x : ℕ) (w : Sym) → x < n → may_end n (symbol_byte w) (65 + x) ≡ true
ends n x Zero below = rw (letter_of_state n x below) refl
ends n x One below = rw (letter_of_state n x below) refl

bytes_fit : (n : ℕ) (o : Option Entry) → IfSome o (λ e. e.next.0 < n) → BytesFit n o
bytes_fit n None inside = record { first = refl; second = refl; third = refl }
bytes_fit n (Some e) inside = record { first = begins e.write; second = directs e.write e.dir; third = ends n e.next.0 e.write inside }

-- the bytes of an entry name it
named_by : (w : Sym) → cond (eqb (symbol_byte w) 48) Zero One ≡ w
named_by Zero = refl
named_by One = refl

directed_by : (d : Dir) → cond (eqb (direction_byte d) 76) L R ≡ d
directed_by L = refl
directed_by R = refl

names_back : (n : ℕ) (o : Option Entry) → IfSome o (λ e. e.next.0 < n)
    → cond (is_state_letter n (entry_byte o 2)) (Some (entry_with (cond (eqb (entry_byte o 0) 48) Zero One) (cond (eqb (entry_byte o 1) 76) L R) (entry_byte o 2 - 65))) None ≡ o
names_back n None inside = refl
names_back n (Some e) inside =
    let next : 65 + e.next.0 - 65 ≡ e.next.0 = omega arith in
    rw (letter_of_state n e.next.0 inside) (ap Some (same_entry _ _ _ _ _ _ (named_by e.write) (directed_by e.dir) next))

module _ (p : Packed) (table : IsTable p) where
  abbrev n : ℕ
  n = p.states

  -- the byte of the text in a column of a row
  byte_in : (q c i : ℕ) → i ≡ 7 * q + c → c < 6 → i + 1 < 7 * n → get_or (text_of p) i 0 ≡ entry_byte (entry_of p q (symbol_of (c / 3))) (c % 3)
  byte_in q c i is column below = get_or-text_of p table.some i below ∙ ap (byte_at p) is ∙ byte_in_row p q c column

  abbrev Clean : ℕ → Type 0
  Clean i = fault_at n (text_of p) i ≡ None

  clean_bar : (i : ℕ) → i + 1 < 7 * n → i % 7 ≡ 6 → Clean i
  unfolding fault_at
  clean_bar i below bar =
      let byte : get_or (text_of p) i 0 ≡ 95 = get_or-text_of p table.some i below ∙ ap (byte_at p) (let e : i ≡ 7 * (i / 7) + 6 = omega arith in e) ∙ byte_of_bar p (i / 7) in
      rw (bar, byte) refl

  clean_beside : (i q c : ℕ) → i ≡ 7 * q + c → c < 6 → i + 1 < 7 * n → Clean i
  unfolding fault_at
  clean_beside i q c is column below =
      let o = entry_of p q (symbol_of (c / 3)) in
      let fits = bytes_fit n o (next_within p table q (symbol_of (c / 3))) in
      let here : i % 7 ≡ c = omega arith in
      let no_bar : eqb c 6 ≡ false = grind (arith, nat_tests) in
      let byte : get_or (text_of p) i 0 ≡ entry_byte o (c % 3) = byte_in q c i is column below in
      elim (cases_lt (c % 3) 1) [
        | inl first ↦
            let zeroth : c % 3 ≡ 0 = omega arith in
            rw (here, no_bar, byte, zeroth, fits.first) refl
        | inr later ↦ elim (cases_lt (c % 3) 2) [
          | inl second ↦
              let one : c % 3 ≡ 1 = omega arith in
              let third_same : (c - 1) / 3 ≡ c / 3 = omega arith in
              let begun : get_or (text_of p) (i - 1) 0 ≡ entry_byte o 0 = byte_in q (c - 1) (i - 1) (omega arith) (omega arith) (omega arith) ∙ (let e : (c - 1) % 3 ≡ 0 = omega arith in rw (e, third_same) refl) in
              rw (here, no_bar, byte, one, begun, fits.second) refl
          | inr third ↦
              let two : c % 3 ≡ 2 = omega arith in
              let third_same : (c - 2) / 3 ≡ c / 3 = omega arith in
              let begun : get_or (text_of p) (i - 2) 0 ≡ entry_byte o 0 = byte_in q (c - 2) (i - 2) (omega arith) (omega arith) (omega arith) ∙ (let e : (c - 2) % 3 ≡ 0 = omega arith in rw (e, third_same) refl) in
              rw (here, no_bar, byte, two, begun, fits.third) refl
        ]
      ]

  clean : (i : ℕ) → i + 1 < 7 * n → Clean i
  clean i below = elim (cases_lt (i % 7) 6) [
    | inl beside ↦ clean_beside i (i / 7) (i % 7) (omega arith) beside below
    | inr bar ↦ clean_bar i below (omega arith)
  ]

  -- no place of the text is faulty
  pub no_faults : faults_of n (text_of p) ≡ []
  unfolding faults_of
  no_faults = found_nowhere (fault_at n (text_of p)) 0 (length (text_of p)) (λ i low high. clean i (omega (arith, length-text_of p table.some)))

  size : 7 * n ≡ length (text_of p) + 1
  size = sym (length-text_of p table.some)

  named_entries : (q : ℕ) (s : Sym) → named n (text_of p) q s ≡ entry_of p q s
  unfolding entry_named
  named_entries q s = elim (cases_lt q n) [
    | inl within ↦
        let k = symbol_number s in
        let k_le : k ≤ 1 = symbol_number-le s in
        let o = entry_of p q s in
        let symbol : (c : ℕ) → c / 3 ≡ k → symbol_of (c / 3) ≡ s = λ c e. ap symbol_of e ∙ symbol_of-symbol_number s in
        let byte : (j : ℕ) → j < 3 → get_or (text_of p) (7 * q + 3 * k + j) 0 ≡ entry_byte o j = λ j small.
        let column : (3 * k + j) % 3 ≡ j = omega arith in
        let pair : (3 * k + j) / 3 ≡ k = omega arith in
        byte_in q (3 * k + j) (7 * q + 3 * k + j) (omega arith) (omega arith) (omega arith)
        ∙ ap (λ t. entry_byte (entry_of p q t) ((3 * k + j) % 3)) (symbol (3 * k + j) pair)
        ∙ ap (entry_byte o) column in
        let first : get_or (text_of p) (7 * q + 3 * k) 0 ≡ entry_byte o 0 = ap (λ i. get_or (text_of p) i 0) (let e : 7 * q + 3 * k ≡ 7 * q + 3 * k + 0 = omega arith in e) ∙ byte 0 (omega arith) in
        rw (first, byte 1 (omega arith), byte 2 (omega arith)) (names_back n o (next_within p table q s))
    | inr past ↦ (IsMapOf-named n (text_of p) table.some table.limit size).beyond q s past ∙ sym (none_beyond p table q s past)
  ]

  pub table_named-text_of : table_named n (text_of p) ≡ p
  unfolding tabulated
  table_named-text_of =
      let map_of = IsMapOf-named n (text_of p) table.some table.limit size in
      same_table (table_named n (text_of p)) p (IsTable-tabulated n _ map_of) table refl (λ q s. entry_of-tabulated n _ map_of q s ∙ named_entries q s)

  pub table_of-text_of : table_of (text_of p) ≡ Ok p
  table_of-text_of =
      let len = length (text_of p) in
      let states : n ≡ states_in len = omega (arith, length-text_of p table.some) in
      let is_length : is_table_length len ≡ true = grind (arith, nat_tests, length-text_of p table.some, table.some, table.limit) in
      table_of-clean (text_of p) n states is_length no_faults ∙ ap Ok table_named-text_of

-- the bytes of an entry are no halting letter
abbrev NoHaltingLetter : ℕ → Type 0
NoHaltingLetter byte = (byte ≢ 72) × (byte ≢ 90)

no_halting_symbol : (w : Sym) → NoHaltingLetter (symbol_byte w)
no_halting_symbol Zero = (omega arith, omega arith)
no_halting_symbol One = (omega arith, omega arith)

no_halting_direction : (d : Dir) → NoHaltingLetter (direction_byte d)
no_halting_direction L = (omega arith, omega arith)
no_halting_direction R = (omega arith, omega arith)

no_halting_byte : (o : Option Entry) (c : ℕ) → IfSome o (λ e. e.next.0 < state_limit) → NoHaltingLetter (entry_byte o c)
no_halting_byte None c inside = (omega arith, omega arith)
no_halting_byte (Some e) zero inside = no_halting_symbol e.write
no_halting_byte (Some e) (suc zero) inside = no_halting_direction e.dir
no_halting_byte (Some e) (suc (suc c)) inside =
    let not_first : eqb (suc (suc c)) 0 ≡ false = grind (arith, nat_tests) in
    let not_second : eqb (suc (suc c)) 1 ≡ false = grind (arith, nat_tests) in
    rw (not_first, not_second) (omega arith, omega arith)

module _ (p : Packed) (table : IsTable p) where
  within_limit : (o : Option Entry) → IfSome o (λ e. e.next.0 < p.states) → IfSome o (λ e. e.next.0 < state_limit)
  within_limit None inside = tt
  within_limit (Some e) inside = omega (arith, table.limit)

  pub no_halting_letter : (i : ℕ) → i < length (text_of p) → NoHaltingLetter (get_or (text_of p) i 0)
  no_halting_letter i below =
      let inside : i + 1 < 7 * p.states = omega (arith, length-text_of p table.some) in
      let byte = get_or-text_of p table.some i inside in
      elim (cases_lt (i % 7) 6) [
        | inl beside ↦
            let q = i / 7 in
            let c = i % 7 in
            let o = entry_of p q (symbol_of (c / 3)) in
            let here : get_or (text_of p) i 0 ≡ entry_byte o (c % 3) = byte_in p table q c i (omega arith) beside inside in
            rw here (no_halting_byte o (c % 3) (within_limit o (next_within p table q (symbol_of (c / 3)))))
        | inr bar ↦
            let here : get_or (text_of p) i 0 ≡ 95 = byte ∙ ap (byte_at p) (let e : i ≡ 7 * (i / 7) + 6 = omega arith in e) ∙ byte_of_bar p (i / 7) in
            rw here (omega arith, omega arith)
      ]

-- no byte of a text is below that of `-`
from_45 : (o : Option Entry) (c : ℕ) → 45 ≤ entry_byte o c
from_45 None c = omega arith
from_45 (Some e) c = elim (eqb c 0) as (λ b. 45 ≤ cond b (symbol_byte e.write) (cond (eqb c 1) (direction_byte e.dir) (65 + e.next.0))) [
  | true ↦ symbol_from_45 e.write
  | false ↦ elim (eqb c 1) as (λ b. 45 ≤ cond b (direction_byte e.dir) (65 + e.next.0)) [ true ↦ direction_from_45 e.dir | false ↦ omega arith ]
]
  where
    symbol_from_45 : (w : Sym) → 45 ≤ symbol_byte w
    symbol_from_45 Zero = omega arith
    symbol_from_45 One = omega arith

    direction_from_45 : (d : Dir) → 45 ≤ direction_byte d
    direction_from_45 L = omega arith
    direction_from_45 R = omega arith

pub text_of_from_45 : (p : Packed) → IsTable p → (i : ℕ) → i < length (text_of p) → 45 ≤ get_or (text_of p) i 0
text_of_from_45 p table i below =
    let inside : i + 1 < 7 * p.states = omega (arith, length-text_of p table.some) in
    elim (cases_lt (i % 7) 6) [
      | inl beside ↦
          let o = entry_of p (i / 7) (symbol_of (i % 7 / 3)) in
          let here : get_or (text_of p) i 0 ≡ entry_byte o (i % 7 % 3) = byte_in p table (i / 7) (i % 7) i (omega arith) beside inside in
          rw here (from_45 o (i % 7 % 3))
      | inr bar ↦
          let here : get_or (text_of p) i 0 ≡ 95 = get_or-text_of p table.some i inside ∙ ap (byte_at p) (let e : i ≡ 7 * (i / 7) + 6 = omega arith in e) ∙ byte_of_bar p (i / 7) in
          rw here (omega arith)
    ]

-- The text of a table is ASCII.
symbol_below : (w : Sym) → symbol_byte w < 128
symbol_below Zero = omega arith
symbol_below One = omega arith

direction_below : (d : Dir) → direction_byte d < 128
direction_below L = omega arith
direction_below R = omega arith

-- the bytes of an entry whose next state is within the limit
entry_below : (o : Option Entry) (n c : ℕ) → n ≤ state_limit → IfSome o (λ e. e.next.0 < n) → entry_byte o c < 128
entry_below None n c limit inside = omega arith
entry_below (Some e) n c limit inside = elim (eqb c 0) as (λ b. cond b (symbol_byte e.write) (cond (eqb c 1) (direction_byte e.dir) (65 + e.next.0)) < 128) [
  | true ↦ symbol_below e.write
  | false ↦ elim (eqb c 1) as (λ b. cond b (direction_byte e.dir) (65 + e.next.0) < 128) [ true ↦ direction_below e.dir | false ↦ omega arith ]
]

byte_below : (p : Packed) → IsTable p → (i : ℕ) → byte_at p i < 128
unfolding byte_at
byte_below p table i = elim (eqb (i % 7) 6) as (λ b. cond b 95 (entry_byte (entry_of p (i / 7) (symbol_of (i % 7 / 3))) (i % 7 % 3)) < 128) [
  | true ↦ omega arith
  | false ↦ entry_below _ p.states (i % 7 % 3) table.limit (next_within p table (i / 7) (symbol_of (i % 7 / 3)))
]

pub text_below : (p : Packed) → IsTable p → (i : ℕ) → get_or (text_of p) i 0 < 128
text_below p table i = elim (cases_lt (i + 1) (7 * p.states)) [
  | inl within ↦ rw (get_or-text_of p table.some i within) (byte_below p table i)
  | inr past ↦
      let none : get_or (text_of p) i 0 ≡ 0 = get_or_past (text_of p) i 0 (omega (arith, length-text_of p table.some)) in
      rw none (omega arith)
]
