-- The text of a table and of its entries, byte by byte.
use Rattle.std.proofs.Common.{◌≡◌, ℕ, zero, suc, ◌+◌, ◌-◌, ◌*◌, ◌/◌, ◌%◌, ◌<◌, ◌≤◌, false, eqb, List, ◌∷◌, length, get_or, map, Option, Some, None, refl, sym, ap, ◌∙◌, inl, inr, length-append, arith, ◌≢◌, length-take, set, take, subst, get_or-set_same, get_or-set_other}
use Rattle.std.specs.List.{range_with_len, join_with_byte}
use Rattle.std.proofs.lemmas.Bool.{cases_lt}
use Rattle.std.proofs.lemmas.Bool.Decides.{nat_tests}
use Rattle.std.proofs.lemmas.List.{ext_get_or, get_or-take, length-set}
use Rattle.std.proofs.Math.ListN.{get_or-append}
use Rattle.std.proofs.Math.Seq.{get_or-append_right}
use Rattle.machine_text.specs.declared.table.Sym.TheVariants.{Zero, One}
use Rattle.machine_text.specs.declared.table.Entry.{Entry}
use Rattle.machine_text.specs.Packed.{Packed, symbol_number, symbol_of, coded_entry, entry_of, IsTable}
use Rattle.machine_text.proofs.Tables.{symbol_number-symbol_of}
use Rattle.machine_text.specs.Text.{entry_text, row_text, text_of}
use Rattle.machine_text.specs.inside.{entry_byte, byte_at, with_entry_bytes}
use Rattle.machine_text.specs.Limits.{state_limit, text_byte_limit}

-- The text of a table, byte by byte.

-- the place in a text of the entry at a place among the codes
abbrev pub entry_place : ℕ → ℕ
entry_place k = 7 * (k / 2) + 3 * (k % 2)

pub length-entry_text : (o : Option Entry) → length (entry_text o) ≡ 3
length-entry_text None = refl
length-entry_text (Some e) = refl

pub get_or-entry_text : (o : Option Entry) (c : ℕ) → c < 3 → get_or (entry_text o) c 0 ≡ entry_byte o c
get_or-entry_text None zero below = refl
get_or-entry_text None (suc zero) below = refl
get_or-entry_text None (suc (suc zero)) below = refl
get_or-entry_text None (suc (suc (suc c))) below = absurd (omega arith)
get_or-entry_text (Some e) zero below = refl
get_or-entry_text (Some e) (suc zero) below = refl
get_or-entry_text (Some e) (suc (suc zero)) below = refl
get_or-entry_text (Some e) (suc (suc (suc c))) below = absurd (omega arith)

pub length-row_text : (p : Packed) (q : ℕ) → length (row_text p q) ≡ 6
length-row_text p q =
    length-append (entry_text (entry_of p q Zero)) (entry_text (entry_of p q One))
    ∙ (let e : length (entry_text (entry_of p q Zero)) + length (entry_text (entry_of p q One)) ≡ 6 = omega (arith, length-entry_text (entry_of p q Zero), length-entry_text (entry_of p q One)) in e)

-- the column of a byte and its state, from its place
pub byte_in_row : (p : Packed) (q c : ℕ) → c < 6 → byte_at p (7 * q + c) ≡ entry_byte (entry_of p q (symbol_of (c / 3))) (c % 3)
unfolding byte_at
byte_in_row p q c below =
    let column : (7 * q + c) % 7 ≡ c = omega arith in
    let state : (7 * q + c) / 7 ≡ q = omega arith in
    let no_bar : eqb c 6 ≡ false = grind (arith, nat_tests) in
    rw (column, state, no_bar) refl

pub byte_of_bar : (p : Packed) (q : ℕ) → byte_at p (7 * q + 6) ≡ 95
unfolding byte_at
byte_of_bar p q =
    let column : (7 * q + 6) % 7 ≡ 6 = omega arith in
    rw column refl

get_or-row_text : (p : Packed) (q c : ℕ) → c < 6 → get_or (row_text p q) c 0 ≡ byte_at p (7 * q + c)
get_or-row_text p q c below =
    let first = entry_text (entry_of p q Zero) in
    let second = entry_text (entry_of p q One) in
    let three = length-entry_text (entry_of p q Zero) in
    elim (cases_lt c 3) [
      | inl low ↦
          let symbol : c / 3 ≡ 0 = omega arith in
          let place : c % 3 ≡ c = omega arith in
          get_or-append first second 0 c (omega (arith, length-entry_text (entry_of p q Zero)))
          ∙ get_or-entry_text (entry_of p q Zero) c low
          ∙ sym (byte_in_row p q c below ∙ rw (symbol, place) refl)
      | inr high ↦
          let symbol : c / 3 ≡ 1 = omega arith in
          let place : c % 3 ≡ c - 3 = omega arith in
          let past : c - length first ≡ c - 3 = omega (arith, length-entry_text (entry_of p q Zero)) in
          get_or-append_right first second c 0 (omega (arith, length-entry_text (entry_of p q Zero)))
          ∙ ap (λ i. get_or second i 0) past
          ∙ get_or-entry_text (entry_of p q One) (c - 3) (omega arith)
          ∙ sym (byte_in_row p q c below ∙ rw (symbol, place) refl)
    ]

-- the rows of so many states, from one on
abbrev pub rows : Packed → ℕ → ℕ → List ℕ
rows p q n = join_with_byte 95 (map (row_text p) (range_with_len q n))

pub length-rows : (p : Packed) (q n : ℕ) → length (rows p q (suc n)) + 1 ≡ 7 * suc n
length-rows p q zero = omega (arith, length-row_text p q)
length-rows p q (suc n) =
    omega (arith, length-append (row_text p q) (95 ∷ rows p (q + 1) (suc n)), length-row_text p q, length-rows p (q + 1) n)

pub get_or-rows : (p : Packed) (n q i : ℕ) → i + 1 < 7 * suc n → get_or (rows p q (suc n)) i 0 ≡ byte_at p (7 * q + i)
get_or-rows p zero q i below = get_or-row_text p q i (omega arith)
get_or-rows p (suc n) q i below =
    let row = row_text p q in
    let rest = rows p (q + 1) (suc n) in
    elim (cases_lt i 6) [
      | inl low ↦ get_or-append row (95 ∷ rest) 0 i (omega (arith, length-row_text p q)) ∙ get_or-row_text p q i low
      | inr high ↦
          let past : i - length row ≡ i - 6 = omega (arith, length-row_text p q) in
          get_or-append_right row (95 ∷ rest) i 0 (omega (arith, length-row_text p q))
          ∙ ap (λ j. get_or (95 ∷ rest) j 0) past
          ∙ elim (cases_lt i 7) [
            | inl bar ↦
                let here : i ≡ 6 = omega arith in
                rw here (sym (byte_of_bar p q))
            | inr behind ↦
                let there : i - 6 ≡ suc (i - 7) = omega arith in
                let place : 7 * (q + 1) + (i - 7) ≡ 7 * q + i = omega arith in
                ap (λ j. get_or (95 ∷ rest) j 0) there ∙ get_or-rows p n (q + 1) (i - 7) (omega arith) ∙ ap (byte_at p) place
          ]
    ]

module _ (p : Packed) (some : 1 ≤ p.states) where
  all_states : p.states ≡ suc (p.states - 1)
  all_states = omega arith

  pub length-text_of : length (text_of p) + 1 ≡ 7 * p.states
  unfolding text_of
  length-text_of = ap (λ n. length (rows p 0 n) + 1) all_states ∙ length-rows p 0 (p.states - 1) ∙ ap (λ n. 7 * n) (sym all_states)

  pub get_or-text_of : (i : ℕ) → i + 1 < 7 * p.states → get_or (text_of p) i 0 ≡ byte_at p i
  unfolding text_of
  get_or-text_of i below =
      ap (λ n. get_or (rows p 0 n) i 0) all_states
      ∙ get_or-rows p (p.states - 1) 0 i (omega arith)
      ∙ ap (byte_at p) (let e : 7 * 0 + i ≡ i = omega arith in e)

  -- bytes at each place make the text
  pub text_from_bytes : (bytes : List ℕ) → length bytes + 1 ≡ 7 * p.states → ((i : ℕ) → i + 1 < 7 * p.states → get_or bytes i 0 ≡ byte_at p i) → bytes ≡ text_of p
  text_from_bytes bytes size each =
      ext_get_or 0 bytes (text_of p) (omega (arith, length-text_of)) (λ i below. each i (omega arith) ∙ sym (get_or-text_of i (omega arith)))

-- a byte beside the bars is one of the entry of its pair
pub byte_of_code : (p : Packed) (i : ℕ) → (i % 7 ≡ 6 → ⊥) → byte_at p i ≡ entry_byte (coded_entry (get_or p.codes (2 * (i / 7) + i % 7 / 3) 0)) (i % 7 % 3)
unfolding byte_at entry_of
byte_of_code p i beside =
    let no_bar : eqb (i % 7) 6 ≡ false = grind (arith, nat_tests) in
    let symbol : symbol_number (symbol_of (i % 7 / 3)) ≡ i % 7 / 3 = symbol_number-symbol_of (i % 7 / 3) (omega arith) in
    rw no_bar (ap (λ s. entry_byte (coded_entry (get_or p.codes (2 * (i / 7) + s) 0)) (i % 7 % 3)) symbol)

-- The bytes of an entry, written from a place on.
module _ (bytes : List ℕ) (i : ℕ) (o : Option Entry) where
  pub length-with_entry_bytes : length (with_entry_bytes bytes i o) ≡ length bytes
  length-with_entry_bytes =
      length-set (set (set bytes i (entry_byte o 0)) (i + 1) (entry_byte o 1)) (i + 2) (entry_byte o 2)
      ∙ length-set (set bytes i (entry_byte o 0)) (i + 1) (entry_byte o 1)
      ∙ length-set bytes i (entry_byte o 0)

  -- all other bytes are as they were
  pub beside_entry : (j : ℕ) → (i ≤ j → j < i + 3 → ⊥) → get_or (with_entry_bytes bytes i o) j 0 ≡ get_or bytes j 0
  beside_entry j outside =
      let third : j ≢ i + 2 = λ e. outside (omega arith) (omega arith) in
      let second : j ≢ i + 1 = λ e. outside (omega arith) (omega arith) in
      let first : j ≢ i = λ e. outside (omega arith) (omega arith) in
      get_or-set_other (set (set bytes i (entry_byte o 0)) (i + 1) (entry_byte o 1)) (i + 2) j (entry_byte o 2) 0 third
      ∙ get_or-set_other (set bytes i (entry_byte o 0)) (i + 1) j (entry_byte o 1) 0 second
      ∙ get_or-set_other bytes i j (entry_byte o 0) 0 first

  -- the bytes of the entry
  pub in_entry : (c : ℕ) → c < 3 → i + 2 < length bytes → get_or (with_entry_bytes bytes i o) (i + c) 0 ≡ entry_byte o c
  in_entry c small fits =
      let one = set bytes i (entry_byte o 0) in
      let two = set one (i + 1) (entry_byte o 1) in
      let all = set two (i + 2) (entry_byte o 2) in
      let size_one : length one ≡ length bytes = length-set bytes i (entry_byte o 0) in
      let size_two : length two ≡ length one = length-set one (i + 1) (entry_byte o 1) in
      elim (cases_lt c 1) [
        | inl first ↦
            let is : c ≡ 0 = omega arith in
            let here : i + 0 ≡ i = omega arith in
            rw (is, here) (get_or-set_other two (i + 2) i (entry_byte o 2) 0 (omega arith) ∙ get_or-set_other one (i + 1) i (entry_byte o 1) 0 (omega arith) ∙ get_or-set_same bytes i (entry_byte o 0) 0 (omega arith))
        | inr later ↦ elim (cases_lt c 2) [
          | inl second ↦
              let is : c ≡ 1 = omega arith in
              rw is (get_or-set_other two (i + 2) (i + 1) (entry_byte o 2) 0 (omega arith) ∙ get_or-set_same one (i + 1) (entry_byte o 1) 0 (omega (arith, size_one)))
          | inr third ↦
              let is : c ≡ 2 = omega arith in
              rw is (get_or-set_same two (i + 2) (entry_byte o 2) 0 (omega (arith, size_one, size_two)))
        ]
      ]

-- a bar stands at each place of one, and the bytes of the first k entries of a table at theirs
pub record AreWritten (p : Packed) (k : ℕ) (bytes : List ℕ) : Type 0 where
  pub size : length bytes ≡ text_byte_limit
  pub bars : (j : ℕ) → j < text_byte_limit → j % 7 ≡ 6 → get_or bytes j 0 ≡ 95
  pub written : (j : ℕ) → j % 7 < 6 → 2 * (j / 7) + j % 7 / 3 < k → get_or bytes j 0 ≡ byte_at p j

module _ (p : Packed) where
  one_more_written : (k place : ℕ) (o : Option Entry) (bytes : List ℕ) → place ≡ entry_place k → k < 2 * state_limit → o ≡ coded_entry (get_or p.codes k 0)
      → AreWritten p k bytes → AreWritten p (k + 1) (with_entry_bytes bytes place o)
  one_more_written k place o bytes at within is kept = record {
    size = length-with_entry_bytes bytes place o ∙ kept.size;
    bars = λ j limit bar. beside_entry bytes place o j (λ low high. omega arith) ∙ kept.bars j limit bar;
    written = λ j beside below. elim (cases_lt (2 * (j / 7) + j % 7 / 3) k) [
      | inl before ↦ beside_entry bytes place o j (λ low high. omega arith) ∙ kept.written j beside before
      | inr here ↦
          let code : 2 * (j / 7) + j % 7 / 3 ≡ k = omega arith in
          let byte : j ≡ place + j % 7 % 3 = omega arith in
          ap (λ i. get_or (with_entry_bytes bytes place o) i 0) byte
          ∙ in_entry bytes place o (j % 7 % 3) (omega arith) (omega (arith, kept.size))
          ∙ ap (λ e. entry_byte e (j % 7 % 3)) is
          ∙ sym (byte_of_code p j (λ bar. omega arith) ∙ ap (λ i. entry_byte (coded_entry (get_or p.codes i 0)) (j % 7 % 3)) code)
    ];
  }

  -- a row more
  pub row_written : (row : ℕ) (first second : Option Entry) (bytes : List ℕ) → row < state_limit → first ≡ coded_entry (get_or p.codes (2 * row) 0)
      → second ≡ coded_entry (get_or p.codes (2 * row + 1) 0) → AreWritten p (2 * row) bytes
      → AreWritten p (2 * (row + 1)) (with_entry_bytes (with_entry_bytes bytes (7 * row) first) (7 * row + 3) second)
  row_written row first second bytes within one two kept =
      let even : 7 * row ≡ entry_place (2 * row) = omega arith in
      let odd : 7 * row + 3 ≡ entry_place (2 * row + 1) = omega arith in
      let both : 2 * row + 1 + 1 ≡ 2 * (row + 1) = omega arith in
      let half = with_entry_bytes bytes (7 * row) first in
      subst (λ (k : ℕ). AreWritten p k (with_entry_bytes half (7 * row + 3) second)) both
      (one_more_written (2 * row + 1) (7 * row + 3) second half odd (omega arith) two (one_more_written (2 * row) (7 * row) first bytes even (omega arith) one kept))

  -- the first bytes are the text once each entry is written
  pub text_written : (k : ℕ) (bytes : List ℕ) → IsTable p → 2 * p.states ≤ k → AreWritten p k bytes → take (7 * p.states - 1) bytes ≡ text_of p
  text_written k bytes table all kept =
      let len = 7 * p.states - 1 in
      text_from_bytes p table.some (take len bytes) (omega (arith, length-take len bytes, kept.size, table.some, table.limit)) (λ i below.
      get_or-take len bytes i 0 (omega arith) ∙ elim (cases_lt (i % 7) 6) [
        | inl beside ↦ kept.written i beside (omega arith)
        | inr bar ↦
            let place : i ≡ 7 * (i / 7) + 6 = omega arith in
            kept.bars i (omega (arith, table.limit)) (omega arith) ∙ sym (ap (byte_at p) place ∙ byte_of_bar p (i / 7))
      ])
