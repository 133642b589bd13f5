-- A text is read entry by entry, and has no faulty place where all fits.
use Rattle.std.proofs.Common.{◌≡◌, ℕ, zero, suc, ◌+◌, ◌-◌, ◌<◌, ◌≤◌, [], ◌∷◌, Option, Some, None, refl, sym, ap, ◌∙◌, inl, inr, arith, ◌≢◌, ◌*◌, ◌/◌, ◌%◌, ◌&&◌, Bool, true, false, cond, eqb, List, length, length-set, get_or, set, subst, get_or-set_same, get_or-set_other}
use Rattle.std.proofs.lemmas.Bool.{cases_lt, cases_eq}
use Rattle.std.specs.List.{range_with_len, filter_map}
use Rattle.std.proofs.lemmas.Bool.Decides.{nat_tests}
use Rattle.machine_text.specs.declared.grammar.TextFault.{TextFault}
use Rattle.machine_text.specs.declared.grammar.TextFault.TheVariants.{BadBar, BadSymbol, BadDir, BadState}
use Rattle.machine_text.specs.Limits.{state_limit}
use Rattle.machine_text.specs.Packed.{code_of}
use Rattle.machine_text.specs.Text.{may_begin, may_direct, may_end, unless, fault_at, faults_of, entry_named}
use Rattle.machine_text.specs.inside.{code_at, entry_fits}
use Rattle.machine_text.proofs.Rows.{entry_place}

-- What a filter finds along the numbers from one on, as a loop walks over them.

-- what is left before len, from i on, begins with i
pub range_step : (i len : ℕ) → i < len → range_with_len i (len - i) ≡ i ∷ range_with_len (i + 1) (len - (i + 1))
range_step i len below =
    let more : len - i ≡ suc (len - (i + 1)) = omega arith in
    rw more refl

-- a place at which nothing is found is passed over
pub found_later : {X : Type 0} (f : ℕ → Option X) (i len : ℕ) → i < len → f i ≡ None
    → filter_map f (range_with_len i (len - i)) ≡ filter_map f (range_with_len (i + 1) (len - (i + 1)))
found_later f i len below none = ap (filter_map f) (range_step i len below) ∙ rw none refl

-- a place at which something is found gives the first of all that is left
pub found_here : {X : Type 0} (f : ℕ → Option X) (i len : ℕ) (x : X) → i < len → f i ≡ Some x
    → filter_map f (range_with_len i (len - i)) ≡ x ∷ filter_map f (range_with_len (i + 1) (len - (i + 1)))
found_here f i len x below some = ap (filter_map f) (range_step i len below) ∙ rw some refl

-- nothing is left from the end on
pub found_at_end : {X : Type 0} (f : ℕ → Option X) (i len : ℕ) → len ≤ i → filter_map f (range_with_len i (len - i)) ≡ []
found_at_end f i len past =
    let none : len - i ≡ 0 = omega arith in
    rw none refl

-- nothing is found where each place gives nothing
pub found_nowhere : {X : Type 0} (f : ℕ → Option X) (a n : ℕ) → ((i : ℕ) → a ≤ i → i < a + n → f i ≡ None) → filter_map f (range_with_len a n) ≡ []
found_nowhere f a zero each = refl
found_nowhere f a (suc n) each =
    let here : f a ≡ None = each a (omega arith) (omega arith) in
    rw here (found_nowhere f (a + 1) n (λ i low high. each i (omega arith) (omega arith)))

-- and each place gives nothing where nothing is found
pub nowhere_found : {X : Type 0} (f : ℕ → Option X) (a n : ℕ) → filter_map f (range_with_len a n) ≡ [] → (i : ℕ) → a ≤ i → i < a + n → f i ≡ None
nowhere_found f a zero none i low high = absurd (omega arith)
nowhere_found f a (suc n) none i low high = elim (f a) as (λ o. f a ≡ o → f i ≡ None) [
  | None ↦ λ is.
      let step : filter_map f (range_with_len a (suc n)) ≡ filter_map f (range_with_len (a + 1) n) = rw is refl in
      elim (cases_lt a i) [
        | inl later ↦ nowhere_found f (a + 1) n (sym step ∙ none) i (omega arith) (omega arith)
        | inr here ↦ ap f (let e : i ≡ a = omega arith in e) ∙ is
      ]
  | Some x ↦ λ is.
      let step : filter_map f (range_with_len a (suc n)) ≡ x ∷ filter_map f (range_with_len (a + 1) n) = rw is refl in
      absurd (let e : x ∷ filter_map f (range_with_len (a + 1) n) ≡ [] = sym step ∙ none in cc)
] refl

-- A text is read entry by entry: where each entry fits and each bar stands, no place is faulty, and else one is.
fits_of : (b : Bool) (f : TextFault) → unless b f ≡ None → b ≡ true
fits_of true f none = refl
fits_of false f none = absurd cc

left_of : (a b : Bool) → (a && b) ≡ true → a ≡ true
left_of true b both = refl
left_of false b both = both

right_of : (a b : Bool) → (a && b) ≡ true → b ≡ true
right_of true b both = both
right_of false b both = absurd cc

module _ (n : ℕ) (text : List ℕ) where
  abbrev Clean : ℕ → Type 0
  Clean i = fault_at n text i ≡ None

  at_bar : (i : ℕ) → i % 7 ≡ 6 → fault_at n text i ≡ unless (eqb (get_or text i 0) 95) (BadBar i)
  unfolding fault_at
  at_bar i bar = rw bar refl

  module _ (k : ℕ) where
    abbrev place : ℕ
    place = entry_place k

    abbrev begun : ℕ
    begun = get_or text place 0

    at_symbol : fault_at n text place ≡ unless (may_begin begun) (BadSymbol place)
    unfolding fault_at
    at_symbol =
        let no_bar : eqb (place % 7) 6 ≡ false = grind (arith, nat_tests) in
        let column : place % 7 % 3 ≡ 0 = omega arith in
        rw (no_bar, column) refl

    at_direction : fault_at n text (place + 1) ≡ unless (may_direct begun (get_or text (place + 1) 0)) (BadDir (place + 1))
    unfolding fault_at
    at_direction =
        let no_bar : eqb ((place + 1) % 7) 6 ≡ false = grind (arith, nat_tests) in
        let column : (place + 1) % 7 % 3 ≡ 1 = omega arith in
        let before : place + 1 - 1 ≡ place = omega arith in
        rw (no_bar, column, before) refl

    at_state : fault_at n text (place + 2) ≡ unless (may_end n begun (get_or text (place + 2) 0)) (BadState (place + 2))
    unfolding fault_at
    at_state =
        let no_bar : eqb ((place + 2) % 7) 6 ≡ false = grind (arith, nat_tests) in
        let column : (place + 2) % 7 % 3 ≡ 2 = omega arith in
        let before : place + 2 - 2 ≡ place = omega arith in
        rw (no_bar, column, before) refl

    pub fits_where_clean : Clean place → Clean (place + 1) → Clean (place + 2) → entry_fits n text place ≡ true
    fits_where_clean symbol direction state =
        let begins : may_begin begun ≡ true = fits_of _ _ (sym at_symbol ∙ symbol) in
        let directs : may_direct begun (get_or text (place + 1) 0) ≡ true = fits_of _ _ (sym at_direction ∙ direction) in
        let ends : may_end n begun (get_or text (place + 2) 0) ≡ true = fits_of _ _ (sym at_state ∙ state) in
        rw (begins, directs, ends) refl

    pub clean_where_fits : entry_fits n text place ≡ true → (c : ℕ) → c < 3 → Clean (place + c)
    clean_where_fits fits c small =
        let begins : may_begin begun ≡ true = left_of _ _ fits in
        let rest = right_of (may_begin begun) _ fits in
        let directs : may_direct begun (get_or text (place + 1) 0) ≡ true = left_of _ _ rest in
        let ends : may_end n begun (get_or text (place + 2) 0) ≡ true = right_of (may_direct begun (get_or text (place + 1) 0)) _ rest in
        elim (cases_lt c 1) [
          | inl first ↦ ap (fault_at n text) (let e : place + c ≡ place = omega arith in e) ∙ at_symbol ∙ rw begins refl
          | inr later ↦ elim (cases_lt c 2) [
            | inl second ↦ ap (fault_at n text) (let e : place + c ≡ place + 1 = omega arith in e) ∙ at_direction ∙ rw directs refl
            | inr third ↦ ap (fault_at n text) (let e : place + c ≡ place + 2 = omega arith in e) ∙ at_state ∙ rw ends refl
          ]
        ]

  -- no place of the first k entries is faulty
  abbrev pub AreClean : ℕ → Type 0
  AreClean k = (i : ℕ) → i % 7 < 6 → 2 * (i / 7) + i % 7 / 3 < k → Clean i

  pub one_more_clean : (k : ℕ) → AreClean k → entry_fits n text (entry_place k) ≡ true → AreClean (k + 1)
  one_more_clean k clean fits i beside below = elim (cases_lt (2 * (i / 7) + i % 7 / 3) k) [
    | inl before ↦ clean i beside before
    | inr here ↦
        let place_of : i ≡ entry_place k + i % 7 % 3 = omega arith in
        ap (fault_at n text) place_of ∙ clean_where_fits k fits (i % 7 % 3) (omega arith)
  ]

  pub no_faults_read : 7 * n ≡ length text + 1 → ((i : ℕ) → i < length text → i % 7 ≡ 6 → get_or text i 0 ≡ 95) → AreClean (2 * n) → faults_of n text ≡ []
  unfolding faults_of
  no_faults_read size bars clean = found_nowhere (fault_at n text) 0 (length text) (λ i low high. elim (cases_lt (i % 7) 6) [
    | inl beside ↦ clean i beside (omega arith)
    | inr bar ↦
        let is_bar : i % 7 ≡ 6 = omega arith in
        at_bar i is_bar ∙ rw (bars i (omega arith) is_bar) refl
  ])

  -- a place of a bar without one is a fault, and an entry that doesn't fit has one
  clean_at : faults_of n text ≡ [] → (i : ℕ) → i < length text → Clean i
  unfolding faults_of
  clean_at none i below = nowhere_found (fault_at n text) 0 (length text) none i (omega arith) (omega arith)

  pub faulty_bar : (i : ℕ) → i < length text → i % 7 ≡ 6 → get_or text i 0 ≢ 95 → faults_of n text ≢ []
  faulty_bar i within bar other none =
      let stands : eqb (get_or text i 0) 95 ≡ true = fits_of _ _ (sym (at_bar i bar) ∙ clean_at none i within) in
      other (grind (arith, nat_tests))

  -- what is read at a place
  code_at_none : (i : ℕ) → code_at n text i ≡ None → entry_fits n text i ≡ false
  code_at_none i none = elim (entry_fits n text i) as (λ b. cond b (Some (code_of (entry_named n text i))) None ≡ None → b ≡ false) [ true ↦ λ e. absurd cc | false ↦ λ _. refl ] none

  pub faulty_entry : (k place : ℕ) → place ≡ entry_place k → place + 2 < length text → code_at n text place ≡ None → faults_of n text ≢ []
  faulty_entry k place at within unread none =
      let fits = fits_where_clean k (clean_at none (entry_place k) (omega arith)) (clean_at none (entry_place k + 1) (omega arith)) (clean_at none (entry_place k + 2) (omega arith)) in
      let misfit = code_at_none (entry_place k) (ap (code_at n text) (sym at) ∙ unread) in
      absurd (let e : true ≡ false = sym fits ∙ misfit in cc)

  code_at_some : (i code : ℕ) → code_at n text i ≡ Some code → (entry_fits n text i ≡ true) × (code ≡ code_of (entry_named n text i))
  code_at_some i code some = elim (entry_fits n text i) as (λ b. cond b (Some (code_of (entry_named n text i))) None ≡ Some code → (b ≡ true) × (code ≡ code_of (entry_named n text i))) [
    | true ↦ λ e. (refl, cc)
    | false ↦ λ e. absurd cc
  ] some

  -- the codes of the first k entries are read, the others are as they were
  pub record AreRead (k : ℕ) (codes : List ℕ) : Type 0 where
    pub size : length codes ≡ 2 * state_limit
    pub clean : AreClean k
    pub written : (j : ℕ) → j < k → get_or codes j 0 ≡ code_of (entry_named n text (entry_place j))
    pub others : (j : ℕ) → k ≤ j → get_or codes j 0 ≡ 0

  pub one_more_read : (k place code : ℕ) (codes : List ℕ) → place ≡ entry_place k → k < 2 * state_limit → code_at n text place ≡ Some code
      → AreRead k codes → AreRead (k + 1) (set codes k code)
  one_more_read k place code codes at within some kept =
      let read = code_at_some (entry_place k) code (ap (code_at n text) (sym at) ∙ some) in
      record {
        size = length-set codes k code ∙ kept.size;
        clean = one_more_clean k kept.clean read.0;
        written = λ j below. elim (cases_eq j k) [
          | inl here ↦ rw here (get_or-set_same codes k code 0 (omega (arith, kept.size)) ∙ read.1)
          | inr other ↦ get_or-set_other codes k j code 0 other ∙ kept.written j (omega arith)
        ];
        others = λ j past. get_or-set_other codes k j code 0 (λ e. omega arith) ∙ kept.others j (omega arith);
      }

  -- a row more
  pub row_read : (row first second : ℕ) (codes : List ℕ) → row < state_limit → code_at n text (7 * row) ≡ Some first → code_at n text (7 * row + 3) ≡ Some second
      → AreRead (2 * row) codes → AreRead (2 * (row + 1)) (set (set codes (2 * row) first) (2 * row + 1) second)
  row_read row first second codes within one two kept =
      let even : 7 * row ≡ entry_place (2 * row) = omega arith in
      let odd : 7 * row + 3 ≡ entry_place (2 * row + 1) = omega arith in
      let both : 2 * row + 1 + 1 ≡ 2 * (row + 1) = omega arith in
      subst (λ (k : ℕ). AreRead k (set (set codes (2 * row) first) (2 * row + 1) second)) both
      (one_more_read (2 * row + 1) (7 * row + 3) second (set codes (2 * row) first) odd (omega arith) two (one_more_read (2 * row) (7 * row) first codes even (omega arith) one kept))
