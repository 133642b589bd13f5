-- Texts of a page, one behind another, and escaped texts: each stands for one text and begins no tag.
use Rattle.std.proofs.Common.{◌≡◌, ◌⊎◌, inl, inr, ℕ, ◌<◌, Bool, true, false, not, ◌&&◌, ◌||◌, cond, eqb, List, [], ◌∷◌, ◌++◌, length, get_or, refl, sym, ◌∙◌, ap, subst, arith, Result, Ok, Err, OnOk, append_assoc, append-nil, ◌+◌, ◌-◌, ◌≤◌, suc, flat_map}
use Rattle.std.specs.List.{Contains, AllPass, range_with_len}
use Rattle.std.proofs.lemmas.Bool.{cases_eq, ne_eqb}
use Rattle.std.proofs.lemmas.List.{append_cancel_left}
use Rattle.std.proofs.lemmas.List.Elements.{All-append, All-contains}
use Rattle.std.proofs.lemmas.List.Sums.{AllPass-from_list_all}
use Rattle.std.specs.Result.{is_ok}
use Rattle.cmd_page.specs.Page.{embedded, entity, escaped, inner_byte, EndsText}

-- A text that is escaped has no byte that ends a text, and stands for one text alone; in JSON within a page no tag begins.

-- a byte for which something else stands, and one that stands as it is
abbrev IsSpecial : ℕ → Type 0
IsSpecial b = (b ≡ 34) ⊎ ((b ≡ 38) ⊎ ((b ≡ 39) ⊎ ((b ≡ 60) ⊎ (b ≡ 62))))

pub record IsPlain (b : ℕ) : Type 0 where
  pub quote : eqb b 34 ≡ false
  pub and : eqb b 38 ≡ false
  pub tick : eqb b 39 ≡ false
  pub less : eqb b 60 ≡ false
  pub more : eqb b 62 ≡ false

cases_byte : (b : ℕ) → IsSpecial b ⊎ IsPlain b
cases_byte b = elim (cases_eq b 34) [
  | inl e ↦ inl (inl e)
  | inr quote ↦ elim (cases_eq b 38) [
    | inl e ↦ inl (inr (inl e))
    | inr and ↦ elim (cases_eq b 39) [
      | inl e ↦ inl (inr (inr (inl e)))
      | inr tick ↦ elim (cases_eq b 60) [
        | inl e ↦ inl (inr (inr (inr (inl e))))
        | inr less ↦ elim (cases_eq b 62) [
          | inl e ↦ inl (inr (inr (inr (inr e))))
          | inr more ↦ inr (record { quote = ne_eqb b 34 quote; and = ne_eqb b 38 and; tick = ne_eqb b 39 tick; less = ne_eqb b 60 less; more = ne_eqb b 62 more })
        ]
      ]
    ]
  ]
]

-- what is so of the five is so of a special byte
by_special : (P : ℕ → Type 0) (b : ℕ) → IsSpecial b → P 34 → P 38 → P 39 → P 60 → P 62 → P b
by_special P b special quote and tick less more = elim special [
  | inl e ↦ subst P (sym e) quote
  | inr s1 ↦ elim s1 [
    | inl e ↦ subst P (sym e) and
    | inr s2 ↦ elim s2 [
      | inl e ↦ subst P (sym e) tick
      | inr s3 ↦ elim s3 [ inl e ↦ subst P (sym e) less | inr e ↦ subst P (sym e) more ]
    ]
  ]
]

pub plain_stays : (b : ℕ) → IsPlain b → entity b ≡ b ∷ []
unfolding entity
plain_stays b plain = rw (plain.quote, plain.and, plain.tick, plain.less, plain.more) refl

-- a byte that doesn't end a text
abbrev is_inner : ℕ → Bool
is_inner x = not (eqb x 34 || (eqb x 39 || (eqb x 60 || eqb x 62)))

plain_inner : (b : ℕ) → IsPlain b → is_inner b ≡ true
plain_inner b plain = rw (plain.quote, plain.tick, plain.less, plain.more) refl

inner_entity : (b : ℕ) → AllPass is_inner (entity b)
unfolding entity
inner_entity b = elim (cases_byte b) [
  | inl special ↦ by_special (λ x. AllPass is_inner (entity x)) b special
      (AllPass-from_list_all is_inner (entity 34) refl) (AllPass-from_list_all is_inner (entity 38) refl) (AllPass-from_list_all is_inner (entity 39) refl)
      (AllPass-from_list_all is_inner (entity 60) refl) (AllPass-from_list_all is_inner (entity 62) refl)
  | inr plain ↦ subst (λ (l : List ℕ). AllPass is_inner l) (sym (plain_stays b plain))
      (AllPass-from_list_all is_inner (b ∷ []) (ap (λ (v : Bool). v && true) (plain_inner b plain)))
]

inner_text : (text : List ℕ) → AllPass is_inner (escaped text)
inner_text [] = AllPass-from_list_all is_inner [] refl
inner_text (b ∷ text) = All-append (λ x. is_inner x ≡ true) (entity b) (escaped text) (inner_entity b) (inner_text text)

ends_not_inner : (x : ℕ) → EndsText x → is_inner x ≡ true → ⊥
ends_not_inner x ends inner = elim ends [
  | inl e ↦ let none : false ≡ true = subst (λ (y : ℕ). is_inner y ≡ true) e inner in absurd (cc)
  | inr e1 ↦ elim e1 [
    | inl e ↦ let none : false ≡ true = subst (λ (y : ℕ). is_inner y ≡ true) e inner in absurd (cc)
    | inr e2 ↦ elim e2 [
      | inl e ↦ let none : false ≡ true = subst (λ (y : ℕ). is_inner y ≡ true) e inner in absurd (cc)
      | inr e ↦ let none : false ≡ true = subst (λ (y : ℕ). is_inner y ≡ true) e inner in absurd (cc)
    ]
  ]
]

pub escaped_plain : (text : List ℕ) (byte : ℕ) → EndsText byte → Contains (escaped text) byte → ⊥
escaped_plain text byte ends at = ends_not_inner byte ends (All-contains (λ x. is_inner x ≡ true) (escaped text) byte (inner_text text) at)

-- the byte for which a text in HTML begins to stand: a name is known by its first letter
abbrev named_byte : ℕ → ℕ
named_byte letter = cond (eqb letter 113) 34 (cond (eqb letter 97) 38 (cond (eqb letter 35) 39 (cond (eqb letter 108) 60 62)))

abbrev first_byte : List ℕ → ℕ
first_byte html = cond (eqb (get_or html 0 0) 38) (named_byte (get_or html 1 0)) (get_or html 0 0)

first_of_entity : (b : ℕ) (rest : List ℕ) → first_byte (entity b ++ rest) ≡ b
unfolding entity
first_of_entity b rest = elim (cases_byte b) [
  | inl special ↦ by_special (λ x. first_byte (entity x ++ rest) ≡ x) b special refl refl refl refl refl
  | inr plain ↦ ap (λ (l : List ℕ). first_byte (l ++ rest)) (plain_stays b plain) ∙ ap (λ (v : Bool). cond v (named_byte (get_or rest 0 0)) b) plain.and
]

entity_some : (b : ℕ) (rest : List ℕ) → [] ≡ entity b ++ rest → ⊥
unfolding entity
entity_some b rest none =
    let size : (x : ℕ) → 0 < length (entity x ++ rest) = λ x. elim (cases_byte x) [
      | inl special ↦ by_special (λ (y : ℕ). 0 < length (entity y ++ rest)) x special (omega arith) (omega arith) (omega arith) (omega arith) (omega arith)
      | inr plain ↦ subst (λ (l : List ℕ). 0 < length (l ++ rest)) (sym (plain_stays x plain)) (omega arith)
    ] in
    let short : 0 < 0 = subst (λ (l : List ℕ). 0 < length l) (sym none) (size b) in
    absurd (omega (arith, short))

pub escaped_one : (a b : List ℕ) → escaped a ≡ escaped b → a ≡ b
escaped_one [] [] same = refl
escaped_one [] (y ∷ b) same = absurd (entity_some y (escaped b) same)
escaped_one (x ∷ a) [] same = absurd (entity_some x (escaped a) (sym same))
escaped_one (x ∷ a) (y ∷ b) same =
    let first : x ≡ y = sym (first_of_entity x (escaped a)) ∙ (ap first_byte same ∙ first_of_entity y (escaped b)) in
    let rest : escaped a ≡ escaped b = append_cancel_left (entity y) (escaped a) (escaped b) (subst (λ (z : ℕ). entity z ++ escaped a ≡ entity y ++ escaped b) first same) in
    ap (λ (z : ℕ). z ∷ a) first ∙ ap (λ (l : List ℕ). y ∷ l) (escaped_one a b rest)

-- a byte with which no tag begins
abbrev begins_none : ℕ → Bool
begins_none x = not (eqb x 60)

inner_begins_none : (b : ℕ) → AllPass begins_none (inner_byte b)
unfolding inner_byte
inner_begins_none b = elim (cases_eq b 38) [
  | inl e ↦ subst (λ (x : ℕ). AllPass begins_none (inner_byte x)) (sym e) (AllPass-from_list_all begins_none (inner_byte 38) refl)
  | inr and ↦ elim (cases_eq b 60) [
    | inl e ↦ subst (λ (x : ℕ). AllPass begins_none (inner_byte x)) (sym e) (AllPass-from_list_all begins_none (inner_byte 60) refl)
    | inr less ↦
        let stays : inner_byte b ≡ b ∷ [] = rw (ne_eqb b 38 and, ne_eqb b 60 less) refl in
        subst (λ (l : List ℕ). AllPass begins_none l) (sym stays)
        (AllPass-from_list_all begins_none (b ∷ []) (ap (λ (v : Bool). not v && true) (ne_eqb b 60 less)))
  ]
]

embedded_begins_none : (json : List ℕ) → AllPass begins_none (embedded json)
embedded_begins_none [] = AllPass-from_list_all begins_none [] refl
embedded_begins_none (b ∷ json) = All-append (λ x. begins_none x ≡ true) (inner_byte b) (embedded json) (inner_begins_none b) (embedded_begins_none json)

pub embedded_plain : (json : List ℕ) → Contains (embedded json) 60 → ⊥
embedded_plain json at =
    let none : false ≡ true = All-contains (λ x. begins_none x ≡ true) (embedded json) 60 (embedded_begins_none json) at in
    absurd (cc)

-- Texts that are appended, one behind another.

-- a text that is appended last
pub ended : {T E : Type 0} (r : Result T E) (old text new : List ℕ) → new ≡ cond (is_ok r) (old ++ text) old → OnOk r (new ≡ old ++ text)
ended (Ok x) old text new is = is
ended (Err e) old text new is = tt

pub ends : {T E : Type 0} (r : Result T E) (old text new : List ℕ) → OnOk r (new ≡ old ++ text) → OnOk r (new ≡ old ++ (text ++ []))
ends (Ok t) old text new last = last ∙ ap (λ (l : List ℕ). old ++ l) (sym (append-nil text))
ends (Err e) old text new last = tt

-- the rest stands behind a text
pub then : {T E : Type 0} (r : Result T E) (old mid text rest new : List ℕ) → mid ≡ old ++ text → OnOk r (new ≡ mid ++ rest) → OnOk r (new ≡ old ++ (text ++ rest))
then (Ok t) old mid text rest new is last = last ∙ (ap (λ (l : List ℕ). l ++ rest) is ∙ append_assoc old text rest)
then (Err e) old mid text rest new is last = tt

-- Rows of numbers, one behind another.

-- the row of one number more
pub rows_from : (row : ℕ → List ℕ) (k m : ℕ) → k < m → flat_map row (range_with_len k (m - k)) ≡ row k ++ flat_map row (range_with_len (k + 1) (m - (k + 1)))
rows_from row k m within =
    let more : m - k ≡ suc (m - (k + 1)) = omega (arith, within) in
    ap (λ (n : ℕ). flat_map row (range_with_len k n)) more
