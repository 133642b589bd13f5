-- Texts are tested and read as lists, fields of lists read back, and closed position sets are a kind.
use Rattle.std.proofs.Common.{◌≡◌, ℕ, ◌+◌, ◌-◌, ◌*◌, ◌/◌, ◌%◌, ◌<◌, ◌≤◌, List, length, take, drop, get_or, inl, inr, ◌∙◌, ap, arith, Bool, not, ltb, refl, sym, subst, ◌^◌, false, true, [], ◌∷◌, Some, Ok, Err}
use Rattle.std.specs.Prelude.{IsTrue, All, Decides, decimal}
use Rattle.std.proofs.lemmas.Bool.{cases_lt}
use Rattle.std.proofs.lemmas.Bool.Decides.{nat_tests, Decides-and, Decides-eqb, Decides-ltb}
use Rattle.std.proofs.lemmas.List.{get_or-take, get_or-drop, length-take, length-drop}
use Rattle.std.proofs.lemmas.List.Elements.{All-from_get_or}
use Rattle.std.proofs.Math.Nat.{mul-le-mul_left, mod-lt}
use Rattle.std.proofs.lemmas.Nat.{div-add-mod', div-mul-add}
use Rattle.std.specs.declared.cmp.Ordering.{Ordering}
use Rattle.std.specs.declared.cmp.Ordering.TheVariants.{Less, Equal, Greater}
use Rattle.std.specs.Ordering.{nat_cmp, is_lt}
use Rattle.std.specs.Cmp.Lexicographic.{slice_cmp}
use Rattle.ngram_cps.specs.Words.{item, IsListing, is_digit, IsLocalText, IsWordList, IsLocalList, IsWordText}
use Rattle.ngram_cps.specs.Lists.{Lists, AreLists, count_of, goes_up, is_listing, is_word_text, is_local_text, is_word_list, is_local_list, are_lists, lists, AreWithin}
use Rattle.ngram_cps.proofs.Closed.{end_of, item_size}
use Rattle.kind_evidence.proofs.EvidenceLaws.{below_decides, is_letter, have_room}
use Rattle.text.specs.Terms.{decimal_value, AreFields, with_value}
use Rattle.text.specs.declared.fields.FieldFault.TheVariants.{BadList}
use Rattle.text.proofs.DecimalFields.{decimal_value-decimal, length_of_number, number_is_field, and_field, no_fields, length-spaced}
use Rattle.kind_evidence.specs.Terms.{IsKind}
use Rattle.ngram_cps.specs.Kind.{width_in, lists_by, ngram_by, ngram_fields, ngram_kind}
use Rattle.ngram_cps.specs.Limits.{width_limit, list_byte_limit}

-- Each byte of a list is above the space: so there is neither a space nor a newline in it.
abbrev pub AreHigh : List ℕ → Type 0
AreHigh text = All (λ b. 33 ≤ b) text

digit_is_high : (b : ℕ) → IsTrue (is_digit b) → 33 ≤ b
digit_is_high b digit = grind (arith, nat_tests, digit)

-- a byte of an item stands in the text
byte_of : (w : ℕ) (text : List ℕ) (k j : ℕ) → j < w → get_or (item w text k) j 0 ≡ get_or text (k * (w + 1) + j) 0
byte_of w text k j less = get_or-take w (drop (k * (w + 1)) text) j 0 less ∙ get_or-drop (k * (w + 1)) text j 0

-- the place of a byte: so many items before it, and so far into its own
inside_count : (w count i : ℕ) → (q j : ℕ) → q * (w + 1) + j ≡ i → i + 1 < count * (w + 1) → q < count
inside_count w count i q j is less =
    elim (cases_lt q count) [
      | inl fewer ↦ fewer
      | inr more ↦
          let all : (w + 1) * count ≤ (w + 1) * q = mul-le-mul_left (w + 1) more in
          absurd (omega arith)
    ]

next_count : (w count q : ℕ) → q * (w + 1) + w + 1 < count * (w + 1) → q + 1 < count
next_count w count q less =
    elim (cases_lt (q + 1) count) [
      | inl fewer ↦ fewer
      | inr more ↦
          let all : (w + 1) * count ≤ (w + 1) * (q + 1) = mul-le-mul_left (w + 1) more in
          absurd (omega arith)
    ]

module _ (w count : ℕ) (text : List ℕ) (l : IsListing w count text) (each : (k j : ℕ) → k < count → j < w → 33 ≤ get_or (item w text k) j 0) where
  high_at : (q j i : ℕ) → q * (w + 1) + j ≡ i → j < w + 1 → i < length text → 33 ≤ get_or text i 0
  high_at q j i is inside less =
      let size = l.size in
      elim (cases_lt j w) [
        | inl before ↦
            let byte = byte_of w text q j before in
            let there : get_or text (q * (w + 1) + j) 0 ≡ get_or text i 0 = ap (λ x. get_or text x 0) is in
            let high = each q j (inside_count w count i q j is (omega arith)) before in
            omega (arith, byte, there, high)
        | inr behind ↦
            let end : j ≡ w = omega arith in
            let comma = l.commas q (next_count w count q (omega arith)) in
            let there : get_or text (q * (w + 1) + w) 0 ≡ get_or text i 0 = ap (λ x. get_or text x 0) (let e : q * (w + 1) + w ≡ i = omega arith in e) in
            omega (arith, comma, there)
      ]

  listing_is_high : AreHigh text
  listing_is_high = All-from_get_or (λ b. 33 ≤ b) text 0 (λ i less.
      let whole : i / (w + 1) * (w + 1) + i % (w + 1) ≡ i = div-add-mod' i (w + 1) in
      let inside : i % (w + 1) < w + 1 = mod-lt i (omega arith) in
      high_at (i / (w + 1)) (i % (w + 1)) i whole inside less)

length_of_item : (w count : ℕ) (text : List ℕ) → IsListing w count text → (k : ℕ) → k < count → length (item w text k) ≡ w
length_of_item w count text l k less = item_size w text k (end_of w count k (length text) l.size less)

words_are_high : (g : ℕ) (text : List ℕ) → IsWordList g text → AreHigh text
words_are_high g text list = listing_is_high g list.count text list.listing (λ k j less inside.
    digit_is_high (get_or (item g text k) j 0) ((list.words.each k less).digits j (let size = length_of_item g list.count text list.listing k less in omega arith)))

local_is_high : (n g : ℕ) (bytes : List ℕ) → length bytes ≡ 2 * g + 2 → IsLocalText n g bytes → (j : ℕ) → j < 2 * g + 2 → 33 ≤ get_or bytes j 0
local_is_high n g bytes size l j inside = elim (cases_lt j g) [
  | inl left ↦
      let same = get_or-take g bytes j 0 left in
      let high = digit_is_high (get_or (take g bytes) j 0) (l.left.digits j (simp (length-take) (omega arith))) in
      omega (arith, same, high)
  | inr behind ↦ elim (cases_lt j (g + 2)) [
    | inl middle ↦ elim (cases_lt j (g + 1)) [
      | inl state ↦
          let e : get_or bytes g 0 ≡ get_or bytes j 0 = ap (λ x. get_or bytes x 0) (let s : g ≡ j = omega arith in s) in
          let high = l.letter in
          omega (arith, e, high)
      | inr read ↦
          let e : get_or bytes (g + 1) 0 ≡ get_or bytes j 0 = ap (λ x. get_or bytes x 0) (let s : g + 1 ≡ j = omega arith in s) in
          let high = digit_is_high (get_or bytes (g + 1) 0) l.read in
          omega (arith, e, high)
    ]
    | inr right ↦
        let same = get_or-drop (g + 2) bytes (j - (g + 2)) 0 in
        let e : get_or bytes (g + 2 + (j - (g + 2))) 0 ≡ get_or bytes j 0 = ap (λ x. get_or bytes x 0) (let s : g + 2 + (j - (g + 2)) ≡ j = omega arith in s) in
        let high = digit_is_high (get_or (drop (g + 2) bytes) (j - (g + 2)) 0) (l.right.digits (j - (g + 2)) (simp (length-drop) (omega arith))) in
        omega (arith, same, e, high)
  ]
]

locals_are_high : (n g : ℕ) (text : List ℕ) → IsLocalList n g text → AreHigh text
locals_are_high n g text list = listing_is_high (2 * g + 2) list.count text list.listing (λ k j less inside.
    local_is_high n g (item (2 * g + 2) text k) (length_of_item (2 * g + 2) list.count text list.listing k less) (list.locals.each k less) j inside)

pub record AreHighLists (s : Lists) : Type 0 where
  pub left : AreHigh s.left
  pub right : AreHigh s.right
  pub local : AreHigh s.local

pub lists_are_high : (s : Lists) → AreLists s → AreHighLists s
lists_are_high s l = record {
  left = words_are_high s.width s.left l.left;
  right = words_are_high s.width s.right l.right;
  local = locals_are_high s.states s.width s.local l.local;
}

-- The tests of lists answer as the lists are.
itself : (b : Bool) → Decides b (IsTrue b)
itself b = (λ x. x, λ x. x)

less_decides : (o : Ordering) → Decides (is_lt o) (o ≡ Less)
less_decides Less = (λ t. refl, λ e. refl)
less_decides Equal = (λ t. absurd cc, λ e. absurd cc)
less_decides Greater = (λ t. absurd cc, λ e. absurd cc)

at_least : (a b : ℕ) → Decides (not (ltb b a)) (a ≤ b)
at_least a b = (λ t. grind (arith, nat_tests, t), λ le. grind (arith, nat_tests, le))

count_back : (w count : ℕ) → count * (w + 1) / (w + 1) ≡ count
count_back w count =
    let e : count * (w + 1) ≡ count * (w + 1) + 0 = omega arith in
    ap (λ x. x / (w + 1)) e ∙ div-mul-add count (w + 1) 0 (omega arith)

-- a list has one count alone
count_is : (w count : ℕ) (text : List ℕ) → length text + 1 ≡ count * (w + 1) → count_of w text ≡ count
count_is w count text size = ap (λ x. x / (w + 1)) size ∙ count_back w count

listing_decides : (w : ℕ) (text : List ℕ) → Decides (is_listing w text) (IsListing w (count_of w text) text)
unfolding is_listing
listing_decides w text =
    let n = count_of w text in
    let gaps = below_decides (goes_up w text) _ (λ k. Decides-and _ _ (Decides-eqb (get_or text (k * (w + 1) + w) 0) 44) (less_decides (slice_cmp nat_cmp (item w text k) (item w text (k + 1))))) (n - 1) in
    let both = Decides-and _ _ (Decides-eqb (length text + 1) (n * (w + 1))) gaps in (
      λ t. let l = both.0 t in record {
        size = l.0;
        commas = λ k less. (l.1 k (omega arith)).0;
        rising = λ k less. (l.1 k (omega arith)).1;
      },
      λ l. both.1 (l.size, λ k less. (l.commas k (omega arith), l.rising k (omega arith))),
    )

word_decides : (bytes : List ℕ) → Decides (is_word_text bytes) (IsWordText bytes)
word_decides bytes =
    let all = below_decides (λ i. is_digit (get_or bytes i 0)) (λ i. IsTrue (is_digit (get_or bytes i 0))) (λ i. itself _) (length bytes) in
    (λ t. record { digits = all.0 t }, λ w. all.1 w.digits)

local_decides : (n g : ℕ) (bytes : List ℕ) → Decides (is_local_text n g bytes) (IsLocalText n g bytes)
local_decides n g bytes =
    let all = Decides-and _ _ (word_decides (take g bytes)) (Decides-and _ _ (at_least 65 (get_or bytes g 0)) (Decides-and _ _ (Decides-ltb (get_or bytes g 0) (65 + n)) (Decides-and _ _ (itself (is_digit (get_or bytes (g + 1) 0))) (word_decides (drop (g + 2) bytes))))) in
    (λ t. let l = all.0 t in record { left = l.0; letter = l.1.0; state = l.1.1.0; read = l.1.1.1.0; right = l.1.1.1.1 }, λ l. all.1 (l.left, (l.letter, (l.state, (l.read, l.right)))))

word_list_decides : (g : ℕ) (text : List ℕ) → Decides (is_word_list g text) (IsWordList g text)
unfolding is_word_list
word_list_decides g text =
    let all = Decides-and _ _ (listing_decides g text) (below_decides (λ k. is_word_text (item g text k)) (λ k. _) (λ k. word_decides (item g text k)) (count_of g text)) in (
      λ t. let l = all.0 t in record { count = count_of g text; listing = l.0; words = record { each = l.1 } },
      λ l. let same = count_is g l.count text l.listing.size in
          all.1 (subst (λ n. IsListing g n text) (sym same) l.listing, λ k less. l.words.each k (let e = same in omega arith)),
    )

local_list_decides : (n g : ℕ) (text : List ℕ) → Decides (is_local_list n g text) (IsLocalList n g text)
unfolding is_local_list
local_list_decides n g text =
    let w = 2 * g + 2 in
    let all = Decides-and _ _ (listing_decides w text) (below_decides (λ k. is_local_text n g (item w text k)) (λ k. _) (λ k. local_decides n g (item w text k)) (count_of w text)) in (
      λ t. let l = all.0 t in record { count = count_of w text; listing = l.0; locals = record { each = l.1 } },
      λ l. let same = count_is w l.count text l.listing.size in
          all.1 (subst (λ c. IsListing w c text) (sym same) l.listing, λ k less. l.locals.each k (let e = same in omega arith)),
    )

pub lists_decide : (s : Lists) → Decides (are_lists s) (AreLists s)
unfolding are_lists
lists_decide s =
    let all = Decides-and _ _ (word_list_decides s.width s.left) (Decides-and _ _ (word_list_decides s.width s.right) (local_list_decides s.states s.width s.local)) in
    (λ t. let l = all.0 t in record { left = l.0; right = l.1.0; local = l.1.1 }, λ l. all.1 (l.left, (l.right, l.local)))

-- Three texts are read as lists where they are lists, and are refused where they are none; the fields of lists read back,
-- and closed position sets are a kind.
are_short : (s : Lists) → length s.left + length s.right + length s.local ≤ list_byte_limit → ltb list_byte_limit (length s.left + length s.right + length s.local) ≡ false
are_short s short = grind (arith, nat_tests, short)

pub lists_made : (e s : Lists) → e ≡ s → AreLists s → length s.left + length s.right + length s.local ≤ list_byte_limit → Ok e ≡ lists_by s
lists_made e s same l short =
    let tested : are_lists s ≡ true = (lists_decide s).1 l in
    ap (λ s. Ok s) same ∙ rw (are_short s short, tested) refl

pub lists_refused : (s : Lists) → (AreLists s → ⊥) → length s.left + length s.right + length s.local ≤ list_byte_limit → Err BadList ≡ lists_by s
lists_refused s none short =
    let tested : are_lists s ≡ false = elim (are_lists s) as (λ b. are_lists s ≡ b → b ≡ false) [
      | true ↦ λ is. absurd (none ((lists_decide s).0 is))
      | false ↦ λ is. refl
    ] refl in
    rw (are_short s short, tested) refl

width_back : (s : Lists) → AreWithin s → width_in (decimal_value (decimal s.width)) ≡ Some s.width
width_back s within =
    let narrow = within.narrow in
    let some = within.some in
    let least : ltb s.width 1 ≡ false = grind (arith, nat_tests, some) in
    let most : ltb width_limit s.width ≡ false = grind (arith, nat_tests, narrow) in
    ap width_in (decimal_value-decimal s.width (omega arith)) ∙ rw (least, most) refl

lists_back : (s : Lists) → AreLists s → AreWithin s → lists_by s ≡ Ok s
lists_back s l within =
    let tested : are_lists s ≡ true = (lists_decide s).1 l in
    rw (are_short s within.short, tested) refl

pub ngram_back : (s : Lists) → AreLists s → AreWithin s → ngram_by s.states (ngram_fields s) ≡ Ok s
ngram_back s l within =
    ap (λ o. with_value o (λ g. lists_by (lists s.states g s.left s.right s.local))) (width_back s within) ∙ lists_back s l within

pub ngram_are_fields : (s : Lists) → AreLists s → AreWithin s → AreFields (ngram_fields s)
ngram_are_fields s l within =
    let high = lists_are_high s l in
    let narrow = within.narrow in
    let short = within.short in
    let small : s.width < 2 ^ 64 = omega arith in
    record {
      each =
          and_field (decimal s.width) (s.left ∷ (s.right ∷ (s.local ∷ []))) (number_is_field s.width small)
          (and_field s.left (s.right ∷ (s.local ∷ [])) high.left (and_field s.right (s.local ∷ []) high.right (and_field s.local [] high.local no_fields)));
      short = omega (
        arith,
        short,
        length-spaced (decimal s.width) (s.left ∷ (s.right ∷ (s.local ∷ []))),
        length-spaced s.left (s.right ∷ (s.local ∷ [])),
        length-spaced s.right (s.local ∷ []),
        length-spaced s.local [],
        length_of_number s.width small,
      );
    }

pub ngram_is_kind : IsKind ngram_kind
ngram_is_kind = record {
  letter = is_letter 78 (omega arith);
  are_fields = λ s lists. (ngram_are_fields s lists.0 lists.1).each;
  short = λ s n few lists made. have_room (ngram_fields s) n few (ngram_are_fields s lists.0 lists.1);
  back = λ s n lists made. subst (λ n. ngram_by n (ngram_fields s) ≡ Ok s) made (ngram_back s lists.0 lists.1);
  writable = λ s p within stands. (stands.0, within);
  made = λ s p stands. stands.1.states;
}
