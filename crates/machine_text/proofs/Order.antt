-- Tables in the order of their words and codes are in the order of their texts.
use Rattle.std.proofs.Common.{◌≡◌, ℕ, zero, suc, ◌+◌, ◌-◌, ◌*◌, ◌<◌, ◌≤◌, Bool, true, false, ◌&&◌, List, [], ◌∷◌, ◌++◌, length, get_or, drop, refl, sym, ap, ◌∙◌, inl, inr, length-drop, append-nil, arith, take, length-append}
use Rattle.std.specs.Ordering.{nat_cmp, ordering_then, MatchOrdering}
use Rattle.std.specs.declared.cmp.Ordering.{Ordering}
use Rattle.std.specs.declared.cmp.Ordering.TheVariants.{Less, Equal, Greater}
use Rattle.std.specs.Cmp.{nat_cmp_is}
use Rattle.std.specs.Cmp.Lexicographic.{slice_cmp}
use Rattle.std.proofs.lemmas.Bool.{cases_lt}
use Rattle.std.proofs.lemmas.Bool.Decides.{nat_tests}
use Rattle.std.proofs.lemmas.List.{get_or-drop, length-take-le}
use Rattle.std.proofs.Math.Seq.{drop-cons}
use Rattle.std.specs.List.{All}
use Rattle.std.proofs.lemmas.Cmp.{ranked}
use Rattle.std.proofs.lemmas.List.Elements.{All-nil, All-cons, All-head, All-tail, All-take, All-drop, All-append, All-from_get_or}
use Rattle.machine_text.specs.declared.table.Sym.TheVariants.{Zero, One}
use Rattle.machine_text.specs.Packed.{Packed, IsTable, coded_entry, entry_of, table_cmp}
use Rattle.machine_text.specs.Text.{entry_text, row_text, text_of}
use Rattle.machine_text.proofs.Rows.{rows, length-entry_text, length-row_text}
use Rattle.machine_text.specs.inside.{word_behind, word_of}

-- Tables in the order of their codes are in the order of their texts.
abbrev pub compared : List ℕ → List ℕ → Ordering
compared xs ys = slice_cmp nat_cmp xs ys

pub then_assoc : (a b c : Ordering) → ordering_then (ordering_then a b) c ≡ ordering_then a (ordering_then b c)
then_assoc Less b c = refl
then_assoc Equal b c = refl
then_assoc Greater b c = refl

pub then_equal : (a : Ordering) → ordering_then a Equal ≡ a
then_equal Less = refl
then_equal Equal = refl
then_equal Greater = refl

-- what stands before, where it is as long on both sides, decides first
pub compared-append : (xs ys zs ws : List ℕ) → length xs ≡ length ys → compared (xs ++ zs) (ys ++ ws) ≡ ordering_then (compared xs ys) (compared zs ws)
compared-append [] [] zs ws same = refl
compared-append [] (y ∷ ys) zs ws same = absurd (omega arith)
compared-append (x ∷ xs) [] zs ws same = absurd (omega arith)
compared-append (x ∷ xs) (y ∷ ys) zs ws same =
    ap (ordering_then (nat_cmp x y)) (compared-append xs ys zs ws (omega arith)) ∙ sym (then_assoc (nat_cmp x y) (compared xs ys) (compared zs ws))

-- the codes of entries are in the order of the entries' texts: tried for each two codes
same_order : Ordering → Ordering → Bool
same_order Less Less = true
same_order Equal Equal = true
same_order Greater Greater = true
same_order _ _ = false

from_same_order : (a b : Ordering) → same_order a b ≡ true → a ≡ b
unfolding same_order
from_same_order Less Less is = refl
from_same_order Equal Equal is = refl
from_same_order Greater Greater is = refl
from_same_order Less Equal is = cc
from_same_order Less Greater is = cc
from_same_order Equal Less is = cc
from_same_order Equal Greater is = cc
from_same_order Greater Less is = cc
from_same_order Greater Equal is = cc

all_below : (ℕ → Bool) → ℕ → Bool
all_below p zero = true
all_below p (suc n) = p n && all_below p n

and_first : (a b : Bool) → (a && b) ≡ true → a ≡ true
and_first true b is = refl
and_first false b is = is

and_second : (a b : Bool) → (a && b) ≡ true → b ≡ true
and_second true b is = is
and_second false b is = cc

from_all_below : (p : ℕ → Bool) (n : ℕ) → all_below p n ≡ true → (k : ℕ) → k < n → p k ≡ true
unfolding all_below
from_all_below p zero all k below = absurd (omega arith)
from_all_below p (suc n) all k below = elim (cases_lt k n) [
  | inl less ↦ from_all_below p n (and_second (p n) (all_below p n) all) k less
  | inr here ↦
      let same : k ≡ n = omega arith in
      rw same (and_first (p n) (all_below p n) all)
]

abbrev alike : ℕ → ℕ → Bool
alike j k = same_order (compared (entry_text (coded_entry j)) (entry_text (coded_entry k))) (nat_cmp j k)

all_alike : all_below (λ j. all_below (alike j) 33) 33 ≡ true
unfolding all_below same_order
all_alike = refl

entry_order : (j k : ℕ) → j ≤ 32 → k ≤ 32 → compared (entry_text (coded_entry j)) (entry_text (coded_entry k)) ≡ nat_cmp j k
entry_order j k small_j small_k =
    from_same_order _ _ (from_all_below (alike j) 33 (from_all_below (λ i. all_below (alike i) 33) 33 all_alike j (omega arith)) k (omega arith))

-- zeros are the least list of their length
abbrev AllZero : List ℕ → Type 0
AllZero zs = (k : ℕ) → get_or zs k 0 ≡ 0

least : (zs xs : List ℕ) → AllZero zs → length zs ≡ length xs → ordering_then (compared zs xs) Less ≡ Less
least [] [] zeros same = refl
least [] (x ∷ xs) zeros same = refl
least (z ∷ zs) [] zeros same = absurd (omega arith)
least (z ∷ zs) (x ∷ xs) zeros same =
    then_assoc (nat_cmp z x) (compared zs xs) Less
    ∙ ap (ordering_then (nat_cmp z x)) (least zs xs (λ k. zeros (suc k)) (omega arith))
    ∙ elim (cases_lt 0 x) [
      | inl more ↦
          let less : Less ≡ nat_cmp z x = nat_cmp_is z x Less (omega (arith, zeros 0)) in
          rw (← less) refl
      | inr none ↦
          let equal : Equal ≡ nat_cmp z x = nat_cmp_is z x Equal (omega (arith, zeros 0)) in
          rw (← equal) refl
    ]

greatest : (xs zs : List ℕ) → AllZero zs → length zs ≡ length xs → ordering_then (compared xs zs) Greater ≡ Greater
greatest [] [] zeros same = refl
greatest (x ∷ xs) [] zeros same = refl
greatest [] (z ∷ zs) zeros same = absurd (omega arith)
greatest (x ∷ xs) (z ∷ zs) zeros same =
    then_assoc (nat_cmp x z) (compared xs zs) Greater
    ∙ ap (ordering_then (nat_cmp x z)) (greatest xs zs (λ k. zeros (suc k)) (omega arith))
    ∙ elim (cases_lt 0 x) [
      | inl more ↦
          let greater : Greater ≡ nat_cmp x z = nat_cmp_is x z Greater (omega (arith, zeros 0)) in
          rw (← greater) refl
      | inr none ↦
          let equal : Equal ≡ nat_cmp x z = nat_cmp_is x z Equal (omega (arith, zeros 0)) in
          rw (← equal) refl
    ]

zeros_equal : (zs ws : List ℕ) → AllZero zs → AllZero ws → length zs ≡ length ws → compared zs ws ≡ Equal
zeros_equal [] [] zeros others same = refl
zeros_equal [] (w ∷ ws) zeros others same = absurd (omega arith)
zeros_equal (z ∷ zs) [] zeros others same = absurd (omega arith)
zeros_equal (z ∷ zs) (w ∷ ws) zeros others same =
    let equal : Equal ≡ nat_cmp z w = nat_cmp_is z w Equal (omega (arith, zeros 0, others 0)) in
    rw (← equal) (zeros_equal zs ws (λ k. zeros (suc k)) (λ k. others (suc k)) (omega arith))

nat_cmp-suc : (m n : ℕ) → nat_cmp (suc m) (suc n) ≡ nat_cmp m n
nat_cmp-suc m n = grind (arith, nat_tests)

-- the codes of the states from one on
abbrev codes_from : Packed → ℕ → List ℕ
codes_from p q = drop (2 * q) p.codes

codes_step : (p : Packed) → IsTable p → (q : ℕ) → q < p.states → codes_from p q ≡ get_or p.codes (2 * q) 0 ∷ (get_or p.codes (2 * q + 1) 0 ∷ codes_from p (q + 1))
codes_step p table q below =
    let within : 2 * q + 1 < length p.codes = omega (arith, table.size, table.limit) in
    let one : suc (2 * q) ≡ 2 * q + 1 = omega arith in
    let two : suc (2 * q + 1) ≡ 2 * (q + 1) = omega arith in
    drop-cons p.codes (2 * q) 0 (omega arith)
    ∙ ap (λ i. get_or p.codes (2 * q) 0 ∷ drop i p.codes) one
    ∙ ap (λ l. get_or p.codes (2 * q) 0 ∷ l) (drop-cons p.codes (2 * q + 1) 0 within ∙ ap (λ i. get_or p.codes (2 * q + 1) 0 ∷ drop i p.codes) two)

rest_zero : (p : Packed) → IsTable p → (q : ℕ) → p.states ≡ q + 1 → AllZero (codes_from p (q + 1))
rest_zero p table q last k = get_or-drop (2 * (q + 1)) p.codes k 0 ∙ table.beyond (2 * (q + 1) + k) (omega arith)

module _ (a b : Packed) (table_a : IsTable a) (table_b : IsTable b) where
  -- two rows are in the order of their two codes
  row_order : (q : ℕ) → compared (row_text a q) (row_text b q) ≡ ordering_then (nat_cmp (get_or a.codes (2 * q) 0) (get_or b.codes (2 * q) 0)) (nat_cmp (get_or a.codes (2 * q + 1) 0) (get_or b.codes (2 * q + 1) 0))
  unfolding entry_of
  row_order q =
      let first : 2 * q + 0 ≡ 2 * q = omega arith in
      compared-append (entry_text (entry_of a q Zero)) (entry_text (entry_of b q Zero)) (entry_text (entry_of a q One)) (entry_text (entry_of b q One)) (length-entry_text (entry_of a q Zero) ∙ sym (length-entry_text (entry_of b q Zero)))
      ∙ rw first (rw (entry_order _ _ (table_a.codes (2 * q)) (table_b.codes (2 * q)), entry_order _ _ (table_a.codes (2 * q + 1)) (table_b.codes (2 * q + 1))) refl)

  same_size : (q : ℕ) → length (codes_from a q) ≡ length (codes_from b q)
  same_size q = omega (arith, length-drop (2 * q) a.codes, length-drop (2 * q) b.codes, table_a.size, table_b.size)

  abbrev row_compared : ℕ → Ordering
  row_compared q = ordering_then (nat_cmp (get_or a.codes (2 * q) 0) (get_or b.codes (2 * q) 0)) (nat_cmp (get_or a.codes (2 * q + 1) 0) (get_or b.codes (2 * q + 1) 0))

  -- the codes from a state on are in the order of its row, then of the codes behind
  codes_order : (q : ℕ) → q < a.states → q < b.states → (o : Ordering)
      → ordering_then (compared (codes_from a q) (codes_from b q)) o ≡ ordering_then (row_compared q) (ordering_then (compared (codes_from a (q + 1)) (codes_from b (q + 1))) o)
  codes_order q in_a in_b o =
      let x = nat_cmp (get_or a.codes (2 * q) 0) (get_or b.codes (2 * q) 0) in
      let y = nat_cmp (get_or a.codes (2 * q + 1) 0) (get_or b.codes (2 * q + 1) 0) in
      let rest = compared (codes_from a (q + 1)) (codes_from b (q + 1)) in
      rw (codes_step a table_a q in_a, codes_step b table_b q in_b)
      (ap (λ z. ordering_then z o) (sym (then_assoc x y rest)) ∙ then_assoc (ordering_then x y) rest o)

  from_row : (q m n : ℕ) → a.states ≡ q + suc m → b.states ≡ q + suc n
      → compared (rows a q (suc m)) (rows b q (suc n)) ≡ ordering_then (compared (codes_from a q) (codes_from b q)) (nat_cmp m n)
  from_row q zero zero last_a last_b =
      let zeros = zeros_equal (codes_from a (q + 1)) (codes_from b (q + 1)) (rest_zero a table_a q (omega arith)) (rest_zero b table_b q (omega arith)) (same_size (q + 1)) in
      row_order q ∙ sym (codes_order q (omega arith) (omega arith) Equal ∙ rw zeros (then_equal (row_compared q)))
  from_row q zero (suc n) last_a more_b =
      let last = compared-append (row_text a q) (row_text b q) [] (95 ∷ rows b (q + 1) (suc n)) (length-row_text a q ∙ sym (length-row_text b q)) in
      let less : Less ≡ nat_cmp zero (suc n) = nat_cmp_is zero (suc n) Less (omega arith) in
      ap (λ l. compared l (rows b q (suc (suc n)))) (sym (append-nil (row_text a q)))
      ∙ last
      ∙ ap (λ o. ordering_then o Less) (row_order q)
      ∙ sym (rw (← less) (codes_order q (omega arith) (omega arith) Less ∙ ap (ordering_then (row_compared q)) (least (codes_from a (q + 1)) (codes_from b (q + 1)) (rest_zero a table_a q (omega arith)) (same_size (q + 1)))))
  from_row q (suc m) zero more_a last_b =
      let last = compared-append (row_text a q) (row_text b q) (95 ∷ rows a (q + 1) (suc m)) [] (length-row_text a q ∙ sym (length-row_text b q)) in
      let greater : Greater ≡ nat_cmp (suc m) zero = nat_cmp_is (suc m) zero Greater (omega arith) in
      ap (λ l. compared (rows a q (suc (suc m))) l) (sym (append-nil (row_text b q)))
      ∙ last
      ∙ ap (λ o. ordering_then o Greater) (row_order q)
      ∙ sym (rw (← greater) (codes_order q (omega arith) (omega arith) Greater ∙ ap (ordering_then (row_compared q)) (greatest (codes_from a (q + 1)) (codes_from b (q + 1)) (rest_zero b table_b q (omega arith)) (sym (same_size (q + 1))))))
  from_row q (suc m) (suc n) more_a more_b =
      compared-append (row_text a q) (row_text b q) (95 ∷ rows a (q + 1) (suc m)) (95 ∷ rows b (q + 1) (suc n)) (length-row_text a q ∙ sym (length-row_text b q))
      ∙ ap (λ o. ordering_then o (compared (rows a (q + 1) (suc m)) (rows b (q + 1) (suc n)))) (row_order q)
      ∙ ap (ordering_then (row_compared q)) (from_row (q + 1) m n (omega arith) (omega arith))
      ∙ sym (rw (nat_cmp-suc m n) (codes_order q (omega arith) (omega arith) (nat_cmp m n)))

  -- the order of the codes, then of the numbers of states, is that of the texts
  pub order_of_texts : ordering_then (compared a.codes b.codes) (nat_cmp a.states b.states) ≡ compared (text_of a) (text_of b)
  unfolding text_of
  order_of_texts =
      let all_a : a.states ≡ suc (a.states - 1) = omega (arith, table_a.some) in
      let all_b : b.states ≡ suc (b.states - 1) = omega (arith, table_b.some) in
      let states : nat_cmp a.states b.states ≡ nat_cmp (a.states - 1) (b.states - 1) = ap (λ n. nat_cmp n b.states) all_a ∙ ap (nat_cmp (suc (a.states - 1))) all_b ∙ nat_cmp-suc (a.states - 1) (b.states - 1) in
      ap (ordering_then (compared a.codes b.codes)) states
      ∙ sym (ap (λ n. compared (rows a 0 n) (rows b 0 b.states)) all_a ∙ ap (λ n. compared (rows a 0 (suc (a.states - 1))) (rows b 0 n)) all_b ∙ from_row 0 (a.states - 1) (b.states - 1) (omega arith) (omega arith))

-- Words of bytes are in the order of the bytes.

-- one more digit behind each of two numbers decides where the numbers don't
one_more_by : (n m x y : ℕ) (r s : Ordering) → x < 256 → y < 256 → MatchOrdering r (n < m) (n ≡ m) (m < n) → MatchOrdering s (x < y) (x ≡ y) (y < x)
    → MatchOrdering (ordering_then r s) (256 * n + x < 256 * m + y) (256 * n + x ≡ 256 * m + y) (256 * m + y < 256 * n + x)
one_more_by n m x y Less s small_x small_y numbers digits = omega arith
one_more_by n m x y Greater s small_x small_y numbers digits = omega arith
one_more_by n m x y Equal Less small_x small_y numbers digits = omega arith
one_more_by n m x y Equal Equal small_x small_y numbers digits = omega arith
one_more_by n m x y Equal Greater small_x small_y numbers digits = omega arith

one_more : (n m x y : ℕ) → x < 256 → y < 256 → nat_cmp (256 * n + x) (256 * m + y) ≡ ordering_then (nat_cmp n m) (nat_cmp x y)
one_more n m x y small_x small_y = sym (nat_cmp_is _ _ _ (one_more_by n m x y (nat_cmp n m) (nat_cmp x y) small_x small_y (ranked n m _ refl) (ranked x y _ refl)))

words_order : (xs ys : List ℕ) (n m : ℕ) → length xs ≡ length ys → All (λ b. b < 256) xs → All (λ b. b < 256) ys
    → nat_cmp (word_behind n xs) (word_behind m ys) ≡ ordering_then (nat_cmp n m) (compared xs ys)
words_order [] [] n m same small_x small_y = sym (then_equal (nat_cmp n m))
words_order [] (y ∷ ys) n m same small_x small_y = absurd (omega arith)
words_order (x ∷ xs) [] n m same small_x small_y = absurd (omega arith)
words_order (x ∷ xs) (y ∷ ys) n m same small_x small_y =
    words_order xs ys (256 * n + x) (256 * m + y) (omega arith) (All-tail (λ b. b < 256) x xs small_x) (All-tail (λ b. b < 256) y ys small_y)
    ∙ ap (λ o. ordering_then o (compared xs ys)) (one_more n m x y (All-head (λ b. b < 256) x xs small_x) (All-head (λ b. b < 256) y ys small_y))
    ∙ then_assoc (nat_cmp n m) (nat_cmp x y) (compared xs ys)

-- what stands before a place and what stands from it on, where the element at it is in both
both_by : (o s r : Ordering) → ordering_then (ordering_then o Equal) (ordering_then (ordering_then o s) r) ≡ ordering_then (ordering_then o s) r
both_by Less s r = refl
both_by Equal s r = refl
both_by Greater s r = refl

behind_by : (o t d s r : Ordering) → ordering_then t (ordering_then d r) ≡ ordering_then s r
    → ordering_then (ordering_then o t) (ordering_then d r) ≡ ordering_then (ordering_then o s) r
behind_by Less t d s r rest = refl
behind_by Equal t d s r rest = rest
behind_by Greater t d s r rest = refl

overlap : (k : ℕ) (xs ys : List ℕ) (r : Ordering)
    → ordering_then (compared (take (suc k) xs) (take (suc k) ys)) (ordering_then (compared (drop k xs) (drop k ys)) r) ≡ ordering_then (compared xs ys) r
overlap zero [] [] r = refl
overlap zero [] (y ∷ ys) r = refl
overlap zero (x ∷ xs) [] r = refl
overlap zero (x ∷ xs) (y ∷ ys) r = both_by (nat_cmp x y) (compared xs ys) r
overlap (suc k) [] [] r = refl
overlap (suc k) [] (y ∷ ys) r = refl
overlap (suc k) (x ∷ xs) [] r = refl
overlap (suc k) (x ∷ xs) (y ∷ ys) r = behind_by (nat_cmp x y) _ _ (compared xs ys) r (overlap k xs ys r)

-- the words of tables are in the order of the tables
bytes : (p : Packed) → IsTable p → All (λ b. b < 256) p.codes
bytes p table = All-from_get_or (λ b. b < 256) p.codes 0 (λ k below. omega (arith, table.codes k))

last_bytes : (p : Packed) → IsTable p → All (λ b. b < 256) (drop 7 p.codes ++ p.states ∷ [])
last_bytes p table = All-append (λ b. b < 256) (drop 7 p.codes) (p.states ∷ []) (All-drop (λ b. b < 256) 7 p.codes (bytes p table))
    (All-cons (λ b. b < 256) p.states [] (omega (arith, table.limit)) (All-nil (λ b. b < 256)))

last_length : (p : Packed) → IsTable p → length (drop 7 p.codes) ≡ 7
last_length p table = omega (arith, length-drop 7 p.codes, table.size)

last_order : (p q : Packed) → IsTable p → IsTable q
    → nat_cmp (word_of (drop 7 p.codes ++ p.states ∷ [])) (word_of (drop 7 q.codes ++ q.states ∷ [])) ≡ ordering_then (compared (drop 7 p.codes) (drop 7 q.codes)) (nat_cmp p.states q.states)
last_order p q table_p table_q =
    words_order (drop 7 p.codes ++ p.states ∷ []) (drop 7 q.codes ++ q.states ∷ []) 0 0
    (length-append (drop 7 p.codes) (p.states ∷ []) ∙ omega (arith, last_length p table_p, last_length q table_q) ∙ sym (length-append (drop 7 q.codes) (q.states ∷ [])))
    (last_bytes p table_p) (last_bytes q table_q)
    ∙ compared-append (drop 7 p.codes) (drop 7 q.codes) (p.states ∷ []) (q.states ∷ []) (last_length p table_p ∙ sym (last_length q table_q))
    ∙ ap (ordering_then (compared (drop 7 p.codes) (drop 7 q.codes))) (then_equal (nat_cmp p.states q.states))

pub words_decide : (p q : Packed) → IsTable p → IsTable q
    → ordering_then (nat_cmp (word_of (take 8 p.codes)) (word_of (take 8 q.codes))) (nat_cmp (word_of (drop 7 p.codes ++ p.states ∷ [])) (word_of (drop 7 q.codes ++ q.states ∷ []))) ≡ table_cmp p q
words_decide p q table_p table_q =
    let long_p : length (take 8 p.codes) ≡ 8 = length-take-le 8 p.codes (omega (arith, table_p.size)) in
    let long_q : length (take 8 q.codes) ≡ 8 = length-take-le 8 q.codes (omega (arith, table_q.size)) in
    let first = words_order (take 8 p.codes) (take 8 q.codes) 0 0 (long_p ∙ sym long_q) (All-take (λ b. b < 256) 8 p.codes (bytes p table_p)) (All-take (λ b. b < 256) 8 q.codes (bytes q table_q)) in
    rw (first, last_order p q table_p table_q) (overlap 7 p.codes q.codes (nat_cmp p.states q.states))
