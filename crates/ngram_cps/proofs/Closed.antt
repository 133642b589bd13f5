-- Items of sorted lists are found, and lists are closed where each configuration's step stays inside.
use Rattle.std.specs.declared.cmp.Ordering.TheVariants.{Less, Equal, Greater}
use Rattle.std.proofs.Common.{◌≡◌, ℕ, zero, suc, ◌+◌, ◌-◌, ◌*◌, ◌<◌, ◌≤◌, List, length, get_or, ◌==◌, false, refl, inl, inr, sym, ◌∙◌, ap, arith, Bool, true, [], ◌∷◌, ◌++◌, replicate, Option, Some, None, subst}
use Rattle.std.specs.declared.cmp.Ordering.{Ordering}
use Rattle.std.specs.Ordering.{nat_cmp, ordering_reverse, ordering_index}
use Rattle.std.specs.Prelude.{not, ◌↔◌, IsTrue}
use Rattle.std.specs.Cmp.Lexicographic.{slice_cmp}
use Rattle.std.specs.FinMap.{nat_cmp-IsAntisymmetric, slice_cmp-IsAntisymmetric}
use Rattle.std.proofs.lemmas.Bool.{cases_lt, cases_eq}
use Rattle.std.proofs.lemmas.Cmp.{nat_list_cmp_total, tied_itself}
use Rattle.std.proofs.lemmas.List.{length-take, length-drop, length-map, length-append, length-replicate}
use Rattle.std.proofs.Math.Nat.{mul-le-mul_left}
use Rattle.ngram_cps.specs.Words.{item, IsListing, IsItem, word_text, local_text, AreLocals}
use Rattle.ngram_cps.specs.inside.{RisesTo, StandsBetween, FollowsRight, FollowsLeft, StepsRight, StepsLeft, FollowsSide, StepsBy, GoesOn, EachGoesOn, HoldBlank}
use Rattle.machine_text.specs.declared.table.Sym.{Sym}
use Rattle.machine_text.specs.declared.table.Sym.TheVariants.{Zero, One}
use Rattle.machine_text.specs.declared.table.Dir.{Dir}
use Rattle.machine_text.specs.declared.table.Dir.TheVariants.{L, R}
use Rattle.machine_text.specs.declared.table.Entry.{Entry}
use Rattle.machine_text.specs.Terms.{Packed, entry_of, symbol_of, symbol_byte}
use Rattle.law_turing.specs.Terms.{Machine, Local, IsClosedSet}
use Rattle.ngram_cps.specs.Lists.{Lists, IsLocalItem, IsPositionSet}
use Rattle.ngram_cps.proofs.Texts.{zero_text, state_byte, read_byte, symbol_again, text_r, left_is_r, right_is_r, local_is_r, text_l, left_is_l, right_is_l, local_is_l, spelled, spelled_left, spelled_right, spelled_text}

-- Where the items of a sorted list stand, and how one is found.

-- a place is one of the items' where so many bytes are there
pub end_of : (w count k size : ℕ) → size + 1 ≡ count * (w + 1) → k < count → k * (w + 1) + w ≤ size
end_of w count k size is within =
    let more : (w + 1) * (k + 1) ≤ (w + 1) * count = mul-le-mul_left (w + 1) (omega arith) in
    omega arith

pub place_of : (w count k size : ℕ) → size + 1 ≡ count * (w + 1) → k * (w + 1) + w ≤ size → k < count
place_of w count k size is within =
    elim (cases_lt k count) [
      | inl less ↦ less
      | inr more ↦
          let fewer : (w + 1) * count ≤ (w + 1) * k = mul-le-mul_left (w + 1) more in
          absurd (omega arith)
    ]

-- an item has its width
pub item_size : (w : ℕ) (text : List ℕ) (k : ℕ) → k * (w + 1) + w ≤ length text → length (item w text k) ≡ w
item_size w text k within = simp (length-take, length-drop) (omega arith)

-- the first items of a list rise, and all of them are a list
pub rises_more : (w k : ℕ) (text : List ℕ) → 1 ≤ k → get_or text (k * (w + 1) - 1) 0 ≡ 44 → slice_cmp nat_cmp (item w text (k - 1)) (item w text k) ≡ Less → RisesTo w k text → RisesTo w (k + 1) text
rises_more w zero text some comma less r = absurd (omega arith)
rises_more w (suc j) text some comma less r =
    let place : suc j * (w + 1) - 1 ≡ j * (w + 1) + w = omega arith in
    let before : suc j - 1 ≡ j = omega arith in
    record {
      commas = λ i within. elim (cases_eq i j) [
        | inl e ↦ ap (λ x. get_or text (x * (w + 1) + w) 0) e ∙ ap (λ x. get_or text x 0) (sym place) ∙ comma
        | inr other ↦ r.commas i (omega arith)
      ];
      rising = λ i within. elim (cases_eq i j) [
        | inl e ↦ ap (λ x. slice_cmp nat_cmp (item w text x) (item w text (x + 1))) e
            ∙ ap (λ x. slice_cmp nat_cmp (item w text x) (item w text (j + 1))) (sym before)
            ∙ ap (λ x. slice_cmp nat_cmp (item w text (suc j - 1)) (item w text x)) (let e : j + 1 ≡ suc j = omega arith in e) ∙ less
        | inr other ↦ r.rising i (omega arith)
      ];
    }

-- the comma before an item
pub comma_before : (w count k : ℕ) (text : List ℕ) → IsListing w count text → 1 ≤ k → k < count → get_or text (k * (w + 1) - 1) 0 ≡ 44
comma_before w count zero text l some within = absurd (omega arith)
comma_before w count (suc j) text l some within =
    let place : suc j * (w + 1) - 1 ≡ j * (w + 1) + w = omega arith in
    ap (λ x. get_or text x 0) place ∙ l.commas j (omega arith)

-- what a test for less answers
pub less_index : (o : Ordering) → not (ordering_index o == 0) ≡ false → o ≡ Less
less_index Less is = refl
less_index Equal is = absurd cc
less_index Greater is = absurd cc

-- each item is less than each later one
rises : (w count : ℕ) (text : List ℕ) → IsListing w count text → (i j : ℕ) → i < j → j < count → slice_cmp nat_cmp (item w text i) (item w text j) ≡ Less
rises w count text l i zero less within = absurd (omega arith)
rises w count text l i (suc j) less within =
    let e : j + 1 ≡ suc j = omega arith in
    let next : slice_cmp nat_cmp (item w text j) (item w text (suc j)) ≡ Less =
    ap (λ x. slice_cmp nat_cmp (item w text j) (item w text x)) (sym e) ∙ l.rising j (omega arith) in
    elim (cases_eq i j) [
      | inl same ↦ ap (λ x. slice_cmp nat_cmp (item w text x) (item w text (suc j))) same ∙ next
      | inr other ↦ nat_list_cmp_total.trans (item w text i) (item w text j) (item w text (suc j)) (rises w count text l i j (omega arith) (omega arith)) next
    ]

-- what is less than a word, and what is greater
turned : (a b : List ℕ) → slice_cmp nat_cmp a b ≡ Greater → slice_cmp nat_cmp b a ≡ Less
turned a b more = nat_list_cmp_total.antisymm b a ∙ ap ordering_reverse more

turned_back : (a b : List ℕ) → slice_cmp nat_cmp b a ≡ Less → slice_cmp nat_cmp a b ≡ Greater
turned_back a b less = nat_list_cmp_total.antisymm a b ∙ ap ordering_reverse less

-- and goes on above an item that is less, or below one that is greater
pub go_up : (w count : ℕ) (text word bytes : List ℕ) (low high middle : ℕ) → IsListing w count text → StandsBetween w count text word low high → low ≤ middle → middle < high
    → bytes ≡ item w text middle → slice_cmp nat_cmp bytes word ≡ Less → StandsBetween w count text word (middle + 1) high
go_up w count text word bytes low high middle l b from to is less =
    let here : slice_cmp nat_cmp (item w text middle) word ≡ Less = ap (λ x. slice_cmp nat_cmp x word) (sym is) ∙ less in
    let last = b.last in
    record {
      order = omega arith;
      last = b.last;
      below = λ k under. elim (cases_eq k middle) [
        | inl same ↦ ap (λ x. slice_cmp nat_cmp (item w text x) word) same ∙ here
        | inr other ↦ nat_list_cmp_total.trans (item w text k) (item w text middle) word (rises w count text l k middle (omega arith) (omega arith)) here
      ];
      above = b.above;
    }

pub go_down : (w count : ℕ) (text word bytes : List ℕ) (low high middle : ℕ) → IsListing w count text → StandsBetween w count text word low high → low ≤ middle → middle < high
    → bytes ≡ item w text middle → slice_cmp nat_cmp bytes word ≡ Greater → StandsBetween w count text word low middle
go_down w count text word bytes low high middle l b from to is more =
    let here : slice_cmp nat_cmp word (item w text middle) ≡ Less = turned (item w text middle) word (ap (λ x. slice_cmp nat_cmp x word) (sym is) ∙ more) in
    let last = b.last in
    record {
      order = omega arith;
      last = omega arith;
      below = b.below;
      above = λ k over within. elim (cases_eq k middle) [
        | inl same ↦ ap (λ x. slice_cmp nat_cmp (item w text x) word) same ∙ turned_back (item w text middle) word here
        | inr other ↦ turned_back (item w text k) word (nat_list_cmp_total.trans word (item w text middle) (item w text k) here (rises w count text l middle k (omega arith) within))
      ];
    }

-- an item that is equal is the word
pub found : (w count : ℕ) (text word bytes : List ℕ) (middle : ℕ) → IsListing w count text → middle < count → bytes ≡ item w text middle → slice_cmp nat_cmp bytes word ≡ Equal → IsItem w text word
found w count text word bytes middle l within is equal = record {
  place = middle;
  within = end_of w count middle (length text) l.size within;
  is = sym is ∙ slice_cmp-IsAntisymmetric nat_cmp-IsAntisymmetric bytes word equal;
}

-- with nothing in between, it isn't there
pub not_found : (w count : ℕ) (text word : List ℕ) (low high : ℕ) → IsListing w count text → StandsBetween w count text word low high → high ≤ low → IsItem w text word → ⊥
not_found w count text word low high l b none i =
    let within = place_of w count i.place (length text) l.size i.within in
    let tied : slice_cmp nat_cmp (item w text i.place) word ≡ Equal = ap (λ x. slice_cmp nat_cmp x word) i.is ∙ tied_itself nat_list_cmp_total word in
    elim (cases_lt i.place low) [
      | inl less ↦ let r = b.below i.place less in let t = tied in cc
      | inr more ↦ let r = b.above i.place (omega arith) within in let t = tied in cc
    ]

-- Three lists whose local configurations each have a step that stays in them are closed, and closed lists have
-- such steps.

-- an item by another name
renamed : (w : ℕ) (text a b : List ℕ) → a ≡ b → IsItem w text a → IsItem w text b
renamed w text a b same = subst (IsItem w text) same

word_size : (w : ℕ) (text : List ℕ) (v : List Sym) → IsItem w text (word_text v) → length v ≡ w
word_size w text v i = sym (length-map v symbol_byte) ∙ ap length (sym i.is) ∙ item_size w text i.place i.within

-- what a local configuration that is listed has for a step
step_of : (m : Machine) (s : Lists) (c : Local) → length c.left ≡ s.width → GoesOn m s (local_text c) → StepsBy (m c.state c.read) s (local_text c)
unfolding GoesOn
step_of m s c size goes =
    let state : get_or (local_text c) s.width 0 - 65 ≡ c.state = (let b = state_byte s.width c size in omega arith) in
    let read : symbol_of (get_or (local_text c) (s.width + 1) 0 - 48) ≡ c.read = ap (λ b. symbol_of (b - 48)) (read_byte s.width c size) ∙ symbol_again c.read in
    subst (λ x. StepsBy (m c.state x) s (local_text c)) read (subst (λ q. StepsBy (m q (symbol_of (get_or (local_text c) (s.width + 1) 0 - 48))) s (local_text c)) state goes)

goes_by : (m : Machine) (s : Lists) (c : Local) → length c.left ≡ s.width → StepsBy (m c.state c.read) s (local_text c) → GoesOn m s (local_text c)
unfolding GoesOn
goes_by m s c size steps =
    let state : get_or (local_text c) s.width 0 - 65 ≡ c.state = (let b = state_byte s.width c size in omega arith) in
    let read : symbol_of (get_or (local_text c) (s.width + 1) 0 - 48) ≡ c.read = ap (λ b. symbol_of (b - 48)) (read_byte s.width c size) ∙ symbol_again c.read in
    subst (λ q. StepsBy (m q (symbol_of (get_or (local_text c) (s.width + 1) 0 - 48))) s (local_text c)) (sym state) (subst (λ x. StepsBy (m c.state x) s (local_text c)) (sym read) steps)

-- what may come into view, symbol by symbol
seen_right : (s : Lists) (bytes : List ℕ) (e : Entry) → StepsRight s bytes e → (x : Sym) → FollowsRight s bytes e (symbol_byte x)
seen_right s bytes e steps Zero = steps.zero
seen_right s bytes e steps One = steps.one

seen_left : (s : Lists) (bytes : List ℕ) (e : Entry) → StepsLeft s bytes e → (x : Sym) → FollowsLeft s bytes e (symbol_byte x)
seen_left s bytes e steps Zero = steps.zero
seen_left s bytes e steps One = steps.one

module _ (s : Lists) (l0 r0 t : Sym) (l r : List Sym) (q : ℕ) (e : Entry) (left : length l + 1 ≡ s.width) (right : length r + 1 ≡ s.width) where
  -- a step to the right, in words
  GoesRight : Type 0
  GoesRight =
      IsItem s.width s.left (word_text (l ++ e.write ∷ [])) × ((x : Sym) → IsItem s.width s.right (word_text (r ++ x ∷ [])) →
      IsLocalItem s (record { left = l ++ e.write ∷ []; state = e.next.0; read = r0; right = r ++ x ∷ [] }))

  right_goes : StepsRight s (text_r l0 l q t r0 r) e → GoesRight
  unfolding GoesRight
  right_goes steps = (
    renamed _ _ _ _ (left_is_r s.width q l0 t r0 l r left right e.write) steps.leaves,
    λ x view. record {
      left = let n = length-append l (e.write ∷ []) in omega arith;
      right = let n = length-append r (x ∷ []) in omega arith;
      listed = renamed _ _ _ _ (local_is_r s.width q l0 t r0 l r left right e.write x e.next.0)
          (seen_right s (text_r l0 l q t r0 r) e steps x (renamed _ _ _ _ (sym (right_is_r s.width q l0 t r0 l r left right x)) view));
    },
  )

  goes_right : GoesRight → StepsRight s (text_r l0 l q t r0 r) e
  unfolding GoesRight
  goes_right goes = record {
    leaves = renamed _ _ _ _ (sym (left_is_r s.width q l0 t r0 l r left right e.write)) goes.0;
    zero = λ view. renamed _ _ _ _ (sym (local_is_r s.width q l0 t r0 l r left right e.write Zero e.next.0)) (goes.1 Zero (renamed _ _ _ _ (right_is_r s.width q l0 t r0 l r left right Zero) view)).listed;
    one = λ view. renamed _ _ _ _ (sym (local_is_r s.width q l0 t r0 l r left right e.write One e.next.0)) (goes.1 One (renamed _ _ _ _ (right_is_r s.width q l0 t r0 l r left right One) view)).listed;
  }

  -- and one to the left
  GoesLeft : Type 0
  GoesLeft =
      IsItem s.width s.right (word_text (e.write ∷ r)) × ((x : Sym) → IsItem s.width s.left (word_text (x ∷ l)) →
      IsLocalItem s (record { left = x ∷ l; state = e.next.0; read = l0; right = e.write ∷ r }))

  left_goes : StepsLeft s (text_l l0 l q t r0 r) e → GoesLeft
  unfolding GoesLeft
  left_goes steps = (
    renamed _ _ _ _ (right_is_l s.width q l0 t r0 l r left right e.write) steps.leaves,
    λ x view. record {
      left = omega arith;
      right = omega arith;
      listed = renamed _ _ _ _ (local_is_l s.width q l0 t r0 l r left right e.write x e.next.0)
          (seen_left s (text_l l0 l q t r0 r) e steps x (renamed _ _ _ _ (sym (left_is_l s.width q l0 t r0 l r left right x)) view));
    },
  )

  goes_left : GoesLeft → StepsLeft s (text_l l0 l q t r0 r) e
  unfolding GoesLeft
  goes_left goes = record {
    leaves = renamed _ _ _ _ (sym (right_is_l s.width q l0 t r0 l r left right e.write)) goes.0;
    zero = λ view. renamed _ _ _ _ (sym (local_is_l s.width q l0 t r0 l r left right e.write Zero e.next.0)) (goes.1 Zero (renamed _ _ _ _ (left_is_l s.width q l0 t r0 l r left right Zero) view)).listed;
    one = λ view. renamed _ _ _ _ (sym (local_is_l s.width q l0 t r0 l r left right e.write One e.next.0)) (goes.1 One (renamed _ _ _ _ (left_is_l s.width q l0 t r0 l r left right One) view)).listed;
  }

module _ (m : Machine) (s : Lists) (count : ℕ) (width : 1 ≤ s.width) (size : length s.local + 1 ≡ count * ((2 * s.width + 2) + 1)) where
  -- the step of each local configuration that is listed
  goes_at : EachGoesOn m s count → (c : Local) → IsLocalItem s c → StepsBy (m c.state c.read) s (local_text c)
  goes_at goes c i =
      let at = i.listed in
      let place : at.place < count = place_of (2 * s.width + 2) count at.place (length s.local) size at.within in
      step_of m s c i.left (subst (GoesOn m s) at.is (goes.each at.place place))

  steps_at : EachGoesOn m s count → (c : Local) → IsLocalItem s c → (e : Entry) → m c.state c.read ≡ Some e → (d : Dir) → e.dir ≡ d → FollowsSide d s (local_text c) e
  steps_at goes c i e is d dir =
      subst (λ f. FollowsSide f s (local_text c) e) dir (subst (λ o. StepsBy o s (local_text c)) is (goes_at goes c i))

  pub closed_from : HoldBlank s → EachGoesOn m s count → IsClosedSet s.width m (λ w. IsItem s.width s.left (word_text w)) (λ w. IsItem s.width s.right (word_text w)) (IsLocalItem s)
  unfolding text_r text_l GoesRight GoesLeft
  closed_from blank goes = record {
    width = width;
    left_words = λ w i. word_size s.width s.left w i;
    right_words = λ w i. word_size s.width s.right w i;
    words_around = λ c i. (i.left, i.right);
    blank_left = renamed _ _ _ _ (sym (zero_text s.width)) blank.left;
    blank_right = renamed _ _ _ _ (sym (zero_text s.width)) blank.right;
    blank_tape = record {
      left = length-replicate s.width Zero;
      right = length-replicate s.width Zero;
      listed = renamed _ _ _ _
          (ap (λ y. y ++ 65 ∷ 48 ∷ replicate s.width 48) (sym (zero_text s.width)) ∙ ap (λ y. word_text (replicate s.width Zero) ++ 65 ∷ 48 ∷ y) (sym (zero_text s.width)))
          blank.local;
    };
    goes_on = λ c i none. subst (λ o. StepsBy o s (local_text c)) none (goes_at goes c i);
    on_right = λ l0 r0 t l r q e i is dir.
        let left : length l + 1 ≡ s.width = (let n = i.left in omega arith) in
        let right : length r + 1 ≡ s.width = (let n = i.right in omega arith) in
        right_goes s l0 r0 t l r q e left right (steps_at goes (record { left = l0 ∷ l; state = q; read = t; right = r0 ∷ r }) i e is R dir);
    on_left = λ l0 r0 t l r q e i is dir.
        let left : length l + 1 ≡ s.width = (let n = i.left in let k = length-append l (l0 ∷ []) in omega arith) in
        let right : length r + 1 ≡ s.width = (let n = i.right in let k = length-append r (r0 ∷ []) in omega arith) in
        left_goes s l0 r0 t l r q e left right (steps_at goes (record { left = l ++ l0 ∷ []; state = q; read = t; right = r ++ r0 ∷ [] }) i e is L dir);
  }

-- a word has a last symbol
unsnoc : (w : List Sym) → 1 ≤ length w → (l : List Sym) × (x : Sym) × (w ≡ l ++ x ∷ [])
unsnoc [] some = absurd (omega arith)
unsnoc (x ∷ []) some = ([], x, refl)
unsnoc (x ∷ y ∷ ys) some = let (l, z, is) = unsnoc (y ∷ ys) (omega arith) in (x ∷ l, z, ap (λ w. x ∷ w) is)

module _ (m : Machine) (s : Lists) (count : ℕ) (size : length s.local + 1 ≡ count * ((2 * s.width + 2) + 1))
    (closed : IsClosedSet s.width m (λ w. IsItem s.width s.left (word_text w)) (λ w. IsItem s.width s.right (word_text w)) (IsLocalItem s)) where
  rights_from : (e : Entry) (t : Sym) (q : ℕ) → m q t ≡ Some e → e.dir ≡ R → (ls rs : List Sym) → IsLocalItem s (record { left = ls; state = q; read = t; right = rs }) →
      StepsRight s (local_text (record { left = ls; state = q; read = t; right = rs })) e
  unfolding text_r GoesRight
  rights_from e t q is dir [] rs i = absurd (let n = i.left in let k = closed.width in omega arith)
  rights_from e t q is dir (l0 ∷ l) [] i = absurd (let n = i.right in let k = closed.width in omega arith)
  rights_from e t q is dir (l0 ∷ l) (r0 ∷ r) i =
      let left : length l + 1 ≡ s.width = (let n = i.left in omega arith) in
      let right : length r + 1 ≡ s.width = (let n = i.right in omega arith) in
      goes_right s l0 r0 t l r q e left right (closed.on_right l0 r0 t l r q e i is dir)

  lefts_from : (e : Entry) (t : Sym) (q : ℕ) → m q t ≡ Some e → e.dir ≡ L → (ls rs : List Sym) → IsLocalItem s (record { left = ls; state = q; read = t; right = rs }) →
      StepsLeft s (local_text (record { left = ls; state = q; read = t; right = rs })) e
  unfolding text_l GoesLeft
  lefts_from e t q is dir ls rs i =
      let some : 1 ≤ length ls = (let n = i.left in let k = closed.width in omega arith) in
      let more : 1 ≤ length rs = (let n = i.right in let k = closed.width in omega arith) in
      let (l, l0, left_is) = unsnoc ls some in
      let (r, r0, right_is) = unsnoc rs more in
      subst (λ (w : List Sym). StepsLeft s (local_text (record { left = w; state = q; read = t; right = rs })) e) (sym left_is)
      (subst (λ (w : List Sym). StepsLeft s (local_text (record { left = l ++ l0 ∷ []; state = q; read = t; right = w })) e) (sym right_is)
      (go l0 r0 l r
      (subst (λ (w : List Sym). IsLocalItem s (record { left = l ++ l0 ∷ []; state = q; read = t; right = w })) right_is
      (subst (λ (w : List Sym). IsLocalItem s (record { left = w; state = q; read = t; right = rs })) left_is i))))
    where
      go : (l0 r0 : Sym) (l r : List Sym) → IsLocalItem s (record { left = l ++ l0 ∷ []; state = q; read = t; right = r ++ r0 ∷ [] }) →
          StepsLeft s (local_text (record { left = l ++ l0 ∷ []; state = q; read = t; right = r ++ r0 ∷ [] })) e
      go l0 r0 l r j =
          let left : length l + 1 ≡ s.width = (let n = j.left in let k = length-append l (l0 ∷ []) in omega arith) in
          let right : length r + 1 ≡ s.width = (let n = j.right in let k = length-append r (r0 ∷ []) in omega arith) in
          goes_left s l0 r0 t l r q e left right (closed.on_left l0 r0 t l r q e j is dir)

  steps_from : (c : Local) → IsLocalItem s c → StepsBy (m c.state c.read) s (local_text c)
  steps_from c i = by (m c.state c.read) refl
    where
      to : (e : Entry) → m c.state c.read ≡ Some e → (d : Dir) → e.dir ≡ d → FollowsSide d s (local_text c) e
      to e is L dir = lefts_from e c.read c.state is dir c.left c.right i
      to e is R dir = rights_from e c.read c.state is dir c.left c.right i

      by : (o : Option Entry) → m c.state c.read ≡ o → StepsBy o s (local_text c)
      by None is = closed.goes_on c i is
      by (Some e) is = to e is e.dir refl

  pub each_from : AreLocals s.states s.width count s.local → EachGoesOn m s count
  each_from locals = record {
    each = λ k within.
        let bytes : List ℕ = item (2 * s.width + 2) s.local k in
        let inside = end_of (2 * s.width + 2) count k (length s.local) size within in
        let long : length bytes ≡ 2 * s.width + 2 = item_size (2 * s.width + 2) s.local k inside in
        let c = spelled s.width bytes in
        let text : local_text c ≡ bytes = spelled_text s.states s.width bytes long (locals.each k within) in
        let left = spelled_left s.width bytes long in
        let i : IsLocalItem s c = record { left = left; right = spelled_right s.width bytes long; listed = record { place = k; within = inside; is = sym text } } in
        subst (GoesOn m s) text (goes_by m s c left (steps_from c i));
  }

  pub blank_from : HoldBlank s
  blank_from = record {
    left = renamed _ _ _ _ (zero_text s.width) closed.blank_left;
    right = renamed _ _ _ _ (zero_text s.width) closed.blank_right;
    local = renamed _ _ _ _
        (ap (λ y. y ++ 65 ∷ 48 ∷ word_text (replicate s.width Zero)) (zero_text s.width) ∙ ap (λ y. replicate s.width 48 ++ 65 ∷ 48 ∷ y) (zero_text s.width))
        closed.blank_tape.listed;
  }

-- so whether each local configuration has such a step decides it, where the blank tape is there
pub decides : (s : Lists) (p : Packed) (count : ℕ) (all : Bool) → s.states ≡ p.states → 1 ≤ s.width → IsListing (2 * s.width + 2) count s.local → AreLocals s.states s.width count s.local →
    HoldBlank s → (IsTrue all ↔ EachGoesOn (entry_of p) s count) → IsTrue all ↔ IsPositionSet s p
decides s p count all states width listing locals blank is = (
  λ t. record { states = states; closed = closed_from (entry_of p) s count width listing.size blank (is.0 t) },
  λ c. is.1 (each_from (entry_of p) s count listing.size c.closed locals),
)

pub not_blank : (s : Lists) (p : Packed) (count : ℕ) → IsListing (2 * s.width + 2) count s.local → (HoldBlank s → ⊥) → IsTrue false ↔ IsPositionSet s p
not_blank s p count listing none = (
  λ t. absurd (let one : false ≡ true = t in cc),
  λ c. absurd (none (blank_from (entry_of p) s count listing.size c.closed)),
)
