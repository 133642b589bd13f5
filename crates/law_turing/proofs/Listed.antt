-- What the members of lists are, how many different ones there are, and which have different keys.
use Rattle.std.proofs.Common.{◌≡◌, ◌≢◌, ℕ, suc, ◌<◌, ◌≤◌, List, [], ◌∷◌, length, get_or, sym, ◌∙◌, ap, subst, refl, arith, ◌++◌, map, Option, Some, None, ◌⊎◌, inl, inr}
use Rattle.std.specs.Prelude.{All, AllPairs, Contains}
use Rattle.std.proofs.lemmas.Bool.{eqb-true}
use Rattle.std.proofs.lemmas.Bool.Decides.{Decides-eqb}
use Rattle.std.proofs.lemmas.List.{get_or_default}
use Rattle.std.proofs.lemmas.List.Elements.{All-nil, All-cons, All-head, All-tail, All-contains}
use Rattle.std.proofs.lemmas.List.Kept.{AllPairs-cons}
use Rattle.std.proofs.lemmas.Map.Made.{IsDistinct-from_AllPairs}
use Rattle.std.proofs.lemmas.Map.Steps.{length-le_from_distinct_below}
use Rattle.std.proofs.lemmas.Map.Views.{Contains-from_any}
use Rattle.std.specs.List.{filter_map, flat_map, cons_option}

-- A list of different members of another is no longer than that.

-- the places in ys of the items of xs
places : {X : Type 0} (ys xs : List X) → All (Contains ys) xs → List ℕ
places ys [] members = []
places ys (x ∷ xs) members = (All-head (Contains ys) x xs members).0 ∷ places ys xs (All-tail (Contains ys) x xs members)

length-places : {X : Type 0} (ys xs : List X) (members : All (Contains ys) xs) → length (places ys xs members) ≡ length xs
unfolding places
length-places ys [] members = refl
length-places ys (x ∷ xs) members = ap suc (length-places ys xs (All-tail (Contains ys) x xs members))

places_below : {X : Type 0} (ys xs : List X) (members : All (Contains ys) xs) → All (λ k. k < length ys) (places ys xs members)
unfolding places
places_below ys [] members = All-nil (λ k. k < length ys)
places_below ys (x ∷ xs) members =
    All-cons (λ k. k < length ys) _ _ (All-head (Contains ys) x xs members).1 (places_below ys xs (All-tail (Contains ys) x xs members))

-- the place of an item is that of no other
place_apart : {X : Type 0} (ys xs : List X) (x : X) (k : ℕ) → k < length ys → get_or ys k x ≡ x → (members : All (Contains ys) xs) → All (λ y. x ≢ y) xs →
    All (λ j. k ≢ j) (places ys xs members)
unfolding places
place_apart ys [] x k within at members others = All-nil (λ j. k ≢ j)
place_apart ys (y ∷ xs) x k within at members others =
    let first = All-head (Contains ys) y xs members in
    All-cons (λ j. k ≢ j) _ _
    (λ same. All-head (λ z. x ≢ z) y xs others (sym at ∙ get_or_default ys k x y within ∙ ap (λ j. get_or ys j y) same ∙ first.2))
    (place_apart ys xs x k within at (All-tail (Contains ys) y xs members) (All-tail (λ z. x ≢ z) y xs others))

-- of a list whose items are different, the first differs from the others, and the others differ
first_apart : {X : Type 0} (x : X) (xs : List X) → AllPairs (λ a b. a ≢ b) (x ∷ xs) → All (λ y. x ≢ y) xs
first_apart x xs different = λ k d within. different 0 (suc k) d (omega arith) (omega arith)

rest_apart : {X : Type 0} (x : X) (xs : List X) → AllPairs (λ a b. a ≢ b) (x ∷ xs) → AllPairs (λ a b. a ≢ b) xs
rest_apart x xs different = λ i j d less within. different (suc i) (suc j) d (omega arith) (omega arith)

places_apart : {X : Type 0} (ys xs : List X) (members : All (Contains ys) xs) → AllPairs (λ a b. a ≢ b) xs → AllPairs (λ j k. j ≢ k) (places ys xs members)
unfolding places
places_apart ys [] members different = λ i j d less within. absurd (omega arith)
places_apart ys (x ∷ xs) members different =
    let first = All-head (Contains ys) x xs members in
    let rest = All-tail (Contains ys) x xs members in
    AllPairs-cons (λ j k. j ≢ k) _ _ (place_apart ys xs x first.0 first.1 first.2 rest (first_apart x xs different)) (places_apart ys xs rest (rest_apart x xs different))

pub length-le_of_members : {X : Type 0} (ys xs : List X) → All (Contains ys) xs → AllPairs (λ a b. a ≢ b) xs → length xs ≤ length ys
length-le_of_members ys xs members different =
    let short : length (places ys xs members) ≤ length ys =
    length-le_from_distinct_below (places ys xs members) (length ys)
    (IsDistinct-from_AllPairs Decides-eqb (places ys xs members) (places_apart ys xs members different))
    (λ q is. All-contains (λ k. k < length ys) (places ys xs members) q (places_below ys xs members) (Contains-from_any eqb-true q (places ys xs members) is)) in
    subst (λ k. k ≤ length ys) (length-places ys xs members) short

-- Members of lists that are made by filter_map and flat_map, and lists whose items have different keys.

-- y is one of the items
abbrev pub Member : {X : Type 0} → X → List X → Type 0
Member y [] = ⊥
Member y (x ∷ xs) = (x ≡ y) ⊎ Member y xs

pub member_left : {X : Type 0} (y : X) (xs ys : List X) → Member y xs → Member y (xs ++ ys)
member_left y [] ys h = absurd h
member_left y (x ∷ xs) ys (inl e) = inl e
member_left y (x ∷ xs) ys (inr h) = inr (member_left y xs ys h)

pub member_right : {X : Type 0} (y : X) (xs ys : List X) → Member y ys → Member y (xs ++ ys)
member_right y [] ys h = h
member_right y (x ∷ xs) ys h = inr (member_right y xs ys h)

pub member_append : {X : Type 0} (y : X) (xs ys : List X) → Member y (xs ++ ys) → Member y xs ⊎ Member y ys
member_append y [] ys h = inr h
member_append y (x ∷ xs) ys (inl e) = inl (inl e)
member_append y (x ∷ xs) ys (inr h) = elim (member_append y xs ys h) [ inl l ↦ inl (inr l) | inr r ↦ inr r ]

-- what a filter_map gives comes from an item
pub member_of_filter_map : {X Y : Type 0} (h : X → Option Y) (y : Y) (xs : List X) → Member y (filter_map h xs) → (x : X) × Member x xs × (h x ≡ Some y)
member_of_filter_map h y [] i = absurd i
member_of_filter_map {X} {Y} h y (x ∷ xs) i =
    go (λ i. let (z, j, is) = member_of_filter_map h y xs i in (z, inr j, is)) (h x) refl i
  where
    go : (Member y (filter_map h xs) → (z : X) × Member z (x ∷ xs) × (h z ≡ Some y)) →
        (o : Option Y) → h x ≡ o → Member y (cons_option o (filter_map h xs)) → (z : X) × Member z (x ∷ xs) × (h z ≡ Some y)
    go rest None is i = rest i
    go rest (Some w) is (inl e) = (x, inl refl, is ∙ ap Some e)
    go rest (Some w) is (inr i) = rest i

pub member_by_filter_map : {X Y : Type 0} (h : X → Option Y) (x : X) (y : Y) (xs : List X) → Member x xs → h x ≡ Some y → Member y (filter_map h xs)
member_by_filter_map h x y [] i is = absurd i
member_by_filter_map {X} {Y} h x y (z ∷ xs) (inl e) is =
    subst (λ o. Member y (cons_option o (filter_map h xs))) (sym (ap h e ∙ is)) (inl refl)
member_by_filter_map {X} {Y} h x y (z ∷ xs) (inr i) is = go (h z) (member_by_filter_map h x y xs i is)
  where
    go : (o : Option Y) → Member y (filter_map h xs) → Member y (cons_option o (filter_map h xs))
    go None j = j
    go (Some w) j = inr j

-- what a flat_map gives comes from an item
pub member_of_flat_map : {X Y : Type 0} (f : X → List Y) (y : Y) (xs : List X) → Member y (flat_map f xs) → (x : X) × Member x xs × Member y (f x)
member_of_flat_map f y [] i = absurd i
member_of_flat_map f y (x ∷ xs) i =
    elim (member_append y (f x) (flat_map f xs) i) [
      | inl here ↦ (x, inl refl, here)
      | inr later ↦ let (z, j, k) = member_of_flat_map f y xs later in (z, inr j, k)
    ]

pub member_by_flat_map : {X Y : Type 0} (f : X → List Y) (x : X) (y : Y) (xs : List X) → Member x xs → Member y (f x) → Member y (flat_map f xs)
member_by_flat_map f x y [] i j = absurd i
member_by_flat_map f x y (z ∷ xs) (inl e) j = member_left y (f z) (flat_map f xs) (subst (λ w. Member y (f w)) (sym e) j)
member_by_flat_map f x y (z ∷ xs) (inr i) j = member_right y (f z) (flat_map f xs) (member_by_flat_map f x y xs i j)

-- the items have different keys
abbrev pub Different : {X K : Type 0} → (X → K) → List X → Type 0
Different key [] = Unit {0}
Different {X} key (x ∷ xs) = ((y : X) → Member y xs → key x ≡ key y → ⊥) × Different key xs

pub different_append : {X K : Type 0} (key : X → K) (xs ys : List X) → Different key xs → Different key ys →
    ((x y : X) → Member x xs → Member y ys → key x ≡ key y → ⊥) → Different key (xs ++ ys)
different_append key [] ys dx dy apart = dy
different_append key (x ∷ xs) ys dx dy apart = (
  λ y i e. elim (member_append y xs ys i) [ inl l ↦ dx.0 y l e | inr r ↦ apart x y (inl refl) r e ],
  different_append key xs ys dx.1 dy (λ a b i j e. apart a b (inr i) j e),
)

-- where items that give the same key have the same key
pub different_filter_map : {X Y J K : Type 0} (h : X → Option Y) (from : X → J) (key : Y → K) →
    ((a b : X) (x y : Y) → h a ≡ Some x → h b ≡ Some y → key x ≡ key y → from a ≡ from b) → (xs : List X) → Different from xs → Different key (filter_map h xs)
different_filter_map h from key same [] d = tt
different_filter_map {X} {Y} h from key same (x ∷ xs) d = go (different_filter_map h from key same xs d.1) (h x) refl
  where
    go : Different key (filter_map h xs) → (o : Option Y) → h x ≡ o → Different key (cons_option o (filter_map h xs))
    go rest None is = rest
    go rest (Some w) is = (λ y i e. let (z, j, from_z) = member_of_filter_map h y xs i in d.0 z j (same x z w y is from_z e), rest)

pub different_flat_map : {X Y J K : Type 0} (f : X → List Y) (from : X → J) (key : Y → K) →
    ((a b : X) (x y : Y) → Member x (f a) → Member y (f b) → key x ≡ key y → from a ≡ from b) → ((a : X) → Different key (f a)) →
    (xs : List X) → Different from xs → Different key (flat_map f xs)
different_flat_map f from key same each [] d = tt
different_flat_map f from key same each (x ∷ xs) d =
    different_append key (f x) (flat_map f xs) (each x) (different_flat_map f from key same each xs d.1)
    (λ a b i j e. let (z, k, l) = member_of_flat_map f b xs j in d.0 z k (same x z a b i l e))

-- the same in std's words, by place
pub contains_member : {X K : Type 0} (key : X → K) (x : X) (xs : List X) → Member x xs → Contains (map key xs) (key x)
contains_member key x [] i = absurd i
contains_member key x (y ∷ xs) (inl e) = (0, omega arith, ap key e)
contains_member key x (y ∷ xs) (inr i) = let (k, within, is) = contains_member key x xs i in (suc k, omega arith, is)

pub all_members : {X K : Type 0} (P : K → Type 0) (key : X → K) (xs : List X) → ((x : X) → Member x xs → P (key x)) → All P (map key xs)
all_members P key [] each = All-nil P
all_members P key (x ∷ xs) each = All-cons P (key x) (map key xs) (each x (inl refl)) (all_members P key xs (λ y i. each y (inr i)))

pub all_different : {X K : Type 0} (key : X → K) (xs : List X) → Different key xs → AllPairs (λ a b. a ≢ b) (map key xs)
all_different key [] d = λ i j x less within. absurd (omega arith)
all_different key (x ∷ xs) d =
    AllPairs-cons (λ a b. a ≢ b) (key x) (map key xs) (all_members (λ k. key x ≢ k) key xs d.0) (all_different key xs d.1)
