-- The levels are what the paths of each depth need, one after another.
use Rattle.std.proofs.Common.{◌≡◌, ℕ, zero, suc, ◌+◌, ◌<◌, ◌==◌, ◌&&◌, Bool, true, false, cond, List, [], ◌∷◌, ◌++◌, length, map, Option, Some, None, ◌⊎◌, inl, inr, sym, ◌∙◌, ap, subst, refl, arith}
use Rattle.std.specs.Prelude.{Contains}
use Rattle.std.specs.List.{filter_map, flat_map, cons_option}
use Rattle.std.specs.Option.{option_map}
use Rattle.std.proofs.lemmas.Bool.{cases_lt, eqb-true}
use Rattle.std.proofs.lemmas.Bool.Decides.{Decides-eqb}
use Rattle.std.proofs.lemmas.List.{map-append, length-map}
use Rattle.std.proofs.lemmas.Option.{none-some, same_Some, cond_some}
use Rattle.machine_text.specs.declared.table.Sym.{Sym}
use Rattle.machine_text.specs.declared.table.Sym.TheVariants.{Zero, One}
use Rattle.machine_text.specs.declared.table.Entry.{Entry}
use Rattle.law_turing.specs.Run.{Machine, IsMachine, Config, after}
use Rattle.law_turing.specs.NeverHalting.{Ends, Backward, Pair, Partial, RunsThrough, IsPath, IsNeeded, IsWider, AllPaths, LeadsTo, standing_on, left_behind, before_step, all_pairs, may_hold, can_lead_to, known_at_end, known_before, level}
use Rattle.law_turing.proofs.Listed.{Member, member_left, member_right, member_append, member_of_filter_map, member_by_filter_map, member_of_flat_map, member_by_flat_map, Different, different_append, different_filter_map, different_flat_map, contains_member, all_members, all_different}
use Rattle.law_turing.proofs.BackwardLaws.{path_ends, ends_path, same_pair, base_law, join_law, clash_law, needed_path, path_zero, path_suc, wider_law, longer_wider}

-- one of the two pairs of a state
of_state : (n : ℕ) (p : Pair) → p.state ≡ n → Member p (record { state = n; symbol = Zero } ∷ record { state = n; symbol = One } ∷ [])
of_state n p is = go p.symbol refl
  where
    go : (s : Sym) → p.symbol ≡ s → Member p (record { state = n; symbol = Zero } ∷ record { state = n; symbol = One } ∷ [])
    go Zero zero_read = inl (same_pair (record { state = n; symbol = Zero }) p (sym is) (sym zero_read))
    go One one_read = inr (inl (same_pair (record { state = n; symbol = One }) p (sym is) (sym one_read)))

state_of : (n : ℕ) (p : Pair) → Member p (record { state = n; symbol = Zero } ∷ record { state = n; symbol = One } ∷ []) → p.state ≡ n
state_of n p (inl e) = ap (λ (x : Pair). x.state) (sym e)
state_of n p (inr (inl e)) = ap (λ (x : Pair). x.state) (sym e)
state_of n p (inr (inr i)) = absurd i

-- the pairs of the first n states are listed, and no other
pub pair_listed : (n : ℕ) (p : Pair) → p.state < n → Member p (all_pairs n)
unfolding all_pairs
pair_listed zero p within = absurd (omega arith)
pair_listed (suc n) p within =
    elim (cases_lt p.state n) [
      | inl less ↦ member_left p (all_pairs n) _ (pair_listed n p less)
      | inr last ↦ member_right p (all_pairs n) _ (of_state n p (omega arith))
    ]

pub listed_within : (n : ℕ) (p : Pair) → Member p (all_pairs n) → p.state < n
unfolding all_pairs
listed_within zero p i = absurd i
listed_within (suc n) p i =
    elim (member_append p (all_pairs n) _ i) [
      | inl old ↦ let h = listed_within n p old in omega arith
      | inr new ↦ let h = state_of n p new in omega arith
    ]

-- each once
pub pairs_different : (n : ℕ) → Different {X = Pair} {K = Pair} (λ p. p) (all_pairs n)
unfolding all_pairs
pairs_different zero = tt
pairs_different (suc n) = different_append (λ p. p) (all_pairs n) _ (pairs_different n)
    ((λ y i e. elim i [ inl f ↦ absurd (let clash : Zero ≡ One = ap (λ (x : Pair). x.symbol) (e ∙ sym f) in cc) | inr none ↦ none ]), ((λ y i e. i), tt))
    (λ x y i j e.
    let old = listed_within n x i in
    let new = state_of n y j in
    let same : x.state ≡ y.state = ap (λ (z : Pair). z.state) e in
    omega arith)

-- the test says what it is to say
may_hold_is : (o : Option Sym) (s : Sym) → may_hold o s ≡ true → (o ≡ None) ⊎ (o ≡ Some s)
may_hold_is None s holds = inl refl
may_hold_is (Some Zero) Zero holds = inr refl
may_hold_is (Some Zero) One holds = absurd (cc)
may_hold_is (Some One) Zero holds = absurd (cc)
may_hold_is (Some One) One holds = inr refl

may_hold_if : (o : Option Sym) (s : Sym) → (o ≡ None) ⊎ (o ≡ Some s) → may_hold o s ≡ true
may_hold_if o s (inl none) = ap (λ x. may_hold x s) none
may_hold_if o s (inr some) = ap (λ x. may_hold x s) some ∙ itself s
  where
    itself : (s : Sym) → may_hold (Some s) s ≡ true
    itself Zero = refl
    itself One = refl

both_true : (a b : Bool) → (a && b) ≡ true → (a ≡ true) × (b ≡ true)
both_true true true e = (refl, refl)
both_true true false e = absurd (cc)
both_true false b e = absurd (cc)

leads_is : (e : Entry) (k : Partial) → can_lead_to e k ≡ true → LeadsTo e k
leads_is e k holds =
    let (state, cell) = both_true (k.state == e.next.0) (may_hold (k.cells (left_behind e.dir)) e.write) holds in
    record { state = eqb-true k.state e.next.0 state; written = may_hold_is (k.cells (left_behind e.dir)) e.write cell }

leads_if : (e : Entry) (k : Partial) → LeadsTo e k → can_lead_to e k ≡ true
leads_if e k leads =
    ap (λ b. b && may_hold (k.cells (left_behind e.dir)) e.write) ((Decides-eqb k.state e.next.0).1 leads.state) ∙
    may_hold_if (k.cells (left_behind e.dir)) e.write leads.written

-- what is known, with the path that needs it
record Found : Type 0 where
  known : Partial
  pairs : List Pair

found_at_end : Pair → Option Entry → Option Found
found_at_end p None = Some (record { known = standing_on p; pairs = p ∷ [] })
found_at_end p (Some e) = None

found_before : Found → Pair → Option Entry → Option Found
found_before f p None = None
found_before f p (Some e) = cond (can_lead_to e f.known) (Some (record { known = before_step p e f.known; pairs = p ∷ f.pairs })) None

found : ℕ → Machine → ℕ → List Found
found n m zero = filter_map (λ p. found_at_end p (m p.state p.symbol)) (all_pairs n)
found n m (suc k) = flat_map (λ later. filter_map (λ p. found_before later p (m p.state p.symbol)) (all_pairs n)) (found n m k)

-- a list of what is known, from a list of what is found
known_of_filter_map : (h : Pair → Option Found) (g : Pair → Option Partial) → ((p : Pair) → g p ≡ option_map (λ (f : Found). f.known) (h p)) → (ps : List Pair) →
    filter_map g ps ≡ map (λ (f : Found). f.known) (filter_map h ps)
known_of_filter_map h g same [] = refl
known_of_filter_map h g same (p ∷ ps) =
    ap (λ o. cons_option o (filter_map g ps)) (same p) ∙ ap (cons_option (option_map (λ (f : Found). f.known) (h p))) (known_of_filter_map h g same ps) ∙ go (h p)
  where
    go : (o : Option Found) → cons_option (option_map (λ (f : Found). f.known) o) (map (λ (f : Found). f.known) (filter_map h ps)) ≡ map (λ (f : Found). f.known) (cons_option o (filter_map h ps))
    go None = refl
    go (Some f) = refl

known_of_flat_map : (h : Found → List Found) (g : Partial → List Partial) → ((f : Found) → g f.known ≡ map (λ (f : Found). f.known) (h f)) → (fs : List Found) →
    flat_map g (map (λ (f : Found). f.known) fs) ≡ map (λ (f : Found). f.known) (flat_map h fs)
known_of_flat_map h g same [] = refl
known_of_flat_map h g same (f ∷ fs) =
    ap (λ x. x ++ flat_map g (map (λ (f : Found). f.known) fs)) (same f) ∙ ap (λ x. map (λ (f : Found). f.known) (h f) ++ x) (known_of_flat_map h g same fs) ∙
    sym (map-append (λ (f : Found). f.known) (h f) (flat_map h fs))

known_at_end_is : (p : Pair) (o : Option Entry) → known_at_end p o ≡ option_map (λ (f : Found). f.known) (found_at_end p o)
unfolding found_at_end
known_at_end_is p None = refl
known_at_end_is p (Some e) = refl

known_before_is : (f : Found) (p : Pair) (o : Option Entry) → known_before f.known p o ≡ option_map (λ (f : Found). f.known) (found_before f p o)
unfolding found_before
known_before_is f p None = refl
known_before_is f p (Some e) = go (can_lead_to e f.known)
  where
    go : (b : Bool) → cond b (Some (before_step p e f.known)) None ≡ option_map (λ (f : Found). f.known) (cond b (Some (record { known = before_step p e f.known; pairs = p ∷ f.pairs })) None)
    go true = refl
    go false = refl

level_is : (n : ℕ) (m : Machine) (k : ℕ) → level n m k ≡ map (λ (f : Found). f.known) (found n m k)
unfolding level found
level_is n m zero =
    known_of_filter_map (λ p. found_at_end p (m p.state p.symbol)) (λ p. known_at_end p (m p.state p.symbol)) (λ p. known_at_end_is p (m p.state p.symbol)) (all_pairs n)
level_is n m (suc k) =
    ap (flat_map (λ later. filter_map (λ p. known_before later p (m p.state p.symbol)) (all_pairs n))) (level_is n m k) ∙
    known_of_flat_map (λ later. filter_map (λ p. found_before later p (m p.state p.symbol)) (all_pairs n)) (λ later. filter_map (λ p. known_before later p (m p.state p.symbol)) (all_pairs n))
    (λ f. known_of_filter_map (λ p. found_before f p (m p.state p.symbol)) (λ p. known_before f.known p (m p.state p.symbol)) (λ p. known_before_is f p (m p.state p.symbol)) (all_pairs n))
    (found n m k)

-- what is found is a path and what it needs
record IsFound (n : ℕ) (m : Machine) (k : ℕ) (f : Found) : Type 0 where
  needed : IsNeeded m f.known f.pairs
  within : f.known.state < n
  size : length f.pairs ≡ suc k

-- by which pair and entry
at_end_is : (p : Pair) (o : Option Entry) (f : Found) → found_at_end p o ≡ Some f → (o ≡ None) × (f.known ≡ standing_on p) × (f.pairs ≡ p ∷ [])
unfolding found_at_end
at_end_is p None f is = let same = same_Some _ f is in (refl, ap (λ (x : Found). x.known) (sym same), ap (λ (x : Found). x.pairs) (sym same))
at_end_is p (Some e) f is = absurd (none-some f is)

before_is : (later : Found) (p : Pair) (o : Option Entry) (f : Found) → found_before later p o ≡ Some f →
    (e : Entry) × (o ≡ Some e) × LeadsTo e later.known × (f.known ≡ before_step p e later.known) × (f.pairs ≡ p ∷ later.pairs)
unfolding found_before
before_is later p None f is = absurd (none-some f is)
before_is later p (Some e) f is =
    let (leads, same) = cond_some (can_lead_to e later.known) (record { known = before_step p e later.known; pairs = p ∷ later.pairs }) f is in
    (e, refl, leads_is e later.known leads, ap (λ (x : Found). x.known) (sym same), ap (λ (x : Found). x.pairs) (sym same))

found_is : (n : ℕ) (m : Machine) (k : ℕ) (f : Found) → Member f (found n m k) → IsFound n m k f
unfolding found
found_is n m zero f i =
    let (p, j, is) = member_of_filter_map (λ p. found_at_end p (m p.state p.symbol)) f (all_pairs n) i in
    let (halts, known, pairs) = at_end_is p (m p.state p.symbol) f is in
    record {
      needed = subst (λ x. IsNeeded m x f.pairs) (sym known) (subst (IsNeeded m (standing_on p)) (sym pairs) (base_law m p halts));
      within = subst (λ (x : Partial). x.state < n) (sym known) (listed_within n p j);
      size = ap length pairs;
    }
found_is n m (suc k) f i =
    let (later, j, i') = member_of_flat_map (λ later. filter_map (λ p. found_before later p (m p.state p.symbol)) (all_pairs n)) f (found n m k) i in
    let (p, l, is) = member_of_filter_map (λ p. found_before later p (m p.state p.symbol)) f (all_pairs n) i' in
    let (e, entry, leads, known, pairs) = before_is later p (m p.state p.symbol) f is in
    let before = found_is n m k later j in
    record {
      needed = subst (λ x. IsNeeded m x f.pairs) (sym known) (subst (IsNeeded m (before_step p e later.known)) (sym pairs) (join_law m p e later.known later.pairs entry leads before.needed));
      within = subst (λ (x : Partial). x.state < n) (sym known) (listed_within n p l);
      size = ap length pairs ∙ ap suc before.size;
    }

-- each path is found
at_end_found : (p : Pair) (o : Option Entry) → o ≡ None → found_at_end p o ≡ Some (record { known = standing_on p; pairs = p ∷ [] })
unfolding found_at_end
at_end_found p o none = ap (found_at_end p) none

before_found : (later : Found) (p : Pair) (o : Option Entry) (e : Entry) → o ≡ Some e → LeadsTo e later.known →
    found_before later p o ≡ Some (record { known = before_step p e later.known; pairs = p ∷ later.pairs })
unfolding found_before
before_found later p o e some leads =
    ap (found_before later p) some ∙ ap (λ b. cond b (Some (record { known = before_step p e later.known; pairs = p ∷ later.pairs })) None) (leads_if e later.known leads)

path_found : (n : ℕ) (m : Machine) → IsMachine n m → (k : ℕ) (ps : List Pair) → IsPath n m k ps → (f : Found) × Member f (found n m k) × (f.pairs ≡ ps)
unfolding found
path_found n m machine zero ps path =
    let (p, is, within, halts) = path_zero n m ps path in (
      record { known = standing_on p; pairs = p ∷ [] },
      member_by_filter_map (λ p. found_at_end p (m p.state p.symbol)) p (record { known = standing_on p; pairs = p ∷ [] }) (all_pairs n) (pair_listed n p within) (at_end_found p (m p.state p.symbol) halts),
      sym is,
    )
path_found n m machine (suc k) ps path =
    let (p, qs, e, is, within, entry, rest) = path_suc n m machine k ps path in
    let (later, i, same) = path_found n m machine k qs rest in
    let needed : IsNeeded m later.known qs = subst (IsNeeded m later.known) same (found_is n m k later i).needed in
    let leads : LeadsTo e later.known = clash_law m p e later.known qs entry needed path.start (subst (RunsThrough m (Some path.start)) is path.runs) in (
      record { known = before_step p e later.known; pairs = p ∷ later.pairs },
      member_by_flat_map (λ later. filter_map (λ p. found_before later p (m p.state p.symbol)) (all_pairs n)) later (record { known = before_step p e later.known; pairs = p ∷ later.pairs }) (found n m k) i
          (member_by_filter_map (λ p. found_before later p (m p.state p.symbol)) p (record { known = before_step p e later.known; pairs = p ∷ later.pairs }) (all_pairs n) (pair_listed n p within)
          (before_found later p (m p.state p.symbol) e entry leads)),
      ap (λ x. p ∷ x) same ∙ sym is,
    )

same_first : (p q : Pair) (ps qs : List Pair) → ◌≡◌ {A = List Pair} (p ∷ ps) (q ∷ qs) → (p ≡ q) × (ps ≡ qs)
same_first p q ps qs e = (cc, cc)

-- and once
found_different : (n : ℕ) (m : Machine) (k : ℕ) → Different (λ (f : Found). f.pairs) (found n m k)
unfolding found
found_different n m zero =
    different_filter_map (λ p. found_at_end p (m p.state p.symbol)) (λ (p : Pair). p) (λ (f : Found). f.pairs)
    (λ a b x y from_a from_b same.
    let ea = at_end_is a (m a.state a.symbol) x from_a in
    let eb = at_end_is b (m b.state b.symbol) y from_b in
    (same_first a b [] [] (sym ea.2 ∙ same ∙ eb.2)).0)
    (all_pairs n) (pairs_different n)
found_different n m (suc k) =
    different_flat_map (λ later. filter_map (λ p. found_before later p (m p.state p.symbol)) (all_pairs n)) (λ (f : Found). f.pairs) (λ (f : Found). f.pairs)
    (λ a b x y in_a in_b same.
    let (p, i, from_a) = member_of_filter_map (λ p. found_before a p (m p.state p.symbol)) x (all_pairs n) in_a in
    let (q, j, from_b) = member_of_filter_map (λ p. found_before b p (m p.state p.symbol)) y (all_pairs n) in_b in
    let ea = before_is a p (m p.state p.symbol) x from_a in
    let eb = before_is b q (m q.state q.symbol) y from_b in
    (same_first p q a.pairs b.pairs (sym ea.4 ∙ same ∙ eb.4)).1)
    (λ a. different_filter_map (λ p. found_before a p (m p.state p.symbol)) (λ (p : Pair). p) (λ (f : Found). f.pairs)
    (λ p q x y from_p from_q same.
    let ea = before_is a p (m p.state p.symbol) x from_p in
    let eb = before_is a q (m q.state q.symbol) y from_q in
    (same_first p q a.pairs a.pairs (sym ea.4 ∙ same ∙ eb.4)).0)
    (all_pairs n) (pairs_different n))
    (found n m k) (found_different n m k)

-- so the paths that are found are all paths, each once
found_all : (n : ℕ) (m : Machine) → IsMachine n m → (k : ℕ) → AllPaths n m k (map (λ (f : Found). f.pairs) (found n m k))
found_all n m machine k = record {
  each = all_members (IsPath n m k) (λ (f : Found). f.pairs) (found n m k)
      (λ f i. let is = found_is n m k f i in needed_path n m k f.known f.pairs is.needed is.within is.size);
  different = all_different (λ (f : Found). f.pairs) (found n m k) (found_different n m k);
  every = λ ps path.
      let (f, i, same) = path_found n m machine k ps path in
      subst (Contains (map (λ (f : Found). f.pairs) (found n m k))) same (contains_member (λ (f : Found). f.pairs) f (found n m k) i);
}

same_length : (n : ℕ) (m : Machine) (k : ℕ) → length (map (λ (f : Found). f.pairs) (found n m k)) ≡ length (level n m k)
same_length n m k =
    length-map (found n m k) (λ (f : Found). f.pairs) ∙ sym (length-map (found n m k) (λ (f : Found). f.known)) ∙ ap length (sym (level_is n m k))

-- there are more than so many paths of a depth exactly where the level is longer
pub level_wider : (n : ℕ) (m : Machine) → IsMachine n m → (k limit : ℕ) → IsWider n m k limit → limit < length (level n m k)
level_wider n m machine k limit wider =
    subst (λ l. limit < l) (same_length n m k) (wider_law n m k limit _ (found_all n m machine k) wider)

pub longer_level : (n : ℕ) (m : Machine) → IsMachine n m → (k limit : ℕ) → limit < length (level n m k) → IsWider n m k limit
longer_level n m machine k limit longer =
    longer_wider n m k limit _ (found_all n m machine k) (subst (λ l. limit < l) (sym (same_length n m k)) longer)

first_member : (fs : List Found) → 0 < length fs → (f : Found) × Member f fs
first_member [] some = absurd (omega arith)
first_member (f ∷ fs) some = (f, inl refl)

-- a level with an item has a configuration that ends
pub level_ends : (n : ℕ) (m : Machine) (k : ℕ) → 0 < length (level n m k) → (c : Config) × (c.state < n) × Ends m c k
level_ends n m k some =
    let size : length (level n m k) ≡ length (found n m k) = ap length (level_is n m k) ∙ length-map (found n m k) (λ (f : Found). f.known) in
    let (f, i) = first_member (found n m k) (omega arith) in
    let is = found_is n m k f i in
    let path = needed_path n m k f.known f.pairs is.needed is.within is.size in
    (path.start, path.within, path_ends m k path.start f.pairs path.size path.runs)

member_some : (f : Found) (fs : List Found) → Member f fs → 0 < length fs
member_some f [] i = absurd i
member_some f (g ∷ fs) i = omega arith

-- and where a configuration ends, the level has an item
pub ends_level : (n : ℕ) (m : Machine) → IsMachine n m → (k : ℕ) (c : Config) → c.state < n → Ends m c k → 0 < length (level n m k)
ends_level n m machine k c within ends =
    let (ps, size, runs) = ends_path m k c ends in
    let (f, i, same) = path_found n m machine k ps (record { size = size; start = c; within = within; runs = runs }) in
    let some : 0 < length (found n m k) = member_some f (found n m k) i in
    let same_size : length (level n m k) ≡ length (found n m k) = ap length (level_is n m k) ∙ length-map (found n m k) (λ (f : Found). f.known) in
    omega arith

nothing : {X : Type 0} (xs : List X) → (0 < length xs → ⊥) → xs ≡ []
nothing [] none = refl
nothing (x ∷ xs) none = absurd (none (omega arith))

-- backward reasoning stands at d exactly where the run does d steps and the level of d is empty
pub backward_level : (n : ℕ) (m : Machine) (d : ℕ) → Backward n m d → ((at : Config) × (after m d ≡ Some at)) × (level n m d ≡ [])
backward_level n m d b =
    ((b.at, b.runs), nothing (level n m d) (λ some. let (c, within, ends) = level_ends n m d some in b.none c within ends))

pub level_backward : (n : ℕ) (m : Machine) → IsMachine n m → (d : ℕ) → (at : Config) → after m d ≡ Some at → level n m d ≡ [] → Backward n m d
level_backward n m machine d at is empty = record {
  at = at;
  runs = is;
  none = λ c within ends.
      let some : 0 < length (level n m d) = ends_level n m machine d c within ends in
      let none : length (level n m d) ≡ 0 = ap length empty in
      omega arith;
}

-- below an empty level all are empty
empty_next : (n : ℕ) (m : Machine) (k : ℕ) → level n m k ≡ [] → level n m (suc k) ≡ []
unfolding level
empty_next n m k empty = ap (flat_map (λ later. filter_map (λ p. known_before later p (m p.state p.symbol)) (all_pairs n))) empty

pub empty_below : (n : ℕ) (m : Machine) (k r : ℕ) → level n m k ≡ [] → level n m (k + r) ≡ []
empty_below n m k zero empty = ap (level n m) (let e : k + 0 ≡ k = omega arith in e) ∙ empty
empty_below n m k (suc r) empty = ap (level n m) (let e : k + suc r ≡ suc (k + r) = omega arith in e) ∙ empty_next n m (k + r) (empty_below n m k r empty)
