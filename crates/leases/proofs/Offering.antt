-- A record is offered: what becomes of the leases.
use Rattle.std.proofs.Common.{◌≡◌, ◌≢◌, ℕ, ◌+◌, ◌<◌, ◌≤◌, ◌||◌, ◌==◌, zero, suc, ◌⊎◌, inl, inr, true, false, cond, nat_eq, if◌then◌else◌, refl, sym, ◌∙◌, ap, subst, List, [], ◌∷◌, map, length, get_or, All, AllPairs, Option, Some, None, Result, Ok, Err, Contains, arith}
use Rattle.std.specs.Result.{IsErrAnd}
use Rattle.std.proofs.lemmas.Bool.Decides.{eqb_tells}
use Rattle.std.proofs.lemmas.Bool.{eq-eqb, cases_lt}
use Rattle.std.proofs.lemmas.List.{get_or-set_same, get_or-set_other, get_or-map, length-map}
use Rattle.std.proofs.Math.ListN.{set, length-set}
use Rattle.std.proofs.lemmas.List.Elements.{All-head, All-tail, All-map, Contains-get_or}
use Rattle.leases.specs.Limits.{lease_time}
use Rattle.leases.specs.inside.{shown, Renews, StoredLease, as_lease, as_leases, AreStored}
use Rattle.leases.proofs.FreeLaws.{mapped, unmapped, member_lives, Opens, KeepsAll}
use Rattle.std.proofs.lemmas.Option.{same_Some}
use Rattle.machine_text.specs.Terms.{Packed}
use Rattle.law_tree.specs.Terms.{Holdout, IsChildTable}
use Rattle.cert.specs.Terms.{Recorded}
use Rattle.ledger.specs.Terms.{Contents, IsOpenOn, same_table, mark_in, IsHoldout, OfferGives, IsHalting}
use Rattle.ledger.specs.declared.faults.OfferFault.{OfferFault}
use Rattle.ledger.specs.declared.faults.OfferFault.TheVariants.{WrongSize, NotOpen, Refused, NoMemory}
use Rattle.ledger.proofs.Claims.{not_same, apart}
use Rattle.leases.specs.Leases.{Lease, AreLeases, is_live, came_under, while_live, renewed, TakesNew, TakesSettled}

-- a table was taken out of those that came under a lease
abbrev pub GoesOut : List (Packed × ℕ) → Packed → List (Packed × ℕ) → Type 0
GoesOut came t next = (q : Packed) → came_under next q ≡ cond (same_table t q) None (came_under came q)

pub out_other : (came next : List (Packed × ℕ)) (t q : Packed) → GoesOut came t next → (q ≡ t → ⊥) → came_under next q ≡ came_under came q
out_other came next t q out other = out q ∙ ap (λ v. cond v None (came_under came q)) (not_same t q (λ e. other (sym e)))

pub out_cases : (came next : List (Packed × ℕ)) (t q : Packed) (n : ℕ) → GoesOut came t next → came_under next q ≡ Some n → (q ≡ t → ⊥) × (came_under came q ≡ Some n)
out_cases came next t q n out h =
    elim (same_table t q) as (λ v. same_table t q ≡ v → came_under next q ≡ cond v None (came_under came q) → (q ≡ t → ⊥) × (came_under came q ≡ Some n)) [
      | true ↦ λ e u. absurd (cc)
      | false ↦ λ e u. (λ w. apart t q e (sym w), sym u ∙ h)
    ] refl (out q)

-- what never came under a lease is under none
pub none_came : (live : List Lease) (o : Option ℕ) → ((n : ℕ) → o ≡ Some n → ⊥) → while_live live o ≡ None
none_came live None none = refl
none_came live (Some n) none = absurd (none n refl)

pub same_board : (a b : Contents) → a.root ≡ b.root → a.records ≡ b.records → a.format ≡ b.format → a ≡ b
same_board a b root records format = λ i. record { root = root i; records = records i; format = format i }

pub refused_board : (root : Packed) (old new : List Recorded) (r : Recorded) (fault : OfferFault) → OfferGives root old r (Err fault) new → new ≡ old
refused_board root old new r WrongSize gives = gives.1
refused_board root old new r NotOpen gives = gives.2
refused_board root old new r (Refused f) gives = gives.2
refused_board root old new r NoMemory gives = gives.1

-- a holdout isn't open
pub holdout_not_open : (b : Contents) (t : Packed) → IsHoldout b.records t → IsOpenOn b t → ⊥
holdout_not_open b t holdout is_open = let none = is_open.unmarked in let marked : mark_in b.records t ≡ Some Holdout = holdout in absurd (cc)

-- where the table was under none
module _ (old new : Contents) (ls : List StoredLease) (came next : List (Packed × ℕ)) (free more : List Packed) (moment given : ℕ) (t : Packed)
    (opens : Opens old new t) (are : AreLeases old (as_leases ls came moment given)) (kept : AreStored old ls came free) (more_free : KeepsAll free more)
    (all : (q : Packed) → IsChildTable t q → IsHalting new.records t → Contains more q) where
  pub free_new_leases : GoesOut came t next → AreLeases new (as_leases ls next moment given)
  free_new_leases out = record {
    most = are.most;
    numbers = are.numbers;
    ids = are.ids;
    given = are.given;
    came_given = λ q n h. are.came_given q n (out_cases came next t q n out h).1;
    is_open = λ q n h. let was = out_cases came next t q n out h in opens.stays q (are.is_open q n was.1) was.0;
  }

  pub free_new_kept : GoesOut came t next → AreStored new ls next more
  free_new_kept out = record {
    listed = λ l q member h. kept.listed l q member (out_cases came next t q l.number out h).1;
    freed = λ q is_open none. elim (opens.cases q is_open) [
      | inl was ↦ more_free q (kept.freed q was.0 (ap (while_live (map as_lease ls)) (sym (out_other came next t q out was.1)) ∙ none))
      | inr child ↦ all q child.0 child.1
    ];
  }

  pub free_new_takes : GoesOut came t next → while_live (map as_lease ls) (came_under came t) ≡ None
      → TakesNew t (record { board = old; leases = as_leases ls came moment given }) (record { board = new; leases = as_leases ls next moment given })
  free_new_takes out none = record {
    live = ap (λ o. renewed o moment (map as_lease ls)) (sym none);
    children = λ q became. none_came (map as_lease ls) (came_under next q) (λ n h. became.1 (are.is_open q n (out_cases came next t q n out h).1)) ∙ sym none;
    others = λ q is_open other. ap (while_live (map as_lease ls)) (out_other came next t q out other);
    moment = refl;
    given = refl;
  }

  pub settled_leases : (IsOpenOn old t → ⊥) → AreLeases new (as_leases ls came moment given)
  settled_leases closed = record {
    most = are.most;
    numbers = are.numbers;
    ids = are.ids;
    given = are.given;
    came_given = are.came_given;
    is_open = λ q n h. opens.stays q (are.is_open q n h) (λ e. closed (subst (IsOpenOn old) e (are.is_open q n h)));
  }

  pub settled_kept : AreStored new ls came more
  settled_kept = record {
    listed = kept.listed;
    freed = λ q is_open none. elim (opens.cases q is_open) [ inl was ↦ more_free q (kept.freed q was.0 none) | inr child ↦ all q child.0 child.1 ];
  }

  pub settled_takes : TakesSettled (record { board = old; leases = as_leases ls came moment given }) (record { board = new; leases = as_leases ls came moment given })
  settled_takes = record {
    leases = refl;
    children = λ q became. none_came (map as_lease ls) (came_under came q) (λ n h. became.1 (are.is_open q n h));
  }

pub err_is : {T E : Type 0} (r : Result T E) (e : E) → IsErrAnd r (λ x. x ≡ e) → r ≡ Err e
err_is (Ok x) e h = absurd h
err_is (Err x) e h = ap Err h

-- a lease that is kept otherwise, and seen as before
held_shown : (ls : List StoredLease) → map (λ (p : Lease × List Packed). p.0) (map shown ls) ≡ map as_lease ls
held_shown [] = refl
held_shown (l ∷ ls) = ap (λ xs. as_lease l ∷ xs) (held_shown ls)

pub same_held : (first ls : List StoredLease) → map shown ls ≡ map shown first → map as_lease ls ≡ map as_lease first
same_held first ls same = sym (held_shown ls) ∙ (ap (map (λ (p : Lease × List Packed). p.0)) same ∙ held_shown first)

pub holds_shown : (b : Contents) (first ls : List StoredLease) (before came : List (Packed × ℕ)) (free : List Packed) (moment given : ℕ) → map shown ls ≡ map shown first → came ≡ before
    → AreLeases b (as_leases first before moment given) × AreStored b first before free → AreLeases b (as_leases ls came moment given) × AreStored b ls came free
holds_shown b first ls before came free moment given same same_came holds =
    subst (λ (came : List (Packed × ℕ)). AreLeases b (as_leases ls came moment given) × AreStored b ls came free) (sym same_came) (
      subst (λ (live : List Lease). AreLeases b (record { live = live; came = before; moment = moment; given = given })) (sym (same_held first ls same)) holds.0,
      record {
        listed = λ l t member h.
            let other = unmapped shown first (shown l) (subst (λ (xs : List (Lease × List Packed)). Contains xs (shown l)) same (mapped shown ls l member)) in
            subst (λ (p : Lease × List Packed). Contains p.1 t) other.2 (holds.1.listed other.0 t other.1 (h ∙ ap (λ (p : Lease × List Packed). Some p.0.number) (sym other.2)));
        freed = λ t is_open none. holds.1.freed t is_open (ap (λ live. while_live live (came_under before t)) (sym (same_held first ls same)) ∙ none);
      },
    )

-- a write to a list puts its item in, and leaves those at other places
pub set_member : (xs : List StoredLease) (i : ℕ) (y x : StoredLease) → i < length xs → Contains (set xs i y) x → (x ≡ y) ⊎ ((j : ℕ) × (j ≢ i) × (j < length xs) × (get_or xs j x ≡ x))
set_member xs i y x within h =
    elim (eqb_tells h.0 i) [
      | inl same ↦ inl (sym h.2 ∙ (ap (λ k. get_or (set xs i y) k x) same.1 ∙ get_or-set_same xs i y x within))
      | inr other ↦ inr (h.0, other.1, omega (arith, h.1, length-set xs i y), sym (get_or-set_other xs i h.0 y x other.1) ∙ h.2)
    ]

-- a renewed lease keeps its number and its worker
renew_one : ℕ → ℕ → Lease → Lease
renew_one n moment l = if l.number == n then record { number = l.number; id = l.id; deadline = moment + lease_time } else l

one_number : (n moment : ℕ) (l : Lease) → (renew_one n moment l).number ≡ l.number
unfolding renew_one
one_number n moment l = elim (l.number == n) as (λ b. (if b then record { number = l.number; id = l.id; deadline = moment + lease_time } else l).number ≡ l.number) [ true ↦ refl | false ↦ refl ]

one_id : (n moment : ℕ) (l : Lease) → (renew_one n moment l).id ≡ l.id
unfolding renew_one
one_id n moment l = elim (l.number == n) as (λ b. (if b then record { number = l.number; id = l.id; deadline = moment + lease_time } else l).id ≡ l.id) [ true ↦ refl | false ↦ refl ]

live_renewed : (n moment : ℕ) (xs : List Lease) (k : ℕ) → is_live (map (renew_one n moment) xs) k ≡ is_live xs k
live_renewed n moment [] k = refl
live_renewed n moment (x ∷ xs) k = ap (λ a. nat_eq a k || is_live (map (renew_one n moment) xs) k) (one_number n moment x) ∙ ap (λ b. nat_eq x.number k || b) (live_renewed n moment xs k)

while_renewed : (n moment : ℕ) (xs : List Lease) (o : Option ℕ) → while_live (map (renew_one n moment) xs) o ≡ while_live xs o
while_renewed n moment xs None = refl
while_renewed n moment xs (Some k) = ap (λ b. if b then Some k else None) (live_renewed n moment xs k)

-- the others aren't renewed
none_renewed : (n moment : ℕ) (xs : List Lease) → All (λ (x : Lease). n < x.number) xs → map (renew_one n moment) xs ≡ xs
unfolding renew_one
none_renewed n moment [] above = refl
none_renewed n moment (x ∷ xs) above =
    let first = All-head (λ (x : Lease). n < x.number) x xs above in
    let other : nat_eq x.number n ≡ false = elim (eqb_tells x.number n) [ inl same ↦ let e = same.1 in absurd (omega arith) | inr differ ↦ differ.0 ] in
    ap (λ b. (if b then record { number = x.number; id = x.id; deadline = moment + lease_time } else x) ∷ map (renew_one n moment) xs) other
    ∙ ap (λ ys. x ∷ ys) (none_renewed n moment xs (All-tail (λ (x : Lease). n < x.number) x xs above))

first_renewed : (x l : StoredLease) (n moment : ℕ) → n ≡ x.number → l.number ≡ x.number → l.id ≡ x.id → l.renewed ≡ moment → as_lease l ≡ renew_one n moment (as_lease x)
unfolding renew_one
first_renewed x l n moment is number id renewed =
    let same : as_lease l ≡ record { number = x.number; id = x.id; deadline = moment + lease_time } = λ i. record { number = number i; id = id i; deadline = renewed i + lease_time } in
    same ∙ sym (ap (λ b. if b then record { number = x.number; id = x.id; deadline = moment + lease_time } else as_lease x) (eq-eqb x.number n (sym is)))

other_renewed : (x : Lease) (n moment : ℕ) → x.number < n → renew_one n moment x ≡ x
unfolding renew_one
other_renewed x n moment less =
    let other : nat_eq x.number n ≡ false = elim (eqb_tells x.number n) [ inl same ↦ let e = same.1 in absurd (omega arith) | inr differ ↦ differ.0 ] in
    ap (λ b. if b then record { number = x.number; id = x.id; deadline = moment + lease_time } else x) other

set_renewed : (ls : List StoredLease) (at n moment : ℕ) (l : StoredLease) → at < length ls → AllPairs (λ (a b : Lease). a.number < b.number) (map as_lease ls)
    → n ≡ (get_or ls at l).number → l.number ≡ (get_or ls at l).number → l.id ≡ (get_or ls at l).id → l.renewed ≡ moment → map as_lease (set ls at l) ≡ map (renew_one n moment) (map as_lease ls)
set_renewed [] at n moment l below rising is number id renewed = absurd (omega arith)
set_renewed (x ∷ xs) zero n moment l below rising is number id renewed =
    let above : All (λ (y : Lease). n < y.number) (map as_lease xs) = λ k d lt. subst (λ m. m < (get_or (map as_lease xs) k d).number) (sym is) (rising 0 (suc k) d (omega arith) (omega arith)) in
    ap (λ y. y ∷ map as_lease xs) (first_renewed x l n moment is number id renewed) ∙ ap (λ ys. renew_one n moment (as_lease x) ∷ ys) (sym (none_renewed n moment (map as_lease xs) above))
set_renewed (x ∷ xs) (suc k) n moment l below rising is number id renewed =
    let lt : k < length xs = omega arith in
    let less = rising 0 (suc k) (as_lease l) (omega arith) (omega (arith, length-map xs as_lease)) in
    let there : (get_or (map as_lease xs) k (as_lease l)).number ≡ (get_or xs k l).number = ap (λ (y : Lease). y.number) (get_or-map as_lease xs k l (as_lease l) lt) in
    let under : x.number < n = omega (arith, less, there, is) in
    ap (λ ys. as_lease x ∷ ys) (set_renewed xs k n moment l lt (λ i j d less below. rising (suc i) (suc j) d (omega arith) (omega arith)) is number id renewed)
    ∙ ap (λ y. y ∷ map (renew_one n moment) (map as_lease xs)) (sym (other_renewed (as_lease x) n moment under))

all_pairs_map : (R : Lease → Lease → Type 0) (f : Lease → Lease) (xs : List Lease) → ((a b : Lease) → R a b → R (f a) (f b)) → AllPairs R xs → AllPairs R (map f xs)
all_pairs_map R f xs keeps all i j d less below =
    let end : j < length xs = omega (arith, length-map xs f) in
    let first = get_or-map f xs i d d (omega arith) in
    let second = get_or-map f xs j d d end in
    subst (λ a. R a (get_or (map f xs) j d)) (sym first) (subst (R (f (get_or xs i d))) (sym second) (keeps (get_or xs i d) (get_or xs j d) (all i j d less end)))

less_or_more : (j k : ℕ) → j ≢ k → (j < k) ⊎ (k < j)
less_or_more j k differ = elim (cases_lt j k) [ inl less ↦ inl less | inr most ↦ inr (omega arith) ]

-- where the table is under a live lease: the lease at a place is renewed, and the children come under it
module _ (old new : Contents) (ls : List StoredLease) (at : ℕ) (l : StoredLease) (came mid next : List (Packed × ℕ)) (free : List Packed) (moment given number : ℕ) (t : Packed)
    (opens : Opens old new t) (are : AreLeases old (as_leases ls came moment given)) (kept : AreStored old ls came free) (within : at < length ls) (out : GoesOut came t mid)
    (is : number ≡ (get_or ls at l).number) (renews : Renews new t moment (get_or ls at l) l mid next) where
  after : map as_lease (set ls at l) ≡ map (renew_one number moment) (map as_lease ls)
  after = set_renewed ls at number moment l within are.numbers is renews.number renews.id renews.renewed

  while_after : (o : Option ℕ) → while_live (map as_lease (set ls at l)) o ≡ while_live (map as_lease ls) o
  while_after o = ap (λ live. while_live live o) after ∙ while_renewed number moment (map as_lease ls) o

  lease_lives : is_live (map as_lease ls) number ≡ true
  lease_lives = subst (λ n. is_live (map as_lease ls) n ≡ true) (sym is) (member_lives ls (get_or ls at l) (Contains-get_or ls at l within))

  reads : while_live (map as_lease ls) (Some number) ≡ Some number
  reads = ap (λ b. if b then Some number else None) lease_lives

  -- an open table that isn't a child stays where it was
  stays_there : (q : Packed) → IsOpenOn old q → (q ≡ t → ⊥) → came_under next q ≡ came_under came q
  stays_there q is_open other = renews.other q (λ child. opens.not_before q child is_open) ∙ out_other came mid t q out other

  pub under_new_leases : AreLeases new (as_leases (set ls at l) next moment given)
  under_new_leases =
      let given_number : (get_or ls at l).number ≤ given = subst (λ (x : Lease). x.number ≤ given) (get_or-map as_lease ls at l (as_lease l) within) (are.given at (as_lease l) (omega (arith, length-map ls as_lease))) in
      subst (λ (live : List Lease). AreLeases new (record { live = live; came = next; moment = moment; given = given })) (sym after) (record {
        most = let most = are.most in omega (arith, length-map (map as_lease ls) (renew_one number moment));
        numbers = all_pairs_map (λ (a b : Lease). a.number < b.number) (renew_one number moment) (map as_lease ls) (λ a b less. omega (arith, one_number number moment a, one_number number moment b)) are.numbers;
        ids = all_pairs_map (λ (a b : Lease). a.id ≢ b.id) (renew_one number moment) (map as_lease ls) (λ a b differ same. differ (sym (one_id number moment a) ∙ (same ∙ one_id number moment b))) are.ids;
        given = All-map (λ (x : Lease). x.number ≤ given) (renew_one number moment) (map as_lease ls) (λ k d lt. subst (λ m. m ≤ given) (sym (one_number number moment (get_or (map as_lease ls) k d))) (are.given k d lt));
        came_given = λ q n h. elim (renews.only q n h) [
          | inl before ↦ are.came_given q n (out_cases came mid t q n out before).1
          | inr now ↦ let e = now.0 in omega arith
        ];
        is_open = λ q n h. elim (renews.only q n h) [
          | inl before ↦ let was = out_cases came mid t q n out before in opens.stays q (are.is_open q n was.1) was.0
          | inr now ↦ now.1
        ];
      })

  -- the leases at other places have other numbers
  apart_from : (j : ℕ) (x : StoredLease) → (j ≢ at) → j < length ls → get_or ls j x ≡ x → x.number ≡ (get_or ls at l).number → ⊥
  apart_from j x differ below e same =
      let first : (get_or (map as_lease ls) j (as_lease x)).number ≡ x.number = ap (λ (y : Lease). y.number) (get_or-map as_lease ls j x (as_lease x) below) ∙ ap (λ (y : StoredLease). y.number) e in
      let second : (get_or (map as_lease ls) at (as_lease x)).number ≡ (get_or ls at l).number = ap (λ (y : Lease). y.number) (get_or-map as_lease ls at l (as_lease x) within) in
      elim (less_or_more j at differ) [
        | inl less ↦ let rising = are.numbers j at (as_lease x) less (omega (arith, length-map ls as_lease)) in omega (arith, rising, first, second, same)
        | inr more ↦ let rising = are.numbers at j (as_lease x) more (omega (arith, length-map ls as_lease)) in omega (arith, rising, first, second, same)
      ]

  pub under_new_kept : AreStored new (set ls at l) next free
  under_new_kept = record {
    listed = λ x q member h. elim (set_member ls at l x within member) [
      | inl same ↦ subst (λ (x : StoredLease). Contains x.tables q) (sym same) (elim (renews.only q x.number h) [
        | inl before ↦ renews.more q (kept.listed (get_or ls at l) q (Contains-get_or ls at l within) ((out_cases came mid t q x.number out before).1 ∙ ap Some (ap (λ (x : StoredLease). x.number) same ∙ renews.number))) (out_cases came mid t q x.number out before).0
        | inr now ↦ now.2
      ])
      | inr other ↦ elim (renews.only q x.number h) [
        | inl before ↦ kept.listed x q (other.0, other.2, other.3) (out_cases came mid t q x.number out before).1
        | inr now ↦ absurd (apart_from other.0 x other.1 other.2 other.3 now.0)
      ]
    ];
    freed = λ q is_open none. elim (opens.cases q is_open) [
      | inl was ↦ kept.freed q was.0 (ap (while_live (map as_lease ls)) (sym (stays_there q was.0 was.1)) ∙ (sym (while_after (came_under next q)) ∙ none))
      | inr child ↦
          let here : came_under next q ≡ Some number = renews.here q child.0 child.1 is_open ∙ ap Some (sym is) in
          let some : while_live (map as_lease (set ls at l)) (came_under next q) ≡ Some number = while_after (came_under next q) ∙ (ap (while_live (map as_lease ls)) here ∙ reads) in
          absurd (cc)
    ];
  }

  pub under_new_takes : while_live (map as_lease ls) (came_under came t) ≡ Some number
      → TakesNew t (record { board = old; leases = as_leases ls came moment given }) (record { board = new; leases = as_leases (set ls at l) next moment given })
  unfolding renew_one
  under_new_takes under = record {
    live = after ∙ ap (λ o. renewed o moment (map as_lease ls)) (sym under);
    children = λ q became. elim (opens.cases q became.0) [
      | inl was ↦ absurd (became.1 was.0)
      | inr child ↦ while_after (came_under next q) ∙ (ap (while_live (map as_lease ls)) (renews.here q child.0 child.1 became.0 ∙ ap Some (sym is)) ∙ (reads ∙ sym under))
    ];
    others = λ q is_open other. while_after (came_under next q) ∙ ap (while_live (map as_lease ls)) (stays_there q is_open other);
    moment = refl;
    given = refl;
  }

pub seen_shown : (first ls : List StoredLease) (before came : List (Packed × ℕ)) (moment given : ℕ) → map shown ls ≡ map shown first → came ≡ before → as_leases ls came moment given ≡ as_leases first before moment given
seen_shown first ls before came moment given same same_came =
    let live = same_held first ls same in
    λ i. record { live = live i; came = same_came i; moment = moment; given = given }

pub while_lives : (live : List Lease) (o : Option ℕ) (n : ℕ) → while_live live o ≡ Some n → is_live live n ≡ true
while_lives live None n h = absurd (cc)
while_lives live (Some m) n h = elim (is_live live m) as (λ b. is_live live m ≡ b → (if b then Some m else None) ≡ Some n → is_live live n ≡ true) [
  | true ↦ λ e same. subst (λ k. is_live live k ≡ true) (same_Some m n same) e
  | false ↦ λ e none. absurd (cc)
] refl h
