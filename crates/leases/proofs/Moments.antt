-- The moments at which leases were given or renewed, and which of them have ended by a moment.
use Rattle.std.proofs.Common.{◌≡◌, refl, ℕ, ◌<◌, ◌≤◌, Bool, ap, subst, inl, inr, List, [], ◌∷◌, ◌++◌, map, length, filter, Contains, Option, not, max, min, sym, arith, ◌+◌, ◌||◌, true, false, cond, nat_eq, ◌∙◌, get_or, zero, suc, drop, Some, below_more, take, None, Result, Ok, Err, IfErr, IfNone, IfOk, IfSome, IsSome}
use Rattle.std.proofs.Math.ListN.{set}
use Rattle.std.proofs.Math.Nat.{le-max_left}
use Rattle.std.proofs.lemmas.List.Elements.{All-contains, filter_passes, at_read, filter-append}
use Rattle.std.proofs.lemmas.List.{drop_more, get_or-map, get_or-set_same, length-map, length-set, map-append, take_more}
use Rattle.std.proofs.lemmas.Bool.{eqb-true, eq-eqb, leb-true, cases_lt, le-leb}
use Rattle.std.specs.Prelude.{OnSome, is_some, nat_le}
use Rattle.std.proofs.Math.Seq.{map-set_same}
use Rattle.std.specs.List.Sorted.{IsBinarySearchResult, IsNonDecreasingBy, IsSearchInRange}
use Rattle.std.specs.Ordering.{nat_cmp, ordering_index}
use Rattle.std.specs.declared.cmp.Ordering.TheVariants.{Less, Greater}
use Rattle.std.proofs.lemmas.Bool.Decides.{nat_tests}
use Rattle.std.proofs.lemmas.Cmp.{ranked}
use Rattle.machine_text.specs.Terms.{Packed}
use Rattle.leases.specs.Leases.{Lease, SomeEnds, is_live}
use Rattle.leases.specs.inside.{shown, StoredLease, is_numbered, without, AreNotAhead, AreNotBefore, as_lease, due_of, has_ended, are_numbered, without_each, AreDue, AreAmongFree, RiseByNumber, stored_lease, AreOfWorkers, StandsAt}
use Rattle.leases.proofs.FreeLaws.{mapped, unmapped, filter_member, found_live, in_filter, or_later}
use Rattle.leases.proofs.LiveLaws.{member_append, only_one, dead, named, same_rise, same_workers, stands_lives}
use Rattle.leases.proofs.Offering.{set_member}
use Rattle.ledger.proofs.HeldLaws.{first_member, later_member, first_or_later}
use Rattle.leases.specs.Limits.{lease_time}
use Rattle.leases.specs.declared.held_leases.HeldLease.{HeldLease}

-- The moments at which leases were given or renewed: none is ahead, and none is before a moment.

-- no lease was given or renewed after the moment, and so it stays
pub same_not_ahead : (moment : ℕ) (ls new : List StoredLease) → new ≡ ls → AreNotAhead moment ls → AreNotAhead moment new
same_not_ahead moment ls new same past = subst (AreNotAhead moment) (sym same) past

pub fewer_not_ahead : (p : StoredLease → Bool) (moment : ℕ) (ls new : List StoredLease) → new ≡ filter p ls → AreNotAhead moment ls → AreNotAhead moment new
fewer_not_ahead p moment ls new is past l h = past l (filter_member p ls l (subst (λ (xs : List StoredLease). Contains xs l) is h))

pub without_not_ahead : (which : Option ℕ) (moment : ℕ) (ls new : List StoredLease) → new ≡ without which ls → AreNotAhead moment ls → AreNotAhead moment new
without_not_ahead which moment ls new is past = fewer_not_ahead (λ l. not (is_numbered which l.number)) moment ls new is past

pub later_not_ahead : (moment t now : ℕ) (ls : List StoredLease) → now ≡ max moment t → AreNotAhead moment ls → AreNotAhead now ls
later_not_ahead moment t now ls is past l h = let before = past l h in let later = le-max_left moment t in omega (arith, before, later, is)

pub granted_not_ahead : (own : Option ℕ) (moment : ℕ) (ls new : List StoredLease) (l : StoredLease) → new ≡ without own ls ++ (l ∷ []) → l.renewed ≡ moment → AreNotAhead moment ls → AreNotAhead moment new
granted_not_ahead own moment ls new l is now past x h =
    elim (member_append (without own ls) l x (subst (λ (xs : List StoredLease). Contains xs x) is h)) [
      | inl before ↦ without_not_ahead own moment ls (without own ls) refl past x before
      | inr last ↦ let same = ap (λ (l : StoredLease). l.renewed) last in omega (arith, same, now)
    ]

pub shown_not_ahead : (moment : ℕ) (first ls : List StoredLease) → map shown ls ≡ map shown first → AreNotAhead moment first → AreNotAhead moment ls
shown_not_ahead moment first ls same past l h =
    let there = unmapped shown first (shown l) (subst (λ (xs : List (Lease × List Packed)). Contains xs (shown l)) same (mapped shown ls l h)) in
    let renewed = ap (λ (p : Lease × List Packed). p.0.deadline) there.2 in
    let before = past there.0 there.1 in
    omega (arith, renewed, before)

pub renewed_not_ahead : (moment : ℕ) (ls new : List StoredLease) (at : ℕ) (l : StoredLease) → at < length ls → new ≡ set ls at l → l.renewed ≡ moment → AreNotAhead moment ls → AreNotAhead moment new
renewed_not_ahead moment ls new at l within is now past x h =
    elim (set_member ls at l x within (subst (λ (xs : List StoredLease). Contains xs x) is h)) [
      | inl same ↦ let renewed = ap (λ (l : StoredLease). l.renewed) same in omega (arith, renewed, now)
      | inr other ↦ past x (other.0, other.2, other.3)
    ]

-- and none was before one, of fewer leases, of one more and of one that is written to
pub fewer_not_before : (which : Option ℕ) (moment : ℕ) (ls : List StoredLease) → AreNotBefore moment ls → AreNotBefore moment (without which ls)
fewer_not_before which moment ls first l h = first l (filter_member (λ l. not (is_numbered which l.number)) ls l h)

pub one_more_not_before : (moment : ℕ) (ls : List StoredLease) (l : StoredLease) → AreNotBefore moment ls → AreNotBefore (min moment l.renewed) (ls ++ (l ∷ []))
one_more_not_before moment ls l first x h = elim (member_append ls l x h) [
  | inl before ↦ let past = first x before in omega (arith, past)
  | inr last ↦ let same = ap (λ (l : StoredLease). l.renewed) last in omega (arith, same)
]

pub set_not_before : (moment : ℕ) (ls : List StoredLease) (at : ℕ) (l : StoredLease) → at < length ls → moment ≤ l.renewed → AreNotBefore moment ls → AreNotBefore moment (set ls at l)
set_not_before moment ls at l within late first x h = elim (set_member ls at l x within h) [
  | inl same ↦ subst (λ (x : StoredLease). moment ≤ x.renewed) (sym same) late
  | inr other ↦ first x (other.0, other.2, other.3)
]

-- The leases that have ended by a moment, and leases that end together.
passes : {X : Type 0} (p : X → Bool) (xs : List X) (x : X) → Contains (filter p xs) x → p x ≡ true
passes p xs x h = All-contains (λ x. p x ≡ true) (filter p xs) x (filter_passes p xs) h

pub are_due : (moment : ℕ) (ls : List StoredLease) → RiseByNumber ls → AreDue moment (map as_lease ls) (due_of moment ls)
are_due moment ls rise =
    let ends : StoredLease → Bool = λ l. has_ended moment (as_lease l) in
    record {
      all = λ x member late.
          let l = unmapped as_lease ls x member in
          subst (Contains (due_of moment ls)) (ap (λ (x : Lease). x.number) l.2)
          (mapped (λ (l : StoredLease). l.number) (filter ends ls) l.0 (in_filter ends ls l.0 l.1 (ap (has_ended moment) l.2 ∙ late)));
      only = λ x member there.
          let l = unmapped as_lease ls x member in
          let k = unmapped (λ (l : StoredLease). l.number) (filter ends ls) x.number there in
          let late = passes ends ls k.0 k.1 in
          let number : k.0.number ≡ l.0.number = k.2 ∙ sym (ap (λ (x : Lease). x.number) l.2) in
          let same : k.0 ≡ l.0 = only_one ls k.0 l.0 rise (filter_member ends ls k.0 k.1) l.1 number in
          ap (has_ended moment) (sym l.2) ∙ (ap ends (sym same) ∙ late);
    }

-- leases that end one after the other
pub without_next : (n : ℕ) (rest : List ℕ) (ls : List StoredLease) → without_each (n ∷ rest) ls ≡ without_each rest (without (Some n) ls)
without_next n rest [] = refl
without_next n rest (l ∷ ls) =
    elim (nat_eq l.number n) as (λ b. cond (not (b || are_numbered rest l.number)) (l ∷ without_each (n ∷ rest) ls) (without_each (n ∷ rest) ls) ≡ without_each rest (cond (not b) (l ∷ without (Some n) ls) (without (Some n) ls))) [
      | true ↦ without_next n rest ls
      | false ↦ ap (λ xs. cond (not (are_numbered rest l.number)) (l ∷ xs) xs) (without_next n rest ls)
    ]

pub without_no_more : (ls : List StoredLease) → without_each [] ls ≡ ls
without_no_more [] = refl
without_no_more (l ∷ ls) = ap (λ xs. l ∷ xs) (without_no_more ls)

-- one of several numbers
pub one_of : (n : ℕ) (numbers : List ℕ) → are_numbered numbers n ≡ true → Contains numbers n
one_of n [] e = absurd (cc)
one_of n (m ∷ ms) e =
    elim (nat_eq n m) as (λ b. nat_eq n m ≡ b → (b || are_numbered ms n) ≡ true → Contains (m ∷ ms) n) [
      | true ↦ λ same e. first_member m n ms (sym (eqb-true n m same))
      | false ↦ λ other e. later_member m ms n (one_of n ms e)
    ] refl e

pub are_one : (n : ℕ) (numbers : List ℕ) → Contains numbers n → are_numbered numbers n ≡ true
are_one n [] h = absurd (omega (arith, h.1))
are_one n (m ∷ ms) h = elim (first_or_later m ms n h) [
  | inl same ↦ ap (λ b. b || are_numbered ms n) (eq-eqb n m (sym same))
  | inr later ↦ or_later (nat_eq n m) (are_numbered ms n) (are_one n ms later)
]

-- the leases of numbers that are due are those that have ended
pub ended_each : (moment : ℕ) (numbers : List ℕ) (ls : List StoredLease) → AreDue moment (map as_lease ls) numbers → without_each numbers ls ≡ filter (λ l. not (has_ended moment (as_lease l))) ls
ended_each moment numbers [] due = refl
ended_each moment numbers (l ∷ ls) due =
    let rest = ended_each moment numbers ls (record {
      all = λ x h. due.all x (later_member (as_lease l) (map as_lease ls) x h);
      only = λ x h. due.only x (later_member (as_lease l) (map as_lease ls) x h);
    }) in
    let first = first_member (as_lease l) (as_lease l) (map as_lease ls) refl in
    let same : are_numbered numbers l.number ≡ has_ended moment (as_lease l) = elim (are_numbered numbers l.number) as (λ b. are_numbered numbers l.number ≡ b → b ≡ has_ended moment (as_lease l)) [
      | true ↦ λ e. sym (due.only (as_lease l) first (one_of l.number numbers e))
      | false ↦ λ e. elim (has_ended moment (as_lease l)) as (λ b. has_ended moment (as_lease l) ≡ b → false ≡ b) [
        | true ↦ λ late. sym e ∙ are_one l.number numbers (due.all (as_lease l) first late)
        | false ↦ λ late. refl
      ] refl
    ] refl in
    ap (λ b. cond (not b) (l ∷ without_each numbers ls) (without_each numbers ls)) same ∙ ap (λ xs. cond (not (has_ended moment (as_lease l))) (l ∷ xs) xs) rest

-- the tables of the leases of the first numbers are among the free ones
abbrev pub AreFirstFreed : List ℕ → ℕ → List StoredLease → List Packed → Type 0
AreFirstFreed numbers i ls free = (k : ℕ) (d : ℕ) → k < i → AreAmongFree (λ l. nat_eq l.number (get_or numbers k d)) ls free

pub one_freed : (numbers : List ℕ) (i n : ℕ) (ls : List StoredLease) (old new : List Packed) → i < length numbers → n ≡ get_or numbers i n → ((q : Packed) → Contains old q → Contains new q)
    → AreAmongFree (λ l. nat_eq l.number n) ls new → AreFirstFreed numbers i ls old → AreFirstFreed numbers (i + 1) ls new
one_freed numbers i n ls old new below is more here before = λ k d less.
    below_more (λ (k : ℕ). (d : ℕ) → AreAmongFree (λ l. nat_eq l.number (get_or numbers k d)) ls new) i (λ k less d l t member e h. more t (before k d less l t member e h))
    (at_read numbers (λ (n : ℕ). AreAmongFree (λ l. nat_eq l.number n) ls new) i n below is here) k less d

pub all_freed : (numbers : List ℕ) (i : ℕ) (ls : List StoredLease) (free : List Packed) → length numbers ≤ i → AreFirstFreed numbers i ls free → AreAmongFree (λ l. are_numbered numbers l.number) ls free
all_freed numbers i ls free all first l t member ends h =
    let there = one_of l.number numbers ends in
    first there.0 l.number (omega (arith, there.1)) l t member (eq-eqb l.number (get_or numbers there.0 l.number) (sym there.2)) h

pub due_freed : (moment : ℕ) (numbers : List ℕ) (ls : List StoredLease) (free : List Packed) → AreDue moment (map as_lease ls) numbers → AreAmongFree (λ l. are_numbered numbers l.number) ls free → AreAmongFree (has_ended moment) ls free
due_freed moment numbers ls free due freed l t member late h = freed l t member (are_one l.number numbers (due.all (as_lease l) (mapped as_lease ls l member) late)) h

pub drop_past : (xs : List ℕ) (i : ℕ) → length xs ≤ i → drop i xs ≡ []
drop_past [] zero all = refl
drop_past [] (suc i) all = refl
drop_past (x ∷ xs) zero all = absurd (omega arith)
drop_past (x ∷ xs) (suc i) all = drop_past xs i (omega arith)

pub same_place : (xs : List ℕ) (i d e : ℕ) → i < length xs → get_or xs i d ≡ get_or xs i e
same_place [] i d e below = absurd (omega arith)
same_place (x ∷ xs) zero d e below = refl
same_place (x ∷ xs) (suc i) d e below = same_place xs i d e (omega arith)

pub next_freed : (numbers : List ℕ) (i d : ℕ) (ls : List StoredLease) (old new : List Packed) → i < length numbers → ((q : Packed) → Contains old q → Contains new q)
    → AreAmongFree (λ l. nat_eq l.number (get_or numbers i d)) ls new → AreFirstFreed numbers i ls old → AreFirstFreed numbers (i + 1) ls new
next_freed numbers i d ls old new below more here before = one_freed numbers i (get_or numbers i d) ls old new below (same_place numbers i d (get_or numbers i d) below) more here before

pub next_ended : (numbers : List ℕ) (i d : ℕ) (ls new : List StoredLease) → i < length numbers → new ≡ without (Some (get_or numbers i d)) ls → without_each (drop i numbers) ls ≡ without_each (drop (i + 1) numbers) new
next_ended numbers i d ls new below is =
    ap (λ (ns : List ℕ). without_each ns ls) (drop_more numbers i d below)
    ∙ (without_next (get_or numbers i d) (drop (i + 1) numbers) ls ∙ ap (without_each (drop (i + 1) numbers)) (sym is))

-- a number that is due is that of a lease that ends
pub number_ends : (moment : ℕ) (ls : List StoredLease) (numbers : List ℕ) (n : ℕ) → AreDue moment (map as_lease ls) numbers → Contains numbers n → is_live (map as_lease ls) n ≡ true → SomeEnds moment (map as_lease ls)
number_ends moment ls numbers n due listed lives =
    let l = found_live ls n lives in
    let member = mapped as_lease ls l.0 l.1 in
    (as_lease l.0, member, leb-true (as_lease l.0).deadline moment (due.only (as_lease l.0) member (subst (Contains numbers) (sym l.2) listed)))

-- Leases as they are kept: where one stands that is looked for, and which of them have ended.

-- a lease that is read at a place stands there
pub read_at : (items : List HeldLease) (i : ℕ) (l : HeldLease) → i < length items → l ≡ get_or items i l → (d : StoredLease) → get_or (map stored_lease items) i d ≡ stored_lease l
read_at items i l below is d = get_or-map stored_lease items i l d below ∙ ap stored_lease (sym is)

first_of : (xs : List HeldLease) (i : ℕ) → i < length xs → (l : HeldLease) × (l ≡ get_or xs i l)
first_of [] i below = absurd (omega (arith, below))
first_of (x ∷ xs) zero below = (x, refl)
first_of (x ∷ xs) (suc i) below = first_of xs i (omega (arith, below))

module _ (items : List HeldLease) (rise : RiseByNumber (map stored_lease items)) (n : ℕ) where
  numbers_rise : (i j : ℕ) (d : HeldLease) → i < j → j < length items → (get_or items i d).number < (get_or items j d).number
  numbers_rise i j d less below =
      let rising = rise i j (stored_lease d) less (omega (arith, below, length-map items stored_lease)) in
      let first = ap (λ (l : StoredLease). l.number) (get_or-map stored_lease items i d (stored_lease d) (omega (arith, less, below))) in
      let second = ap (λ (l : StoredLease). l.number) (get_or-map stored_lease items j d (stored_lease d) below) in
      omega (arith, rising, first, second)

  comparisons_rise : IsNonDecreasingBy (λ (l : HeldLease). ordering_index (nat_cmp l.number n)) items
  comparisons_rise i j d le below =
      let least : (get_or items i d).number ≤ (get_or items j d).number = elim (cases_lt i j) [
        | inl less ↦ let rising = numbers_rise i j d less below in omega (arith, rising)
        | inr most ↦ let same : i ≡ j = omega (arith, le, most) in let equal = ap (λ k. (get_or items k d).number) same in omega (arith, equal)
      ] in
      grind (arith, nat_tests)

  pub searched : (r : Result ℕ ℕ) → IsSearchInRange r (length items) → IsBinarySearchResult (λ (l : HeldLease). nat_cmp l.number n) items r
      → IfOk r (StandsAt n (map stored_lease items)) × IfErr r (λ i. is_live (map as_lease (map stored_lease items)) n ≡ false)
  searched (Ok at) within equal = (
    (omega (arith, within, length-map items stored_lease), λ d. stands d),
    tt,
  )
    where
      stands : (d : StoredLease) → (get_or (map stored_lease items) at d).number ≡ n
      stands d =
          let read : (l : HeldLease) × (l ≡ get_or items at l) = first_of items at within in
          let (l, is) = read in
          ap (λ (l : StoredLease). l.number) (read_at items at l within is d) ∙ (ap (λ (l : HeldLease). l.number) is ∙ ranked _ n _ (sym (equal l)))
  searched (Err at) within parted = (
    tt,
    dead n (map stored_lease items) (λ l member number.
        let (x, (j, below, is), same) = unmapped stored_lease items l member in
        let own : x.number ≡ n = ap (λ (l : StoredLease). l.number) same ∙ number in
        let there : (get_or items j x).number ≡ x.number = ap (λ (l : HeldLease). l.number) is in
        elim (cases_lt j at) [
          | inl less ↦ let smaller = ranked (get_or items j x).number n Less (sym ((parted comparisons_rise).0 j x (omega arith) less)) in omega (arith, smaller, there, own)
          | inr most ↦ let greater = ranked (get_or items j x).number n Greater (sym ((parted comparisons_rise).1 j x (omega (arith, most)) below)) in omega (arith, greater, there, own)
        ]),
  )

pub lives_by : (n : ℕ) (ls : List StoredLease) (o : Option ℕ) → IfSome o (StandsAt n ls) → IfNone o (is_live (map as_lease ls) n ≡ false) → is_some o ≡ is_live (map as_lease ls) n
lives_by n ls (Some i) at none = sym (stands_lives n ls i at)
lives_by n ls None at none = sym none

pub where_some : {X A : Type 0} (r : Option X) → IsSome r → OnSome r A → A
where_some (Some x) some h = h
where_some None some h = absurd (cc)

-- one lease more is looked at
pub due_more : (moment : ℕ) (ls : List StoredLease) (i : ℕ) (l : StoredLease) → i < length ls → get_or ls i l ≡ l → due_of moment (take (i + 1) ls) ≡ due_of moment (take i ls) ++ due_of moment (l ∷ [])
due_more moment ls i l below is =
    ap (due_of moment) (take_more ls i l below ∙ ap (λ (x : StoredLease). take i ls ++ (x ∷ [])) is)
    ∙ ap (map (λ (l : StoredLease). l.number)) (filter-append (λ (l : StoredLease). has_ended moment (as_lease l)) (take i ls) (l ∷ []))
    ∙ map-append (λ (l : StoredLease). l.number) (filter (λ (l : StoredLease). has_ended moment (as_lease l)) (take i ls)) (filter (λ (l : StoredLease). has_ended moment (as_lease l)) (l ∷ []))

pub first_more : (moment : ℕ) (ls : List StoredLease) (i : ℕ) (l : StoredLease) → i < length ls → get_or ls i l ≡ l → AreNotBefore moment (take i ls) → AreNotBefore (min moment l.renewed) (take (i + 1) ls)
first_more moment ls i l below is first =
    subst (AreNotBefore (min moment l.renewed)) (sym (take_more ls i l below ∙ ap (λ (x : StoredLease). take i ls ++ (x ∷ [])) is)) (one_more_not_before moment (take i ls) l first)

-- a lease that is read has ended
pub ends_there : (moment : ℕ) (items : List HeldLease) (i : ℕ) (l : HeldLease) → i < length items → l ≡ get_or items i l → has_ended moment (as_lease (stored_lease l)) ≡ true → SomeEnds moment (map as_lease (map stored_lease items))
ends_there moment items i l below is late =
    let there : Contains (map stored_lease items) (stored_lease l) = (i, omega (arith, below, length-map items stored_lease), read_at items i l below is (stored_lease l)) in
    (as_lease (stored_lease l), mapped as_lease (map stored_lease items) (stored_lease l) there, leb-true (as_lease (stored_lease l)).deadline moment late)

-- none has ended where that can't be
pub none_due : (moment earliest : ℕ) (ls : List StoredLease) → AreNotBefore earliest ls → nat_le (earliest + lease_time) moment ≡ false → AreDue moment (map as_lease ls) []
none_due moment earliest ls first early = record {
  all = λ x member late.
      let (l, there, is) = unmapped as_lease ls x member in
      let before = first l there in
      let deadline = ap (λ (x : Lease). x.deadline) is in
      let past = leb-true x.deadline moment late in
      let now : earliest + lease_time ≤ moment = omega (arith, before, deadline, past) in
      let also = le-leb (earliest + lease_time) moment now in
      absurd (cc);
  only = λ x member h. absurd (omega (arith, h.1));
}

-- a lease that is written to keeps its number and its worker, and isn't given or renewed before it was
pub kept_by_set : (numbers : ℕ → Option ℕ) (earliest : ℕ) (ls : List StoredLease) (i : ℕ) (v w : StoredLease) → i < length ls → ((d : StoredLease) → get_or ls i d ≡ v) → w.number ≡ v.number → w.id ≡ v.id → v.renewed ≤ w.renewed
    → RiseByNumber ls × AreOfWorkers numbers ls × AreNotBefore earliest ls → RiseByNumber (set ls i w) × AreOfWorkers numbers (set ls i w) × AreNotBefore earliest (set ls i w)
unfolding named
kept_by_set numbers earliest ls i v w below there number id later kept =
    let names : named w ≡ named (get_or ls i w) = ap (λ (n : ℕ). (n, w.id)) number ∙ (ap (λ (k : ℕ). (v.number, k)) id ∙ ap named (sym (there w))) in
    let same : map named (set ls i w) ≡ map named ls = map-set_same named ls i w w names in
    let before = kept.2 v (i, below, there v) in (
      same_rise ls (set ls i w) same kept.0,
      same_workers numbers ls (set ls i w) same kept.1,
      set_not_before earliest ls i w below (omega (arith, before, later)) kept.2,
    )

pub set_there : (ls : List StoredLease) (i : ℕ) (w : StoredLease) → i < length ls → Contains (set ls i w) w
set_there ls i w below = (i, omega (arith, below, length-set ls i w), get_or-set_same ls i w w below)
