-- Leases in the order of their numbers: which are found, and what goes, comes and changes.
use Rattle.std.proofs.Common.{◌≡◌, ℕ, ◌+◌, ◌-◌, ◌<◌, ◌≤◌, ◌||◌, ◌&&◌, ◌⊎◌, IfSome, OnOk, Result, Ok, Err, zero, suc, inl, inr, Bool, true, false, cond, not, nat_eq, refl, sym, ◌∙◌, ap, subst, List, [], ◌∷◌, ◌++◌, map, filter, length, get_or, All, Option, Some, None, Contains, arith}
use Rattle.std.specs.List.{remove}
use Rattle.std.proofs.lemmas.Bool.{eqb-true, eq-eqb, cases_lt}
use Rattle.std.proofs.lemmas.Bool.Decides.{eqb_tells}
use Rattle.std.proofs.lemmas.List.{get_or-map, get_or_default, length-map}
use Rattle.std.proofs.lemmas.List.Elements.{All-contains, Contains-get_or}
use Rattle.std.proofs.lemmas.List.Edits.{length-remove}
use Rattle.std.proofs.lemmas.List.Kept.{AllPairs-filter}
use Rattle.std.proofs.lemmas.List.Quantifiers.{all_pairs_push}
use Rattle.std.proofs.lemmas.Option.{same_Some}
use Rattle.ledger.proofs.HeldLaws.{first_member, first_or_later, later_member}
use Rattle.machine_text.specs.Terms.{Packed}
use Rattle.leases.specs.Limits.{child_limit}
use Rattle.leases.specs.Leases.{is_live}
use Rattle.leases.specs.inside.{StoredLease, as_lease, is_numbered, without, AreAmongFree, AreOfWorkers, HasLease, IsOwn, RiseByNumber, StandsAt, HasRoomForChildren}
use Rattle.leases.proofs.FreeLaws.{filter_member, found_live, in_filter, member_lives, mapped, unmapped}

nobody : StoredLease
nobody = record { number = 0; id = 0; renewed = 0; tables = []; room = 0 }

pub without_none : (ls : List StoredLease) → without None ls ≡ ls
without_none [] = refl
without_none (l ∷ ls) = ap (λ xs. l ∷ xs) (without_none ls)

-- a number under which none stands
none_left : (n : ℕ) (ls : List StoredLease) → ((l : StoredLease) → Contains ls l → l.number ≡ n → ⊥) → without (Some n) ls ≡ ls
none_left n [] none = refl
none_left n (l ∷ ls) none =
    let other : nat_eq l.number n ≡ false = elim (eqb_tells l.number n) [ inl same ↦ absurd (none l (first_member l l ls refl) same.1) | inr differ ↦ differ.0 ] in
    ap (λ b. cond (not b) (l ∷ without (Some n) ls) (without (Some n) ls)) other ∙ ap (λ xs. l ∷ xs) (none_left n ls (λ x h. none x (later_member l ls x h)))

pub none_live : (n : ℕ) (ls : List StoredLease) → is_live (map as_lease ls) n ≡ false → (l : StoredLease) → Contains ls l → l.number ≡ n → ⊥
none_live n ls dead l member number = let lives = subst (λ k. is_live (map as_lease ls) k ≡ true) number (member_lives ls l member) in cc

pub dead : (n : ℕ) (ls : List StoredLease) → ((l : StoredLease) → Contains ls l → l.number ≡ n → ⊥) → is_live (map as_lease ls) n ≡ false
dead n ls none = elim (is_live (map as_lease ls) n) as (λ b. is_live (map as_lease ls) n ≡ b → b ≡ false) [
  | true ↦ λ e. let l = found_live ls n e in absurd (none l.0 l.1 l.2)
  | false ↦ λ e. refl
] refl

-- a number stands once
pub only_one : (ls : List StoredLease) (a b : StoredLease) → RiseByNumber ls → Contains ls a → Contains ls b → a.number ≡ b.number → a ≡ b
only_one ls a b rise (i, i_below, here) (j, j_below, there) same = elim (cases_lt i j) [
  | inl less ↦
      let rising = rise i j a less j_below in
      let first : (get_or ls i a).number ≡ a.number = ap (λ (l : StoredLease). l.number) here in
      let second : (get_or ls j a).number ≡ b.number = ap (λ (l : StoredLease). l.number) (get_or_default ls j a b j_below ∙ there) in
      absurd (omega (arith, rising, first, second, same))
  | inr most ↦ elim (cases_lt j i) [
    | inl less ↦
        let rising = rise j i a less i_below in
        let first : (get_or ls i a).number ≡ a.number = ap (λ (l : StoredLease). l.number) here in
        let second : (get_or ls j a).number ≡ b.number = ap (λ (l : StoredLease). l.number) (get_or_default ls j a b j_below ∙ there) in
        absurd (omega (arith, rising, first, second, same))
    | inr least ↦
        let place : i ≡ j = omega (arith, most, least) in
        sym here ∙ (ap (λ k. get_or ls k a) place ∙ (get_or_default ls j a b j_below ∙ there))
  ]
]

-- what stands at a place
pub stands_there : (n : ℕ) (ls : List StoredLease) (i : ℕ) (d : StoredLease) → StandsAt n ls i → Contains ls (get_or ls i d)
stands_there n ls i d at = Contains-get_or ls i d at.0

pub stands_lives : (n : ℕ) (ls : List StoredLease) (i : ℕ) → StandsAt n ls i → is_live (map as_lease ls) n ≡ true
stands_lives n ls i at = subst (λ k. is_live (map as_lease ls) k ≡ true) (at.1 nobody) (member_lives ls (get_or ls i nobody) (stands_there n ls i nobody at))

-- the lease at the place of a number is without it the rest
pub removed_is : (n : ℕ) (ls : List StoredLease) (i : ℕ) → RiseByNumber ls → StandsAt n ls i → remove ls i ≡ without (Some n) ls
removed_is n [] i rise at = absurd (let below = at.0 in omega (arith, below))
removed_is n (x ∷ xs) zero rise at =
    let here : x.number ≡ n = at.1 x in
    let above : (l : StoredLease) → Contains xs l → l.number ≡ n → ⊥ = λ l h same.
    let rising = rise 0 (suc h.0) l (omega arith) (omega (arith, h.1)) in
    let is : (get_or xs h.0 l).number ≡ l.number = ap (λ (l : StoredLease). l.number) h.2 in
    omega (arith, rising, is, same, here) in
    sym (ap (λ b. cond (not b) (x ∷ without (Some n) xs) (without (Some n) xs)) (eq-eqb x.number n here) ∙ none_left n xs above)
removed_is n (x ∷ xs) (suc k) rise at =
    let below : k < length xs = (let within = at.0 in omega (arith, within)) in
    let there : (get_or xs k x).number ≡ n = at.1 x in
    let rising = rise 0 (suc k) x (omega arith) (omega (arith, below)) in
    let other : nat_eq x.number n ≡ false = elim (eqb_tells x.number n) [ inl same ↦ let e = same.1 in absurd (omega (arith, rising, there, e)) | inr differ ↦ differ.0 ] in
    ap (λ ys. x ∷ ys) (removed_is n xs k (λ i j d less within. rise (suc i) (suc j) d (omega arith) (omega arith)) (below, λ d. at.1 d))
    ∙ sym (ap (λ b. cond (not b) (x ∷ without (Some n) xs) (without (Some n) xs)) other)

pub length_found : (n : ℕ) (ls : List StoredLease) (i : ℕ) → RiseByNumber ls → StandsAt n ls i → length (without (Some n) ls) + 1 ≡ length ls
length_found n ls i rise at = ap (λ (xs : List StoredLease). length xs + 1) (sym (removed_is n ls i rise at)) ∙ length-remove ls i at.0

pub missing : (n : ℕ) (ls : List StoredLease) → is_live (map as_lease ls) n ≡ false → without (Some n) ls ≡ ls
missing n ls none = none_left n ls (none_live n ls none)

pub and_false : (a : Bool) → (a && false) ≡ false
and_false true = refl
and_false false = refl

-- which leases live, without one
pub live_without : (which : Option ℕ) (ls : List StoredLease) (n : ℕ) → is_live (map as_lease (without which ls)) n ≡ (is_live (map as_lease ls) n && not (is_numbered which n))
live_without which [] n = refl
live_without which (l ∷ ls) n =
    let live = is_live (map as_lease ls) n in
    let rest = without which ls in
    elim (is_numbered which l.number) as (λ v. is_numbered which l.number ≡ v → is_live (map as_lease (cond (not v) (l ∷ rest) rest)) n ≡ ((nat_eq l.number n || live) && not (is_numbered which n))) [
      | true ↦ λ is. live_without which ls n ∙ elim (nat_eq l.number n) as (λ b. nat_eq l.number n ≡ b → (live && not (is_numbered which n)) ≡ ((b || live) && not (is_numbered which n))) [
        | true ↦ λ same.
            let here : is_numbered which n ≡ true = subst (λ k. is_numbered which k ≡ true) (eqb-true l.number n same) is in
            ap (λ v. live && not v) here ∙ (and_false live ∙ sym (ap not here))
        | false ↦ λ other. refl
      ] refl
      | false ↦ λ is. elim (nat_eq l.number n) as (λ b. nat_eq l.number n ≡ b → (b || is_live (map as_lease rest) n) ≡ ((b || live) && not (is_numbered which n))) [
        | true ↦ λ same. sym (ap not (subst (λ k. is_numbered which k ≡ false) (eqb-true l.number n same) is))
        | false ↦ λ other. live_without which ls n
      ] refl
    ] refl

pub without_last : (which : Option ℕ) (ls : List StoredLease) (l : StoredLease) → is_numbered which l.number ≡ false → without which (ls ++ (l ∷ [])) ≡ without which ls ++ (l ∷ [])
without_last which [] l other = ap (λ v. cond (not v) (l ∷ []) []) other
without_last which (x ∷ xs) l other =
    elim (is_numbered which x.number) as (λ v. cond (not v) (x ∷ without which (xs ++ (l ∷ []))) (without which (xs ++ (l ∷ []))) ≡ cond (not v) (x ∷ without which xs) (without which xs) ++ (l ∷ [])) [
      | true ↦ without_last which xs l other
      | false ↦ ap (λ ys. x ∷ ys) (without_last which xs l other)
    ]

-- the number that it is
pub own_number : (own : Option ℕ) (n : ℕ) → is_numbered own n ≡ true → own ≡ Some n
own_number None n e = absurd (cc)
own_number (Some m) n e = ap Some (sym (eqb-true n m e))

pub still_rise : (which : Option ℕ) (ls : List StoredLease) → RiseByNumber ls → RiseByNumber (without which ls)
still_rise which ls rise = AllPairs-filter (λ (a b : StoredLease). a.number < b.number) (λ l. not (is_numbered which l.number)) ls rise

pub rise_last : (ls : List StoredLease) (l : StoredLease) → All (λ (x : StoredLease). x.number < l.number) ls → RiseByNumber ls → RiseByNumber (ls ++ (l ∷ []))
rise_last ls l below rise = all_pairs_push (λ (a b : StoredLease). a.number < b.number) ls l rise (λ k d less. below k d less)

pub member_append : (xs : List StoredLease) (l x : StoredLease) → Contains (xs ++ (l ∷ [])) x → Contains xs x ⊎ (x ≡ l)
member_append [] l x h = elim (first_or_later l [] x h) [ inl same ↦ inr (sym same) | inr later ↦ absurd (omega (arith, later.1)) ]
member_append (y ∷ ys) l x h = elim (first_or_later y (ys ++ (l ∷ [])) x h) [
  | inl same ↦ inl (first_member y x ys same)
  | inr later ↦ elim (member_append ys l x later) [ inl before ↦ inl (later_member y ys x before) | inr last ↦ inr last ]
]

-- a lease ended: its worker has none
pub workers_removed : (numbers next : ℕ → Option ℕ) (ls : List StoredLease) (n : ℕ) (l : StoredLease) → RiseByNumber ls → AreOfWorkers numbers ls → Contains ls l → l.number ≡ n
    → ((q : ℕ) → next q ≡ cond (nat_eq l.id q) None (numbers q)) → AreOfWorkers next (without (Some n) ls)
workers_removed numbers next ls n l rise were member number freed id k = (
  λ h. elim (eqb_tells l.id id) [
    | inl same ↦ let none = freed id ∙ ap (λ v. cond v None (numbers id)) same.0 in absurd (cc)
    | inr differ ↦
        let (x, there, of, by) = (were id k).0 (sym (freed id ∙ ap (λ v. cond v None (numbers id)) differ.0) ∙ h) in
        let other : nat_eq x.number n ≡ false = elim (eqb_tells x.number n) [
          | inl this ↦ absurd (differ.1 (ap (λ (l : StoredLease). l.id) (only_one ls l x rise member there (number ∙ sym this.1)) ∙ by))
          | inr apart ↦ apart.0
        ] in
        (x, in_filter (λ l. not (is_numbered (Some n) l.number)) ls x there (ap not other), of, by)
  ],
  λ found.
      let (x, there, of, by) = found in
      let was = filter_member (λ l. not (is_numbered (Some n) l.number)) ls x there in
      let before = (were id k).1 (x, was, of, by) in
      elim (eqb_tells l.id id) [
        | inl same ↦
            let this : k ≡ n = same_Some k n (sym before ∙ (were id n).1 (l, member, number, same.1)) in
            let live = live_without (Some n) ls n ∙ (ap (λ b. is_live (map as_lease ls) n && not b) (eq-eqb n n refl) ∙ and_false (is_live (map as_lease ls) n)) in
            absurd (none_live n (without (Some n) ls) live x there (of ∙ this))
        | inr differ ↦ freed id ∙ (ap (λ v. cond v None (numbers id)) differ.0 ∙ before)
      ],
)

-- a worker has a new lease in the place of its own one
pub workers_replaced : (numbers next : ℕ → Option ℕ) (ls : List StoredLease) (own : Option ℕ) (v : StoredLease) → AreOfWorkers numbers ls → IsOwn v.id own ls
    → ((q : ℕ) → next q ≡ cond (nat_eq v.id q) (Some v.number) (numbers q)) → AreOfWorkers next (without own ls ++ (v ∷ []))
workers_replaced numbers next ls own v were is given id k = (
  λ h. elim (eqb_tells v.id id) [
    | inl same ↦
        let number : v.number ≡ k = same_Some v.number k (sym (given id ∙ ap (λ b. cond b (Some v.number) (numbers id)) same.0) ∙ h) in
        (v, in_last (without own ls) v, number, same.1)
    | inr differ ↦
        let (x, there, of, by) = (were id k).0 (sym (given id ∙ ap (λ b. cond b (Some v.number) (numbers id)) differ.0) ∙ h) in
        let not_own : is_numbered own x.number ≡ false = elim (is_numbered own x.number) as (λ b. is_numbered own x.number ≡ b → b ≡ false) [
          | true ↦ λ e. absurd (differ.1 (sym (is.exact x there (own_number own x.number e)) ∙ by))
          | false ↦ λ e. refl
        ] refl in
        (x, in_first (without own ls) v x (in_filter (λ l. not (is_numbered own l.number)) ls x there (ap not not_own)), of, by)
  ],
  λ found.
      let (x, there, of, by) = found in
      elim (member_append (without own ls) v x there) [
        | inr last ↦
            let same_id : v.id ≡ id = ap (λ (l : StoredLease). l.id) (sym last) ∙ by in
            given id ∙ (ap (λ b. cond b (Some v.number) (numbers id)) (eq-eqb v.id id same_id) ∙ ap (λ n. Some n) (ap (λ (l : StoredLease). l.number) (sym last) ∙ of))
        | inl before ↦
            let was = filter_member (λ l. not (is_numbered own l.number)) ls x before in
            let passes : is_numbered own x.number ≡ false = passed own ls x before in
            let differ : nat_eq v.id id ≡ false = elim (eqb_tells v.id id) [
              | inl same ↦ let owned = ap (λ o. is_numbered o x.number) (is.only x was (by ∙ sym same.1)) ∙ eq-eqb x.number x.number refl in absurd (cc)
              | inr apart ↦ apart.0
            ] in
            given id ∙ (ap (λ b. cond b (Some v.number) (numbers id)) differ ∙ (were id k).1 (x, was, of, by))
      ],
)
  where
    in_last : (xs : List StoredLease) (x : StoredLease) → Contains (xs ++ (x ∷ [])) x
    in_last [] x = first_member x x [] refl
    in_last (y ∷ ys) x = later_member y (ys ++ (x ∷ [])) x (in_last ys x)

    in_first : (xs : List StoredLease) (l x : StoredLease) → Contains xs x → Contains (xs ++ (l ∷ [])) x
    in_first [] l x h = absurd (omega (arith, h.1))
    in_first (y ∷ ys) l x h = elim (first_or_later y ys x h) [ inl same ↦ first_member y x (ys ++ (l ∷ [])) same | inr later ↦ later_member y (ys ++ (l ∷ [])) x (in_first ys l x later) ]

    passed : (which : Option ℕ) (xs : List StoredLease) (x : StoredLease) → Contains (without which xs) x → is_numbered which x.number ≡ false
    passed which xs x h = elim (is_numbered which x.number) as (λ b. is_numbered which x.number ≡ b → b ≡ false) [
      | true ↦ λ e.
          let live = live_without which xs x.number ∙ (ap (λ b. is_live (map as_lease xs) x.number && not b) e ∙ and_false (is_live (map as_lease xs) x.number)) in
          absurd (none_live x.number (without which xs) live x h refl)
      | false ↦ λ e. refl
    ] refl

-- the leases without a worker's own one are those of the others
pub of_others : (id : ℕ) (own : Option ℕ) (ls : List StoredLease) → ((l : StoredLease) → Contains ls l → l.id ≡ id → own ≡ Some l.number) → ((l : StoredLease) → Contains ls l → own ≡ Some l.number → l.id ≡ id)
    → without own ls ≡ filter (λ l. not (nat_eq l.id id)) ls
of_others id own [] only exact = refl
of_others id own (l ∷ ls) only exact =
    let rest = of_others id own ls (λ x h. only x (later_member l ls x h)) (λ x h. exact x (later_member l ls x h)) in
    let first = first_member l l ls refl in
    let same : is_numbered own l.number ≡ nat_eq l.id id = elim (eqb_tells l.id id) [
      | inl here ↦ ap (λ o. is_numbered o l.number) (only l first here.1) ∙ (eq-eqb l.number l.number refl ∙ sym here.0)
      | inr other ↦ elim (is_numbered own l.number) as (λ b. is_numbered own l.number ≡ b → b ≡ nat_eq l.id id) [ true ↦ λ e. absurd (other.1 (exact l first (own_number own l.number e))) | false ↦ λ e. sym other.0 ] refl
    ] in
    ap (λ b. cond (not b) (l ∷ without own ls) (without own ls)) same ∙ ap (λ xs. cond (not (nat_eq l.id id)) (l ∷ xs) xs) rest

-- by number and worker alone it is seen that numbers rise, and whose they are
unfoldable pub named : StoredLease → ℕ × ℕ
named l = (l.number, l.id)

pub same_rise : (ls new : List StoredLease) → map named new ≡ map named ls → RiseByNumber ls → RiseByNumber new
unfolding named
same_rise ls new same rise i j d less below =
    let lengths : length new ≡ length ls = sym (length-map new named) ∙ (ap length same ∙ length-map ls named) in
    let at : (k : ℕ) → k < length new → (get_or new k d).number ≡ (get_or ls k d).number = λ k within.
    ap (λ (p : ℕ × ℕ). p.0) (sym (get_or-map named new k d (named d) within) ∙ (ap (λ (xs : List (ℕ × ℕ)). get_or xs k (named d)) same ∙ get_or-map named ls k d (named d) (omega (arith, within, lengths)))) in
    let rising = rise i j d less (omega (arith, below, lengths)) in
    omega (arith, rising, at i (omega (arith, less, below)), at j below)

same_has : (ls new : List StoredLease) (id n : ℕ) → map named new ≡ map named ls → HasLease ls id n → HasLease new id n
unfolding named
same_has ls new id n same (l, member, number, by) =
    let (x, there, is) = unmapped named new (named l) (subst (λ (xs : List (ℕ × ℕ)). Contains xs (named l)) (sym same) (mapped named ls l member)) in
    (x, there, ap (λ (p : ℕ × ℕ). p.0) is ∙ number, ap (λ (p : ℕ × ℕ). p.1) is ∙ by)

pub same_workers : (numbers : ℕ → Option ℕ) (ls new : List StoredLease) → map named new ≡ map named ls → AreOfWorkers numbers ls → AreOfWorkers numbers new
same_workers numbers ls new same were id n = (λ h. same_has ls new id n same ((were id n).0 h), λ found. (were id n).1 (same_has new ls id n (sym same) found))

pub is_own : (id : ℕ) (own : Option ℕ) (ls : List StoredLease) (numbers : ℕ → Option ℕ) → RiseByNumber ls → AreOfWorkers numbers ls → own ≡ numbers id → IsOwn id own ls
is_own id own ls numbers rise were is = record {
  lives = elim own as (λ o. own ≡ o → IfSome o (λ n. is_live (map as_lease ls) n ≡ true)) [
    | None ↦ λ e. tt
    | Some n ↦ λ e.
        let (l, member, number, by) = (were id n).0 (sym is ∙ e) in
        subst (λ k. is_live (map as_lease ls) k ≡ true) number (member_lives ls l member)
  ] refl;
  only = λ l member same. is ∙ (were id l.number).1 (l, member, refl, same);
  exact = λ l member e.
      let (x, there, of, by) = (were id l.number).0 (sym is ∙ e) in
      ap (λ (l : StoredLease). l.id) (only_one ls l x rise member there (sym of)) ∙ by;
}

pub if_ok : {T E : Type 0} {P Q : Type 0} (r : Result T E) → (P → Q) → OnOk r P → OnOk r Q
if_ok (Ok x) f p = f p
if_ok (Err e) f p = tt

-- a number that is greater than all isn't a worker's
pub not_own : (id : ℕ) (own : Option ℕ) (n : ℕ) (ls : List StoredLease) → IsOwn id own ls → All (λ (l : StoredLease). l.number < n) ls → is_numbered own n ≡ false
not_own id None n ls is last = refl
not_own id (Some m) n ls is last =
    let l = found_live ls m is.lives in
    let less = All-contains (λ (l : StoredLease). l.number < n) ls l.0 last l.1 in
    let number = l.2 in
    elim (eqb_tells n m) [ inl same ↦ let e = same.1 in absurd (omega arith) | inr differ ↦ differ.0 ]

-- the tables of a lease that stands at a place are among the free ones
pub freed_one : (which : Option ℕ) (n : ℕ) (ls : List StoredLease) (i : ℕ) (v : StoredLease) (free : List Packed) → RiseByNumber ls → which ≡ Some n → StandsAt n ls i → v ≡ get_or ls i v
    → ((q : Packed) → Contains v.tables q → Contains free q) → AreAmongFree (λ l. is_numbered which l.number) ls free
freed_one which n ls i v free rise is at here all l t member ends h =
    let number : l.number ≡ n = eqb-true l.number n (ap (λ o. is_numbered o l.number) (sym is) ∙ ends) in
    let there : Contains ls v = (i, at.0, sym here) in
    let own : v.number ≡ n = ap (λ (l : StoredLease). l.number) here ∙ at.1 v in
    all t (subst (λ (l : StoredLease). Contains l.tables t) (only_one ls l v rise member there (number ∙ sym own)) h)

pub freed_none : (which : Option ℕ) (n : ℕ) (ls : List StoredLease) (free : List Packed) → which ≡ Some n → is_live (map as_lease ls) n ≡ false → AreAmongFree (λ l. is_numbered which l.number) ls free
freed_none which n ls free is none l t member ends h = absurd (none_live n ls none l member (eqb-true l.number n (ap (λ o. is_numbered o l.number) (sym is) ∙ ends)))

-- room under a number
pub room_one : (n : ℕ) (ls : List StoredLease) (w : StoredLease) → RiseByNumber ls → Contains ls w → w.number ≡ n → child_limit ≤ w.room → HasRoomForChildren n ls
room_one n ls w rise there own room l member number = subst (λ (l : StoredLease). child_limit ≤ l.room) (sym (only_one ls l w rise member there (number ∙ sym own))) room

pub room_none : (n : ℕ) (ls : List StoredLease) → is_live (map as_lease ls) n ≡ false → HasRoomForChildren n ls
room_none n ls none l member number = absurd (none_live n ls none l member number)

pub one_less : {a b : ℕ} → a + 1 ≡ b → b - 1 ≡ a
one_less {a} {b} e = omega (arith, e)
