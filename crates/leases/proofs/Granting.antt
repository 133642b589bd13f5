-- What is seen, and what still holds, when leases end and a table comes under a new one.
use Rattle.std.proofs.Common.{nat_eq, ◌≡◌, ◌≢◌, ℕ, ◌<◌, ◌≤◌, Bool, true, false, cond, not, if◌then◌else◌, refl, sym, ◌∙◌, ap, subst, List, [], ◌∷◌, map, filter, length, Some, None, Contains, arith, ◌+◌, ◌||◌, ◌⊎◌, inl, inr, ◌++◌, All, Option, length-append, ◌&&◌}
use Rattle.std.proofs.lemmas.List.Elements.{All-filter, All-push, All-weaker, All-contains, All-nil, All-cons, All-head, All-tail, Contains-push_cases, filter_passes}
use Rattle.std.proofs.lemmas.List.Kept.{AllPairs-filter}
use Rattle.std.proofs.lemmas.Bool.{eq-eqb, eqb-true}
use Rattle.std.proofs.lemmas.Bool.Decides.{eqb_tells}
use Rattle.std.proofs.lemmas.List.{map-append}
use Rattle.std.proofs.lemmas.List.Quantifiers.{all_pairs_push}
use Rattle.std.proofs.lemmas.Option.{same_Some}
use Rattle.machine_text.specs.Terms.{Packed}
use Rattle.ledger.specs.Terms.{Contents, IsOpenOn, same_table}
use Rattle.leases.specs.Leases.{IsReply, Asks, Lease, Leases, Leased, AreLeases, is_live, came_under, while_live, ended, IsFree, Grants, IsFirstFree}
use Rattle.leases.specs.inside.{StoredLease, as_lease, as_leases, AreAmongFree, AreStored, ComesUnder, AreNotAhead, is_numbered, without, IsOwn}
use Rattle.leases.specs.declared.held_leases.Reply.{Reply}
use Rattle.leases.proofs.FreeLaws.{filter_member, in_filter, found_live, member_lives, KeepsAll, or_later}
use Rattle.ledger.proofs.HeldLaws.{first_member}
use Rattle.ledger.proofs.Claims.{same_is, same_at, not_same, apart}
use Rattle.leases.proofs.Moments.{granted_not_ahead, without_not_ahead}
use Rattle.leases.proofs.LiveLaws.{live_without, of_others}

-- Some leases end: what is seen then, and what still holds.

-- leases that are kept and filtered are seen so
pub filter_held : (p : Lease → Bool) (ls : List StoredLease) → map as_lease (filter (λ l. not (p (as_lease l))) ls) ≡ filter (λ l. not (p l)) (map as_lease ls)
filter_held p [] = refl
filter_held p (l ∷ ls) =
    elim (not (p (as_lease l))) as (λ b. map as_lease (cond b (l ∷ filter (λ (l : StoredLease). not (p (as_lease l))) ls) (filter (λ (l : StoredLease). not (p (as_lease l))) ls))
    ≡ cond b (as_lease l ∷ filter (λ (l : Lease). not (p l)) (map as_lease ls)) (filter (λ (l : Lease). not (p l)) (map as_lease ls))) [
      | true ↦ ap (λ xs. as_lease l ∷ xs) (filter_held p ls)
      | false ↦ filter_held p ls
    ]

pub seen_ended : (p : Lease → Bool) (ls kept : List StoredLease) (came : List (Packed × ℕ)) (moment given : ℕ) → kept ≡ filter (λ l. not (p (as_lease l))) ls
    → as_leases kept came moment given ≡ ended p (as_leases ls came moment given)
seen_ended p ls kept came moment given is = ap (λ live. record { live = live; came = came; moment = moment; given = given }) (ap (map as_lease) is ∙ filter_held p ls)

shorter : {X : Type 0} (p : X → Bool) (xs : List X) → length (filter p xs) ≤ length xs
shorter p [] = omega arith
shorter p (x ∷ xs) =
    let rest = shorter p xs in
    elim (p x) as (λ b. length (cond b (x ∷ filter p xs) (filter p xs)) ≤ length (x ∷ xs)) [ true ↦ omega arith | false ↦ omega arith ]

pub still_leases : (b : Contents) (p : Lease → Bool) (s : Leases) → AreLeases b s → AreLeases b (ended p s)
still_leases b p s are = record {
  most = let less = shorter (λ l. not (p l)) s.live in let most = are.most in omega arith;
  numbers = AllPairs-filter (λ (a b : Lease). a.number < b.number) (λ l. not (p l)) s.live are.numbers;
  ids = AllPairs-filter (λ (a b : Lease). a.id ≢ b.id) (λ l. not (p l)) s.live are.ids;
  given = All-filter (λ l. not (p l)) (λ (l : Lease). l.number ≤ s.given) s.live are.given;
  came_given = are.came_given;
  is_open = are.is_open;
}

none_then : (b : Bool) (n : ℕ) → b ≡ true → (if b then Some n else None) ≡ None → ⊥
none_then true n e none = cc
none_then false n e none = cc

pub still_stored : (b : Contents) (p : Lease → Bool) (ls kept : List StoredLease) (es : List (Packed × ℕ)) (free more : List Packed) → kept ≡ filter (λ l. not (p (as_lease l))) ls
    → KeepsAll free more → AreAmongFree p ls more → AreStored b ls es free → AreStored b kept es more
still_stored b p ls kept es free more is more_free freed was = record {
  listed = λ l t h. was.listed l t (filter_member (λ l. not (p (as_lease l))) ls l (subst (λ ls. Contains ls l) is h));
  freed = λ t is_open none. elim (came_under es t) as (λ o. came_under es t ≡ o → while_live (map as_lease kept) o ≡ None → Contains more t) [
    | None ↦ λ e none. more_free t (was.freed t is_open (ap (while_live (map as_lease ls)) e))
    | Some n ↦ λ e none. elim (is_live (map as_lease ls) n) as (λ v. is_live (map as_lease ls) n ≡ v → Contains more t) [
      | false ↦ λ dead. more_free t (was.freed t is_open (ap (while_live (map as_lease ls)) e ∙ ap (λ v. if v then Some n else None) dead))
      | true ↦ λ lived.
          let l = found_live ls n lived in
          elim (p (as_lease l.0)) as (λ v. p (as_lease l.0) ≡ v → Contains more t) [
            | true ↦ λ ends. freed l.0 t l.1 ends (was.listed l.0 t l.1 (e ∙ ap Some (sym l.2)))
            | false ↦ λ stays.
                let member : Contains kept l.0 = subst (λ ls. Contains ls l.0) (sym is) (in_filter (λ l. not (p (as_lease l))) ls l.0 l.1 (ap not stays)) in
                absurd (none_then (is_live (map as_lease kept) n) n (subst (λ k. is_live (map as_lease kept) k ≡ true) l.2 (member_lives kept l.0 member)) none)
          ] refl
    ] refl
  ] refl none;
}

-- what holds when leases end, where their tables are among the free ones
pub ended_holds : (b : Contents) (p : Lease → Bool) (first ls kept : List StoredLease) (before came : List (Packed × ℕ)) (free more : List Packed) (moment given : ℕ) → ls ≡ first → came ≡ before
    → kept ≡ filter (λ l. not (p (as_lease l))) ls → KeepsAll free more → AreAmongFree p ls more → AreLeases b (as_leases first before moment given) × AreStored b first before free
    → AreLeases b (as_leases kept came moment given) × AreStored b kept came more
ended_holds b p first ls kept before came free more moment given same_list same_came is more_free freed holds =
    let those = subst (λ (ls : List StoredLease). AreLeases b (as_leases ls came moment given) × AreStored b ls came free) (sym same_list)
    (subst (λ (came : List (Packed × ℕ)). AreLeases b (as_leases first came moment given) × AreStored b first came free) (sym same_came) holds) in (
      subst (AreLeases b) (sym (seen_ended p ls kept came moment given is)) (still_leases b p (as_leases ls came moment given) those.0),
      still_stored b p ls kept came free more is more_free freed those.1,
    )

-- what is answered once the worker's lease has ended is what is answered
pub asks_by : (old : Leased) (b : Contents) (id : ℕ) (first ls kept : List StoredLease) (before came : List (Packed × ℕ)) (moment given : ℕ) → ls ≡ first → came ≡ before
    → kept ≡ filter (λ l. not (nat_eq l.id id)) ls → (record { board = b; leases = as_leases first before moment given }) ≡ old
    → (reply : Reply) (new : Leases) → IsReply b id (as_leases kept came moment given) reply new → Asks old.board id old.leases reply new
asks_by old b id first ls kept before came moment given same_list same_came is view reply new answers =
    subst (λ (s : Leased). Asks s.board id s.leases reply new) view
    (subst (λ (s : Leases). IsReply b id s reply new)
    (seen_ended (λ l. nat_eq l.id id) ls kept came moment given is ∙ (ap (λ ls. ended (λ l. nat_eq l.id id) (as_leases ls came moment given)) same_list
    ∙ ap (λ came. ended (λ l. nat_eq l.id id) (as_leases first came moment given)) same_came)) answers)

-- A table comes under a new lease: what is seen then, and what still holds.

-- which leases live, with one more
live_more : (xs : List Lease) (y : Lease) (n : ℕ) → is_live (xs ++ (y ∷ [])) n ≡ (is_live xs n || nat_eq y.number n)
live_more [] y n = elim (nat_eq y.number n) as (λ b. (b || false) ≡ b) [ true ↦ refl | false ↦ refl ]
live_more (x ∷ xs) y n =
    elim (nat_eq x.number n) as (λ b. (b || is_live (xs ++ (y ∷ [])) n) ≡ ((b || is_live xs n) || nat_eq y.number n)) [ true ↦ refl | false ↦ live_more xs y n ]

or_none : (a b : Bool) → b ≡ false → (a || b) ≡ a
or_none true b e = refl
or_none false b e = e

other_number : (a n g : ℕ) → a ≡ g + 1 → n ≤ g → nat_eq a n ≡ false
other_number a n g is most = elim (eqb_tells a n) [ inl same ↦ let same_number = same.1 in absurd (omega arith) | inr differ ↦ differ.0 ]

-- a table came under the lease of a number, and each other one stays
pub came_here : (came next : List (Packed × ℕ)) (t : Packed) (n : ℕ) → ComesUnder came t n next → came_under next t ≡ Some n
came_here came next t n update = update t ∙ ap (λ v. cond v (Some n) (came_under came t)) (same_at t t refl)

pub came_other : (came next : List (Packed × ℕ)) (t : Packed) (n : ℕ) (q : Packed) → ComesUnder came t n next → (q ≡ t → ⊥) → came_under next q ≡ came_under came q
came_other came next t n q update other = update q ∙ ap (λ v. cond v (Some n) (came_under came q)) (not_same t q (λ e. other (sym e)))

-- what came under a lease is this table, or did before
pub came_cases : (came next : List (Packed × ℕ)) (t : Packed) (n k : ℕ) (q : Packed) → ComesUnder came t n next → came_under next q ≡ Some k → ((t ≡ q) × (n ≡ k)) ⊎ ((q ≡ t → ⊥) × (came_under came q ≡ Some k))
came_cases came next t n k q update h =
    elim (same_table t q) as (λ v. same_table t q ≡ v → came_under next q ≡ cond v (Some n) (came_under came q) → ((t ≡ q) × (n ≡ k)) ⊎ ((q ≡ t → ⊥) × (came_under came q ≡ Some k))) [
      | true ↦ λ e u. inl (same_is t q e, same_Some n k (sym u ∙ h))
      | false ↦ λ e u. inr (λ w. apart t q e (sym w), sym u ∙ h)
    ] refl (update q)

-- a number that was given stays as it reads, when a later number lives too
same_while : (xs : List Lease) (y : Lease) (g : ℕ) (o : Option ℕ) → y.number ≡ g + 1 → ((n : ℕ) → o ≡ Some n → n ≤ g) → while_live (xs ++ (y ∷ [])) o ≡ while_live xs o
same_while xs y g None number most = refl
same_while xs y g (Some n) number most =
    ap (λ v. if v then Some n else None) (live_more xs y n ∙ or_none (is_live xs n) (nat_eq y.number n) (other_number y.number n g number (most n refl)))

pub new_while : (xs : List Lease) (y : Lease) (n : ℕ) → y.number ≡ n → while_live (xs ++ (y ∷ [])) (Some n) ≡ Some n
new_while xs y n number = ap (λ v. if v then Some n else None) (live_more xs y n ∙ or_later (is_live xs n) (nat_eq y.number n) (eq-eqb y.number n number))

pub grants : (b : Contents) (ls : List StoredLease) (came next : List (Packed × ℕ)) (moment g : ℕ) (l : StoredLease) (t : Packed) → AreLeases b (as_leases ls came moment g)
    → l.number ≡ g + 1 → l.renewed ≡ moment → ComesUnder came t (g + 1) next → Grants l.id t (as_leases ls came moment g) (as_leases (ls ++ (l ∷ [])) next moment (g + 1))
grants b ls came next moment g l t are number renewed update = record {
  live = map-append as_lease ls (l ∷ []) ∙ ap (λ (x : Lease). map as_lease ls ++ (x ∷ [])) (ap (λ n. record { number = n; id = l.id; deadline = l.renewed + 60 }) number ∙ ap (λ n. record { number = g + 1; id = l.id; deadline = n + 60 }) renewed);
  here = ap (λ live. while_live live (came_under next t)) (map-append as_lease ls (l ∷ [])) ∙ ap (while_live (map as_lease ls ++ (as_lease l ∷ []))) (came_here came next t (g + 1) update) ∙ new_while (map as_lease ls) (as_lease l) (g + 1) number;
  others = λ q other. ap (λ live. while_live live (came_under next q)) (map-append as_lease ls (l ∷ [])) ∙ ap (while_live (map as_lease ls ++ (as_lease l ∷ []))) (came_other came next t (g + 1) q update other)
      ∙ same_while (map as_lease ls) (as_lease l) g (came_under came q) number (are.came_given q);
  moment = refl;
  given = refl;
}

-- no other lease is of the worker whose lease has ended
no_other : (id : ℕ) (xs : List Lease) → All (λ (x : Lease). x.id ≢ id) (filter (λ x. not (nat_eq x.id id)) xs)
no_other id xs = All-weaker (λ (x : Lease). not (nat_eq x.id id) ≡ true) (λ (x : Lease). x.id ≢ id) (λ x passes same. let e = eq-eqb x.id id same in let not_it : not (nat_eq x.id id) ≡ false = ap not e in absurd (cc))
    (filter (λ x. not (nat_eq x.id id)) xs) (filter_passes (λ x. not (nat_eq x.id id)) xs)

pub granted_leases : (b : Contents) (ls : List StoredLease) (came next : List (Packed × ℕ)) (moment g : ℕ) (l : StoredLease) (t : Packed) (xs : List Lease) → AreLeases b (as_leases ls came moment g)
    → map as_lease ls ≡ filter (λ x. not (nat_eq x.id l.id)) xs → length (map as_lease ls) < 4096 → l.number ≡ g + 1 → IsOpenOn b t → ComesUnder came t (g + 1) next
    → AreLeases b (as_leases (ls ++ (l ∷ [])) next moment (g + 1))
granted_leases b ls came next moment g l t xs are ended room number is_open update =
    let live : map as_lease (ls ++ (l ∷ [])) ≡ map as_lease ls ++ (as_lease l ∷ []) = map-append as_lease ls (l ∷ []) in
    subst (λ (live : List Lease). AreLeases b (record { live = live; came = next; moment = moment; given = g + 1 })) (sym live) (record {
      most = omega (arith, length-append (map as_lease ls) (as_lease l ∷ []));
      numbers = all_pairs_push (λ (a b : Lease). a.number < b.number) (map as_lease ls) (as_lease l) are.numbers
          (All-weaker (λ (x : Lease). x.number ≤ g) (λ (x : Lease). x.number < l.number) (λ x most. omega arith) (map as_lease ls) are.given);
      ids = all_pairs_push (λ (a b : Lease). a.id ≢ b.id) (map as_lease ls) (as_lease l) are.ids (subst (All (λ (x : Lease). x.id ≢ l.id)) (sym ended) (no_other l.id xs));
      given = All-push (λ (x : Lease). x.number ≤ g + 1) (map as_lease ls) (as_lease l) (All-weaker (λ (x : Lease). x.number ≤ g) (λ (x : Lease). x.number ≤ g + 1) (λ x most. omega arith) (map as_lease ls) are.given) (omega arith);
      came_given = λ q n h. elim (came_cases came next t (g + 1) n q update h) [
        | inl this ↦ let number_is = this.1 in omega arith
        | inr before ↦ let most = are.came_given q n before.1 in omega arith
      ];
      is_open = λ q n h. elim (came_cases came next t (g + 1) n q update h) [
        | inl this ↦ subst (IsOpenOn b) this.0 is_open
        | inr before ↦ are.is_open q n before.1
      ];
    })

pub given_all : (g : ℕ) (ls : List StoredLease) → All (λ (x : Lease). x.number ≤ g) (map as_lease ls) → All (λ (x : StoredLease). x.number ≤ g) ls
given_all g [] all = All-nil (λ (x : StoredLease). x.number ≤ g)
given_all g (l ∷ ls) all = All-cons (λ (x : StoredLease). x.number ≤ g) l ls (All-head (λ (x : Lease). x.number ≤ g) (as_lease l) (map as_lease ls) all) (given_all g ls (All-tail (λ (x : Lease). x.number ≤ g) (as_lease l) (map as_lease ls) all))

pub granted_stored : (b : Contents) (ls : List StoredLease) (came next : List (Packed × ℕ)) (moment g : ℕ) (l : StoredLease) (t : Packed) (free rest : List Packed) → AreLeases b (as_leases ls came moment g)
    → AreStored b ls came free → l.number ≡ g + 1 → l.tables ≡ t ∷ [] → ComesUnder came t (g + 1) next → ((q : Packed) → IsFree b (as_leases ls came 0 0) q → (q ≡ t → ⊥) → Contains rest q)
    → AreStored b (ls ++ (l ∷ [])) next rest
granted_stored b ls came next moment g l t free rest are kept number tables update others =
    let live : map as_lease (ls ++ (l ∷ [])) ≡ map as_lease ls ++ (as_lease l ∷ []) = map-append as_lease ls (l ∷ []) in record {
      listed = λ x q member h. elim (came_cases came next t (g + 1) x.number q update h) [
        | inl this ↦ elim (Contains-push_cases ls l x member) [
          | inl earlier ↦
              let most : x.number ≤ g = All-contains (λ (x : StoredLease). x.number ≤ g) ls x (given_all g ls are.given) earlier in
              let number_is = this.1 in
              absurd (omega arith)
          | inr same ↦ subst (λ (x : StoredLease). Contains x.tables q) same (rw tables (first_member t q [] this.0))
        ]
        | inr before ↦ elim (Contains-push_cases ls l x member) [
          | inl earlier ↦ kept.listed x q earlier before.1
          | inr same ↦
              let most = are.came_given q x.number before.1 in
              let number_is : l.number ≡ x.number = ap (λ (x : StoredLease). x.number) same in
              absurd (omega arith)
        ]
      ];
      freed = λ q is_open none.
          let other : q ≡ t → ⊥ = λ same.
          let here = ap (λ live. while_live live (came_under next t)) live ∙ ap (while_live (map as_lease ls ++ (as_lease l ∷ []))) (came_here came next t (g + 1) update) ∙ new_while (map as_lease ls) (as_lease l) (g + 1) number in
          let gone = subst (λ (q : Packed). while_live (map as_lease (ls ++ (l ∷ []))) (came_under next q) ≡ None) same none in
          absurd (cc) in
          let was = sym (same_while (map as_lease ls) (as_lease l) g (came_under came q) number (are.came_given q)) ∙ (ap (while_live (map as_lease ls ++ (as_lease l ∷ []))) (sym (came_other came next t (g + 1) q update other))
          ∙ (ap (λ live. while_live live (came_under next q)) (sym live) ∙ none)) in
          others q (is_open, was) other;
    }

-- A worker asks: its own lease ends, and what still holds then.
pub own_ends : (id : ℕ) (own : Option ℕ) (ls kept : List StoredLease) → IsOwn id own ls → kept ≡ without own ls → kept ≡ filter (λ l. not (nat_eq l.id id)) ls
own_ends id own ls kept is e = e ∙ of_others id own ls is.only is.exact

own_freed : (id : ℕ) (own : Option ℕ) (ls : List StoredLease) (free : List Packed) → IsOwn id own ls → AreAmongFree (λ l. is_numbered own l.number) ls free → AreAmongFree (λ l. nat_eq l.id id) ls free
own_freed id own ls free is freed l t member ends h =
    freed l t member (ap (λ o. is_numbered o l.number) (is.only l member (eqb-true l.id id ends)) ∙ eq-eqb l.number l.number refl) h

-- what holds once a worker's own lease has ended
pub own_ended : (b : Contents) (id : ℕ) (own : Option ℕ) (ls kept : List StoredLease) (before came : List (Packed × ℕ)) (free more : List Packed) (moment given : ℕ) → IsOwn id own ls → kept ≡ without own ls → came ≡ before
    → KeepsAll free more → AreAmongFree (λ l. is_numbered own l.number) ls more → AreLeases b (as_leases ls before moment given) × AreStored b ls before free
    → AreLeases b (as_leases kept came moment given) × AreStored b kept came more
own_ended b id own ls kept before came free more moment given is e same_came more_free freed holds =
    ended_holds b (λ l. nat_eq l.id id) ls ls kept before came free more moment given refl same_came (own_ends id own ls kept is e) more_free (own_freed id own ls more is freed) holds

none_if : (a : Bool) (n : ℕ) → (if a then Some n else None) ≡ None → a ≡ false
none_if true n e = absurd (cc)
none_if false n e = refl

still_none : (which : Option ℕ) (ls : List StoredLease) (o : Option ℕ) → while_live (map as_lease ls) o ≡ None → while_live (map as_lease (without which ls)) o ≡ None
still_none which ls None e = refl
still_none which ls (Some n) e =
    ap (λ b. if b then Some n else None) (live_without which ls n ∙ ap (λ b. b && not (is_numbered which n)) (none_if (is_live (map as_lease ls) n) n e))

-- where memory is refused, the free tables that are left are enough
pub refused_holds : (b : Contents) (own : Option ℕ) (first ls : List StoredLease) (before came : List (Packed × ℕ)) (free rest : List Packed) (moment given : ℕ) → ls ≡ first → came ≡ before
    → ((q : Packed) → IsFree b (as_leases (without own first) before 0 0) q → Contains rest q) → AreLeases b (as_leases first before moment given) × AreStored b first before free
    → AreLeases b (as_leases ls came moment given) × AreStored b ls came rest
refused_holds b own first ls before came free rest moment given same same_came left holds =
    subst (λ (ls : List StoredLease). AreLeases b (as_leases ls came moment given) × AreStored b ls came rest) (sym same)
    (subst (λ (came : List (Packed × ℕ)). AreLeases b (as_leases first came moment given) × AreStored b first came rest) (sym same_came) (
      holds.0,
      record { listed = holds.1.listed; freed = λ t is_open none. left t (is_open, still_none own first (came_under before t) none) },
    ))

pub below_next : (b : Contents) (ls : List StoredLease) (came : List (Packed × ℕ)) (moment given : ℕ) → AreLeases b (as_leases ls came moment given) → All (λ (l : StoredLease). l.number < given + 1) ls
below_next b ls came moment given are = All-weaker (λ (l : StoredLease). l.number ≤ given) (λ (l : StoredLease). l.number < given + 1) (λ l most. omega arith) ls (given_all given ls are.given)

-- the same leases at another moment
pub at_moment : (b : Contents) (ls : List StoredLease) (came : List (Packed × ℕ)) (moment other given : ℕ) → AreLeases b (as_leases ls came moment given) → AreLeases b (as_leases ls came other given)
at_moment b ls came moment other given are = record { most = are.most; numbers = are.numbers; ids = are.ids; given = are.given; came_given = are.came_given; is_open = are.is_open }

-- what each board of the code keeps of its leases
abbrev IsKept : Contents → List StoredLease → List (Packed × ℕ) → List Packed → ℕ → ℕ → Type 0
IsKept b ls came free moment given = (AreLeases b (as_leases ls came moment given) × AreStored b ls came free) × AreNotAhead moment ls

-- a worker asks whose own lease, if it has one, is among these, and whose tables are among more free ones than before
module _ (b : Contents) (id : ℕ) (own : Option ℕ) (ls : List StoredLease) (before : List (Packed × ℕ)) (free more : List Packed) (moment given : ℕ) (is : IsOwn id own ls) (more_free : KeepsAll free more)
    (freed : AreAmongFree (λ l. is_numbered own l.number) ls more) (kept : IsKept b ls before free moment given) where
  pub others_hold : (came : List (Packed × ℕ)) → came ≡ before → AreLeases b (as_leases (without own ls) came moment given) × AreStored b (without own ls) came more
  others_hold came same = own_ended b id own ls (without own ls) before came free more moment given is refl same more_free freed kept.0

  -- it gets none
  pub ended_kept : (others : List StoredLease) → others ≡ without own ls → IsKept b others before more moment given
  ended_kept others e = (own_ended b id own ls others before before free more moment given is e refl more_free freed kept.0, without_not_ahead own moment ls others e kept.1)

  -- since there is none
  pub none_kept : (others : List StoredLease) (rest : List Packed) → others ≡ without own ls → ((q : Packed) → IsFree b (as_leases (without own ls) before 0 0) q → ⊥) → IsKept b others before rest moment given
  none_kept others rest e none =
      let ended = ended_kept others e in
      let left = subst (λ (live : List StoredLease). (q : Packed) → IsFree b (as_leases live before 0 0) q → ⊥) (sym e) none in
      ((ended.0.0, record { listed = ended.0.1.listed; freed = λ t is_open free. absurd (left t (is_open, free)) }), ended.1)

  -- a table comes under its next one
  module _ (came next : List (Packed × ℕ)) (l : StoredLease) (t : Packed) (new : List StoredLease) (same : came ≡ before) (number : l.number ≡ given + 1) (asks : l.id ≡ id) (now : l.renewed ≡ moment)
      (update : ComesUnder came t (given + 1) next) (last : new ≡ without own ls ++ (l ∷ [])) where
    pub granted_kept : (left rest : List Packed) → length (map as_lease (without own ls)) < 4096 → IsOpenOn b t → l.tables ≡ t ∷ [] → ((q : Packed) → IsFree b (as_leases (without own ls) before 0 0) q → Contains left q)
        → ((q : Packed) → Contains left q → (q ≡ t → ⊥) → Contains rest q) → IsKept b new next rest moment (given + 1)
    granted_kept left rest room is_open tables found dropped =
        let hold = others_hold came same in
        let ended = ap (map as_lease) (own_ends id own ls (without own ls) is refl) ∙ filter_held (λ (x : Lease). nat_eq x.id id) ls in
        let found_now = subst (λ (c : List (Packed × ℕ)). (q : Packed) → IsFree b (as_leases (without own ls) c 0 0) q → Contains left q) (sym same) found in (
          subst (λ (items : List StoredLease). AreLeases b (as_leases items next moment (given + 1)) × AreStored b items next rest) (sym last) (
            granted_leases b (without own ls) came next moment given l t (map as_lease ls) hold.0
                (subst (λ (n : ℕ). map as_lease (without own ls) ≡ filter (λ x. not (nat_eq x.id n)) (map as_lease ls)) (sym asks) ended) room number is_open update,
            granted_stored b (without own ls) came next moment given l t more rest hold.0 hold.1 number tables update (λ q free other. dropped q (found_now q free) other),
          ),
          granted_not_ahead own moment ls new l last now kept.1,
        )

    pub granted : IsFirstFree b (as_leases (without own ls) before 0 0) t
        → IsFirstFree b (as_leases (without own ls) came 0 0) t × Grants id t (as_leases (without own ls) came moment given) (as_leases new next moment (given + 1))
    granted first = (
      subst (λ (c : List (Packed × ℕ)). IsFirstFree b (as_leases (without own ls) c 0 0) t) (sym same) first,
      subst (λ (items : List StoredLease). Grants id t (as_leases (without own ls) came moment given) (as_leases items next moment (given + 1))) (sym last)
          (subst (λ (n : ℕ). Grants n t (as_leases (without own ls) came moment given) (as_leases (without own ls ++ (l ∷ [])) next moment (given + 1))) asks
          (grants b (without own ls) came next moment given l t (others_hold came same).0 number now update)),
    )
