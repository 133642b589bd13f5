-- What a guard keeps to, whatever line comes, and what it made of the lines of a piece.
use Rattle.std.proofs.Common.{arith, ◌≡◌, ◌∙◌, refl, sym, subst, ap, inl, inr, ℕ, ◌<◌, ◌≤◌, zero, suc, Bool, true, false, cond, List, [], ◌∷◌, ◌++◌, length, length-append, map, set, get_or, append-nil, append_assoc}
use Rattle.std.specs.Prelude.{◌⊎◌, Option, Some, None, nat_lt, remove, Ok}
use Rattle.std.specs.List.{All, Any, Contains}
use Rattle.std.proofs.lemmas.Bool.Decides.{nat_tests}
use Rattle.std.proofs.lemmas.List.{length-set, get_or-set_same}
use Rattle.std.proofs.lemmas.List.Quantifiers.{Any-push}
use Rattle.std.proofs.lemmas.List.Elements.{All-cons, All-contains, All-contains_itself, All-head, All-push, All-set, All-tail, All-weaker, Contains-get_or}
use Rattle.wire.specs.declared.node.Out.{Out}
use Rattle.wire.specs.Terms.{Reply, Happening, Came, grown, event_of, events_of, frame_of, Answering, Fulfilled, Scene, cut_by, fulfilled, kept_text, scene, sent_by}
use Rattle.peers.specs.declared.guard.Dismissal.{Dismissal}
use Rattle.peers.specs.declared.guard.Passage.{Passage}
use Rattle.peers.specs.declared.guard.Passage.TheVariants.{Whole, Ask, GiveBack, Later, Holdout, Nothing}
use Rattle.peers.specs.Limits.{peer_lease_limit}
use Rattle.peers.specs.Guard.{ArePassed, AskerState, GuardState, Guards, HandsLine, IsAsk, IsHanded, IsHonest, IsKnownThen, IsOwnOf, IsReturn, IsToldThen, IsToldBy, Knows, PassesLine, asked_id, granted, later_frame}
use Rattle.peers.specs.Passing.{Forgets, IsPlaceFor, IsPassage, Remembers, Tells, asker_at, gone_back, handed_line, heard_out, nobody, or_none, put_at}
use Rattle.text.specs.Terms.{BoundedLine}
use Rattle.peers.specs.declared.guarded.Guarded.{Guarded}
use Rattle.peers.specs.Peers.{Through, PeerState}
use Rattle.peers.specs.Served.{Served, Hears, AnswersWhereThere, let_go}
use Rattle.peers.specs.declared.guard.Dismissed.{Dismissed}

-- What a guard keeps to, whatever line comes.

-- 1. What the node is handed

is_handed : (takes : Bool) (guard : GuardState) (line : List ℕ) (p : Passage) → IsPassage takes guard line p
    → IsHanded guard.dismissal takes guard line (handed_line guard line p)
is_handed takes guard line Whole (none, decides, unasked) = subst (λ (d : Option Dismissal). IsHanded d takes guard line line) (sym none) (inl (refl, decides))
is_handed takes guard line (Ask id place wait) (none, decides, asked, room) =
    subst (λ (d : Option Dismissal). IsHanded d takes guard line line) (sym none) (inl (refl, decides))
is_handed takes guard line (GiveBack place) (none, ask, dishonest, within, (frame, has)) =
    let there = Contains-get_or guard.askers place nobody within in
    let own : (asker_at guard place).returning ≡ Some (or_none (asker_at guard place).returning) = has ∙ ap (λ (r : Option (List ℕ)). Some (or_none r)) (sym has) in
    subst (λ (d : Option Dismissal). IsHanded d takes guard line (or_none (asker_at guard place).returning)) (sym none)
    (inr (dishonest, inr (there.0, asker_at guard place, there.1, there.2, own)))
is_handed takes guard line Later (none, ask, dishonest) = subst (λ (d : Option Dismissal). IsHanded d takes guard line []) (sym none) (inr (dishonest, inl refl))
is_handed takes guard line Holdout (none, untaken, is) =
    subst (λ (d : Option Dismissal). IsHanded d takes guard line []) (sym none)
    (inr (λ honest. (let e : true ≡ false = sym is ∙ honest.decides untaken in cc), inl refl))
is_handed takes guard line Nothing (why, is) = subst (λ (d : Option Dismissal). IsHanded d takes guard line []) (sym is) refl

-- 2. Which leases it knows then

same_known : (guard : GuardState) (line frame told : List ℕ) → Knows guard line frame told guard.askers
same_known guard line frame told =
    (All-weaker (Contains guard.askers) (IsKnownThen guard line frame told) (λ asker is. inl is) guard.askers (All-contains_itself guard.askers), λ few. few)

all_removed : {X : Type 0} (P : X → Type 0) (xs : List X) (k : ℕ) → All P xs → All P (remove xs k)
all_removed P [] zero all = all
all_removed P [] (suc k) all = all
all_removed P (x ∷ xs) zero all = All-tail P x xs all
all_removed P (x ∷ xs) (suc k) all = All-cons P x (remove xs k) (All-head P x xs all) (all_removed P xs k (All-tail P x xs all))

fewer : {X : Type 0} (xs : List X) (k : ℕ) → length (remove xs k) ≤ length xs
fewer [] zero = omega arith
fewer [] (suc k) = omega arith
fewer (x ∷ xs) zero = omega arith
fewer (x ∷ xs) (suc k) = omega (arith, fewer xs k)

less_known : (guard : GuardState) (line frame told : List ℕ) (place : ℕ) → Knows guard line frame told (remove guard.askers place)
less_known guard line frame told place =
    (all_removed (IsKnownThen guard line frame told) guard.askers place (same_known guard line frame told).0, λ few. omega (arith, fewer guard.askers place))

all_put : (P : AskerState → Type 0) (place : ℕ) (asker : AskerState) (askers : List AskerState) → P asker → All P askers → All P (put_at place asker askers)
all_put P place asker askers is all = by_test (nat_lt place (length askers))
  where
    by_test : (b : Bool) → All P (cond b (set askers place asker) (askers ++ (asker ∷ [])))
    by_test true = All-set P askers place asker is all
    by_test false = All-push P askers asker all is

few_put : (place : ℕ) (asker : AskerState) (askers : List AskerState) → (place < length askers) ⊎ (length askers < peer_lease_limit)
    → length askers ≤ peer_lease_limit → length (put_at place asker askers) ≤ peer_lease_limit
few_put place asker askers room few = by_test (nat_lt place (length askers)) refl
  where
    by_test : (b : Bool) → nat_lt place (length askers) ≡ b → length (cond b (set askers place asker) (askers ++ (asker ∷ []))) ≤ peer_lease_limit
    by_test true below = let same = length-set askers place asker in omega arith
    by_test false past =
        let more = length-append askers (asker ∷ []) in
        elim room [
          | inl below ↦ absurd (let none : ⊥ = grind (arith, nat_tests) in none)
          | inr few ↦ omega arith
        ]

-- 3. What the peer is told

line_answered : (takes : Bool) (guard : GuardState) (line : List ℕ) (out : Out) (told : List ℕ) (askers : List AskerState) (new : GuardState)
    → told ≡ out.frames.items → Knows guard line line told askers
    → ((lease : List ℕ) → IsAsk line → granted told ≡ Some lease → IsReturn askers lease) → new ≡ heard_out out (record guard { askers = askers })
    → IsToldThen takes guard line line out told new
line_answered takes guard line out told askers new is knows keeps after =
    subst (λ (n : GuardState). IsToldThen takes guard line line out told n) (sym after) (inl (refl, is, knows, keeps, refl))

-- no lease is granted to who doesn't ask
ungranted : (line told : List ℕ) (askers : List AskerState) → asked_id line ≡ None → (lease : List ℕ) → IsAsk line → granted told ≡ Some lease
    → IsReturn askers lease
ungranted line told askers unasked lease (id, asked) grants = absurd (let e : None ≡ Some id = sym unasked ∙ asked in cc)

return_put : (place : ℕ) (asker : AskerState) (askers : List AskerState) (lease : List ℕ) → (place < length askers) ⊎ (length askers < peer_lease_limit)
    → asker.returning ≡ Some lease → IsReturn (put_at place asker askers) lease
return_put place asker askers lease room has = by_test (nat_lt place (length askers)) refl
  where
    by_test : (b : Bool) → nat_lt place (length askers) ≡ b → IsReturn (cond b (set askers place asker) (askers ++ (asker ∷ []))) lease
    by_test true below =
        let within : place < length askers = grind (arith, nat_tests) in
        let same = length-set askers place asker in
        let at = Contains-get_or (set askers place asker) place asker (omega arith) in
        let is : get_or (set askers place asker) place asker ≡ asker = get_or-set_same askers place asker asker within in
        let there = subst (Contains (set askers place asker)) is at in
        (there.0, asker, there.1, there.2, has)
    by_test false past = Any-push (λ (a : AskerState). a.returning ≡ Some lease) askers asker has

forgotten : (takes : Bool) (guard : GuardState) (line : List ℕ) (out : Out) (told : List ℕ) (at new : GuardState)
    → asked_id line ≡ None → told ≡ out.frames.items → Forgets guard at → new ≡ heard_out out at → IsToldThen takes guard line line out told new
forgotten takes guard line out told at new unasked is (inl same) after =
    line_answered takes guard line out told guard.askers new is (same_known guard line line told) (ungranted line told guard.askers unasked) (after ∙ ap (heard_out out) same)
forgotten takes guard line out told at new unasked is (inr (place, less)) after =
    line_answered takes guard line out told (remove guard.askers place) new is (less_known guard line line told place)
    (ungranted line told (remove guard.askers place) unasked) (after ∙ ap (heard_out out) less)

remembered : (takes : Bool) (guard : GuardState) (line : List ℕ) (id place : ℕ) (out : Out) (told : List ℕ) (at new : GuardState)
    → asked_id line ≡ Some id → IsPlaceFor guard place → told ≡ out.frames.items → Remembers id place out.frames.items guard at → new ≡ heard_out out at
    → IsToldThen takes guard line line out told new
remembered takes guard line id place out told at new asked room is (inl (none, same)) after =
    line_answered takes guard line out told guard.askers new is (same_known guard line line told)
    (λ lease ask grants. absurd (let e : None ≡ Some lease = sym none ∙ ap granted (sym is) ∙ grants in cc)) (after ∙ ap (heard_out out) same)
remembered takes guard line id place out told at new asked room is (inr (lease, grants, more)) after =
    let asker : AskerState = record { id = id; returning = Some lease; records = guard.records } in
    let grants0 : granted told ≡ Some lease = ap granted is ∙ grants in
    let known : IsKnownThen guard line line told asker = inr (inr (asked, refl, (lease, refl, ap granted is ∙ grants))) in
    line_answered takes guard line out told (put_at place asker guard.askers) new is (
      all_put (IsKnownThen guard line line told) place asker guard.askers known (same_known guard line line told).0,
      few_put place asker guard.askers room,
    )
    (λ other ask grants. return_put place asker guard.askers other room (sym grants0 ∙ grants)) (after ∙ ap (heard_out out) more)

put_off : (takes : Bool) (guard : GuardState) (line frame : List ℕ) (out : Out) (told : List ℕ) (askers : List AskerState) (new : GuardState)
    → (IsHonest takes guard line → ⊥) → told ≡ later_frame → Knows guard line frame told askers → new ≡ record guard { askers = askers }
    → IsToldThen takes guard line frame out told new
put_off takes guard line frame out told askers new dishonest is knows after =
    subst (λ (n : GuardState). IsToldThen takes guard line frame out told n) (sym after) (inr (inl (dishonest, (is, knows, refl))))

is_told : (takes : Bool) (guard : GuardState) (line : List ℕ) (p : Passage) (out : Out) (told : List ℕ) (new : GuardState) → IsPassage takes guard line p
    → Tells p guard out told new → IsToldBy guard.dismissal takes guard line (handed_line guard line p) out told new
is_told takes guard line Whole out told new (none, decides, unasked) (is, (at, forgets, after)) =
    subst (λ (d : Option Dismissal). IsToldBy d takes guard line line out told new) (sym none) (forgotten takes guard line out told at new unasked is forgets after)
is_told takes guard line (Ask id place wait) out told new (none, decides, asked, room) (inl (is, (at, remembers, after))) =
    subst (λ (d : Option Dismissal). IsToldBy d takes guard line line out told new) (sym none)
    (remembered takes guard line id place out told at new asked room is remembers after)
is_told takes guard line (Ask id place wait) out told new (none, decides, asked, room) (inr lacks) =
    subst (λ (d : Option Dismissal). IsToldBy d takes guard line line out told new) (sym none) (inr (inr (inr ((id, asked), lacks))))
is_told takes guard line (GiveBack place) out told new (none, ask, dishonest, within, (frame, has)) (inl (is, after)) =
    let asker = asker_at guard place in
    let back = or_none asker.returning in
    let own : asker.returning ≡ Some back = has ∙ ap (λ (r : Option (List ℕ)). Some (or_none r)) (sym has) in
    let known : IsKnownThen guard line back told (gone_back asker) = inr (inl (asker, Contains-get_or guard.askers place nobody within, own, refl)) in
    let same = length-set guard.askers place (gone_back asker) in
    subst (λ (d : Option Dismissal). IsToldBy d takes guard line back out told new) (sym none)
    (put_off takes guard line back out told (set guard.askers place (gone_back asker)) new dishonest is (
      All-set (IsKnownThen guard line back told) guard.askers place (gone_back asker) known (same_known guard line back told).0,
      λ few. omega arith,
    )
    after)
is_told takes guard line (GiveBack place) out told new (none, ask, dishonest, within, has) (inr lacks) =
    subst (λ (d : Option Dismissal). IsToldBy d takes guard line (or_none (asker_at guard place).returning) out told new) (sym none) (inr (inr (inr (ask, lacks))))
is_told takes guard line Later out told new (none, ask, dishonest) (inl (is, after)) =
    subst (λ (d : Option Dismissal). IsToldBy d takes guard line [] out told new) (sym none)
    (put_off takes guard line [] out told guard.askers new dishonest is (same_known guard line [] told) after)
is_told takes guard line Later out told new (none, ask, dishonest) (inr lacks) =
    subst (λ (d : Option Dismissal). IsToldBy d takes guard line [] out told new) (sym none) (inr (inr (inr (ask, lacks))))
is_told takes guard line Holdout out told new (none, untaken, is) (silent, after) =
    subst (λ (d : Option Dismissal). IsToldBy d takes guard line [] out told new) (sym none) (inr (inr (inl (untaken, is, (silent, after)))))
is_told takes guard line Nothing out told new (why, is) tells = subst (λ (d : Option Dismissal). IsToldBy d takes guard line [] out told new) (sym is) tells

-- a line passes as the code decides and tells
pub line_passes : (takes : Bool) (guard : GuardState) (line : List ℕ) (p : Passage) (out said : Out) (new : GuardState) → IsPassage takes guard line p
    → Tells p guard out said.frames.items new → said.cut ≡ out.cut → said.append.items ≡ out.append.items
    → PassesLine takes guard line (handed_line guard line p) out said new
line_passes takes guard line p out said new is tells cut append = record {
  handed = is_handed takes guard line p is;
  told = is_told takes guard line p out said.frames.items new is tells;
  cut = cut;
  append = append;
}

-- 4. One line after another

some_same : {X : Type 0} (x y : X) → Some x ≡ Some y → x ≡ y
some_same x y e = cc

let_through : (d : Option Dismissal) (takes : Bool) (guard : GuardState) (line frame : List ℕ) → IsHanded d takes guard line frame
    → (frame ≡ line) ⊎ (frame ≡ []) ⊎ IsReturn guard.askers frame
let_through (Some why) takes guard line frame is = inr (inl is)
let_through None takes guard line frame (inl is) = inl is.0
let_through None takes guard line frame (inr (dishonest, other)) = inr other

own_known : (guard : GuardState) (line frame told : List ℕ) (askers : List AskerState) (lease : List ℕ) → Knows guard line frame told askers
    → IsReturn askers lease → IsReturn guard.askers lease ⊎ (granted told ≡ Some lease)
own_known guard line frame told askers lease (all, few) (place, asker, within, at, has) =
    elim (All-contains (IsKnownThen guard line frame told) askers asker all (place, within, at)) [
      | inl before ↦ inl (before.0, asker, before.1, before.2, has)
      | inr (inl back) ↦ absurd (let e : None ≡ Some lease = sym (ap (λ (a : AskerState). a.returning) back.3) ∙ has in cc)
      | inr (inr new) ↦ inr (new.2.2 ∙ sym new.2.1 ∙ has)
    ]

own_told : (d : Option Dismissal) (takes : Bool) (guard : GuardState) (line frame : List ℕ) (out : Out) (told : List ℕ) (new : GuardState) (lease : List ℕ)
    → IsToldBy d takes guard line frame out told new → IsReturn new.askers lease → IsReturn guard.askers lease ⊎ (granted told ≡ Some lease)
own_told (Some why) takes guard line frame out told new lease (silent, same) is = inl (subst (λ (g : GuardState). IsReturn g.askers lease) same is)
own_told None takes guard line frame out told new lease (inl (whole, told_is, knows, keeps, after)) is = own_known guard line frame told new.askers lease knows is
own_told None takes guard line frame out told new lease (inr (inl (dishonest, (later, knows, after)))) is =
    own_known guard line frame told new.askers lease knows is
own_told None takes guard line frame out told new lease (inr (inr (inl (untaken, holdout, (silent, after))))) is =
    inl (subst (λ (g : GuardState). IsReturn g.askers lease) after is)
own_told None takes guard line frame out told new lease (inr (inr (inr (ask, (silent, after))))) is =
    inl (subst (λ (g : GuardState). IsReturn g.askers lease) after is)

few_told : (d : Option Dismissal) (takes : Bool) (guard : GuardState) (line frame : List ℕ) (out : Out) (told : List ℕ) (new : GuardState)
    → IsToldBy d takes guard line frame out told new → length guard.askers ≤ peer_lease_limit → length new.askers ≤ peer_lease_limit
few_told (Some why) takes guard line frame out told new (silent, same) few =
    subst (λ (g : GuardState). length g.askers ≤ peer_lease_limit) (sym same) few
few_told None takes guard line frame out told new (inl (whole, told_is, knows, keeps, after)) few = knows.1 few
few_told None takes guard line frame out told new (inr (inl (dishonest, (later, knows, after)))) few = knows.1 few
few_told None takes guard line frame out told new (inr (inr (inl (untaken, holdout, (silent, after))))) few =
    subst (λ (g : GuardState). length g.askers ≤ peer_lease_limit) (sym after) few
few_told None takes guard line frame out told new (inr (inr (inr (ask, (silent, after))))) few =
    subst (λ (g : GuardState). length g.askers ≤ peer_lease_limit) (sym after) few

any_first : {X : Type 0} (P : X → Type 0) (x : X) (xs : List X) → P x → Any P (x ∷ xs)
any_first P x xs is = (0, x, omega arith, refl, is)

any_later : {X : Type 0} (P : X → Type 0) (x : X) (xs : List X) → Any P xs → Any P (x ∷ xs)
any_later P x xs (k, y, within, at, is) = (suc k, y, omega arith, at, is)

-- what is the peer's own after a line was so before, or was granted by what it was told
own_before : (takes : Bool) (guard : GuardState) (reply handed : Reply) (at : GuardState) (replies : List Reply) (lease : List ℕ)
    → HandsLine takes guard reply handed at → IsOwnOf at replies lease → IsOwnOf guard (reply ∷ replies) lease
own_before takes guard reply handed at replies lease (line, frame, came, goes, passes) (inl is) =
    elim (own_told guard.dismissal takes guard line frame handed.out reply.out.frames.items at lease passes.told is) [
      | inl before ↦ inl before
      | inr grants ↦ inr (any_first (λ (r : Reply). granted r.out.frames.items ≡ Some lease) reply replies grants)
    ]
own_before takes guard reply handed at replies lease passes (inr later) =
    inr (any_later (λ (r : Reply). granted r.out.frames.items ≡ Some lease) reply replies later)

passed_more : (Own More : List ℕ → Type 0) → ((frame : List ℕ) → Own frame → More frame) → (lines handed : List Happening) → ArePassed Own lines handed
    → ArePassed More lines handed
passed_more Own More more [] [] is = tt
passed_more Own More more [] (next ∷ others) is = is
passed_more Own More more (line ∷ lines) [] is = is
passed_more Own More more (line ∷ lines) (next ∷ others) (inl same, are) = (inl same, passed_more Own More more lines others are)
passed_more Own More more (line ∷ lines) (next ∷ others) (inr (inl none), are) = (inr (inl none), passed_more Own More more lines others are)
passed_more Own More more (line ∷ lines) (next ∷ others) (inr (inr (frame, own, is)), are) =
    (inr (inr (frame, more frame own, is)), passed_more Own More more lines others are)

pub passes_on : (takes : Bool) (guard new : GuardState) (replies handed : List Reply) → Guards takes guard replies handed new
    → ArePassed (IsOwnOf guard replies) (map (λ (r : Reply). r.to) replies) (map (λ (r : Reply). r.to) handed)
passes_on takes guard new [] [] e = tt
passes_on takes guard new [] (next ∷ others) none = none
passes_on takes guard new (reply ∷ replies) [] none = none
passes_on takes guard new (reply ∷ replies) (next ∷ others) (at, (line, frame, came, goes, passes), guards) = (
  elim (let_through guard.dismissal takes guard line frame passes.handed) [
    | inl same ↦ inl (goes ∙ ap Came same ∙ sym came)
    | inr (inl none) ↦ inr (inl (goes ∙ ap Came none))
    | inr (inr own) ↦ inr (inr (frame, inl own, goes))
  ],
  passed_more (IsOwnOf at replies) (IsOwnOf guard (reply ∷ replies))
      (λ lease is. own_before takes guard reply next at replies lease (line, frame, came, goes, passes) is) (map (λ (r : Reply). r.to) replies)
      (map (λ (r : Reply). r.to) others) (passes_on takes at new replies others guards),
)

pub own_leases : (takes : Bool) (guard new : GuardState) (replies handed : List Reply) (lease : List ℕ) → Guards takes guard replies handed new
    → IsReturn new.askers lease → IsOwnOf guard replies lease
own_leases takes guard new [] [] lease e is = inl (subst (λ (g : GuardState). IsReturn g.askers lease) e is)
own_leases takes guard new [] (next ∷ others) lease none is = absurd none
own_leases takes guard new (reply ∷ replies) [] lease none is = absurd none
own_leases takes guard new (reply ∷ replies) (next ∷ others) lease (at, passes, guards) is =
    own_before takes guard reply next at replies lease passes (own_leases takes at new replies others lease guards is)

pub stay_few : (takes : Bool) (guard new : GuardState) (replies handed : List Reply) → Guards takes guard replies handed new
    → length guard.askers ≤ peer_lease_limit → length new.askers ≤ peer_lease_limit
stay_few takes guard new [] [] e few = subst (λ (g : GuardState). length g.askers ≤ peer_lease_limit) (sym e) few
stay_few takes guard new [] (next ∷ others) none few = absurd none
stay_few takes guard new (reply ∷ replies) [] none few = absurd none
stay_few takes guard new (reply ∷ replies) (next ∷ others) (at, (line, frame, came, goes, passes), guards) few =
    stay_few takes at new replies others guards (few_told guard.dismissal takes guard line frame next.out reply.out.frames.items at passes.told few)

-- A piece that was taken whole: what the guard made of its lines, one after another.

-- what is told has the ledger's part of the answer
kept_same : (out said : Out) (text : Option (List ℕ)) → said.cut ≡ out.cut → said.append.items ≡ out.append.items
    → kept_text said text ≡ kept_text out text
kept_same out said None cut append = refl
kept_same out said (Some text) cut append =
    ap (λ (c : Option ℕ). Some (cut_by c text ++ said.append.items)) cut ∙ ap (λ (l : List ℕ). Some (cut_by out.cut text ++ l)) append

-- the lines of a peer that were fulfilled through its guard
record Unguarded {N : Type 0} (answers : Answering N) (old : Scene (Guarded N)) (replies : List Reply) (new : Scene (Guarded N)) : Type 0 where
  handed : List Reply
  guarded : Guards old.node.conduct.takes_holdouts old.node.guard replies handed new.node.guard
  whole : Fulfilled answers (scene old.node.node old.text None) handed (scene new.node.node new.text None)
  conduct : new.node.conduct ≡ old.node.conduct

head_same : {X : Type 0} (x y : X) (xs ys : List X) → x ∷ xs ≡ y ∷ ys → x ≡ y
head_same x y xs ys e = cc

tail_same : {X : Type 0} (x y : X) (xs ys : List X) → x ∷ xs ≡ y ∷ ys → xs ≡ ys
tail_same x y xs ys e = cc

unguarded : {N : Type 0} (answers : Answering N) (lines : List BoundedLine) (old : Scene (Guarded N)) (replies : List Reply) (new : Scene (Guarded N))
    → events_of lines ≡ map (λ (reply : Reply). reply.to) replies → Fulfilled (Through answers) old replies new → Unguarded answers old replies new
unguarded {N} answers lines old [] new order e = record {
  handed = [];
  guarded = ap (λ (s : Scene (Guarded N)). s.node.guard) e;
  whole = ap (λ (s : Scene (Guarded N)). scene s.node.node s.text None) e;
  conduct = ap (λ (s : Scene (Guarded N)). s.node.conduct) e;
}
unguarded answers [] old (reply ∷ replies) new order fulfils = absurd (cc)
unguarded {N} answers (line ∷ lines) old (reply ∷ replies) new order (node, answer, others) =
    let to : event_of line ≡ reply.to = head_same _ _ _ _ order in
    let (frame, out, answered, passes, conduct) = subst (λ (h : Happening). Through answers old.node h (Ok reply.out) node) (sym to) answer in
    let more = unguarded answers lines (fulfilled reply.out node old) replies new (tail_same _ _ _ _ order) others in
    let kept = kept_same out reply.out old.text passes.cut passes.append in
    record {
      handed = record { to = Came frame; out = out } ∷ more.handed;
      guarded = (
        node.guard,
        (frame_of line, frame, sym to, refl, passes),
        subst (λ (takes : Bool). Guards takes node.guard replies more.handed new.node.guard) (ap (λ c. c.takes_holdouts) conduct) more.guarded,
      );
      whole = (
        node.node,
        answered,
        subst (λ (text : Option (List ℕ)). Fulfilled answers (scene node.node text None) more.handed (scene new.node.node new.text None)) kept more.whole,
      );
      conduct = more.conduct ∙ conduct;
    }

grown_twice : (sent : Option (List ℕ)) (xs ys : List ℕ) → grown (grown sent xs) ys ≡ grown sent (xs ++ ys)
grown_twice (Some sent) xs ys = ap Some (append_assoc sent xs ys)
grown_twice None xs ys = refl

grown_none : (sent : Option (List ℕ)) → grown sent [] ≡ sent
grown_none (Some sent) = ap Some (append-nil sent)
grown_none None = refl

-- what answers that are fulfilled send: their frames
fulfilled_sent : {N : Type 0} (answers : Answering N) (old : Scene N) (replies : List Reply) (new : Scene N)
    → Fulfilled answers old replies new → new.sent ≡ grown old.sent (sent_by replies)
fulfilled_sent answers old [] new e = ap (λ s. s.sent) e ∙ sym (grown_none old.sent)
fulfilled_sent answers old (reply ∷ replies) new (node, given, others) =
    fulfilled_sent answers _ replies new others ∙ grown_twice old.sent reply.out.frames.items (sent_by replies)

same_content : {X : Type 0} (x y : X) → Some x ≡ Some y → x ≡ y
same_content x y e = cc

-- each of its lines was answered
pub heard_whole : {N : Type 0} (answers : Answering N) (is_stopped : N → Type 0) (old : Served N) (before : Option PeerState) (piece : List ℕ)
    (done : Unit {0}) (new : Served N) (after : Option PeerState)
    → Hears answers is_stopped old.node old.text before piece (Ok done) new.node new.text after
    → (replies : List Reply) × (handed : List Reply) × AnswersWhereThere answers old before piece replies handed new after
heard_whole answers is_stopped old None piece done new after (e, node, text, gone) = ([], [], (refl, refl, node, text, gone))
heard_whole answers is_stopped old (Some peer) piece done new after (next, e, (handed, lines)) =
    let order = handed.order ∙ append-nil (map (λ (reply : Reply). reply.to) handed.replies) in
    let through = unguarded answers _ _ handed.replies _ order handed.whole in (
      handed.replies,
      through.handed,
      (
        next,
        e,
        record {
          asked = order;
          guarded = through.guarded;
          whole = through.whole;
          due = same_content _ _ (fulfilled_sent (Through answers) _ handed.replies _ handed.whole);
          lines = lines;
          conduct = through.conduct;
        },
      ),
    )

-- Who is let go.
pub let_go_same : (place : ℕ) (was was' now now' : Option Dismissal) (last last' : Option Dismissed) → was ≡ was' → now ≡ now' → last ≡ last'
    → let_go place was now last ≡ let_go place was' now' last'
let_go_same place was was' now now' last last' a b c =
    ap (λ (w : Option Dismissal). let_go place w now last) a ∙ ap (λ (n : Option Dismissal). let_go place was' n last) b
    ∙ ap (λ (l : Option Dismissed). let_go place was' now' l) c
