-- Which tables are open at the start and once a record is taken, and what opened them.
use Rattle.std.proofs.Common.{◌≡◌, ℕ, [], ◌∷◌, Some, None, option_map, inl, inr, ◌↔◌, refl, sym, ap, subst, ◌≢◌, true, false, List, ◌++◌, Option, ◌⊎◌, ◌∙◌, append_assoc, append-nil, IfSome, IfNone, OnOk, Result, Ok, Err, zero, suc, ◌+◌, ◌<◌, ◌^◌, Bool, not, cond, length, arith, nat_eq}
use Rattle.std.specs.List.{All, Contains}
use Rattle.std.specs.BTreeMap.{BTreeMap, keys, is_at, insert_entry}
use Rattle.std.proofs.lemmas.List.Elements.{All-cons, All-nil, filter_passes}
use Rattle.std.specs.Prelude.{slice_get}
use Rattle.std.specs.Map.{lookup, remove_entry}
use Rattle.std.specs.Ordering.{is_eq, match_ordering}
use Rattle.std.specs.declared.cmp.Ordering.{Ordering}
use Rattle.std.specs.declared.cmp.Ordering.TheVariants.{Less, Equal, Greater}
use Rattle.std.proofs.lemmas.Bool.Decides.{Decides-eqb}
use Rattle.std.proofs.lemmas.Option.{slice_get_past, slice_get_within, get_or_from_slice_get}
use Rattle.machine_text.specs.Terms.{Packed, IsTable, entry_of, table_cmp}
use Rattle.law_tree.specs.Terms.{Halting, IsOpen, InOrder, Holdout, IsChildTable, InTableTree, Itself}
use Rattle.ledger.specs.Records.{HasScore, mark_in, mark_of, IsBoardOf, Contents, same_table, claim_in, mark_by, AreFitAfter, IsHeld, resolved}
use Rattle.ledger.specs.inside.Counting.{IsOpener, IsOpenMapOf, IsCounted, IsOpenMap, IsNewChild, HasUnrecorded, is_halting, says_halts, others, AreChildrenAt}
use Rattle.ledger.specs.inside.Trees.{IsIndexed}
use Rattle.ledger.proofs.Claims.{claim_none, same_is, same_itself, not_same, apart, claim_here, claim_past, claim_kept, claim_more, settled_here, settled_past, settled_claim, same_at, all_first, all_rest}
use Rattle.ledger.proofs.Sets.{only_one, listed_in_map, at_is}
use Rattle.kind_evidence.specs.declared.verdicts.Ending.{Ending}
use Rattle.kind_evidence.specs.declared.verdicts.Ending.TheVariants.{Halts, Never}
use Rattle.cert.specs.Terms.{Claim, Recorded, ending_by, HaltsOnPair, IsPairOf}
use Rattle.ledger.proofs.HeldLaws.{unmarked, AreApart}
use Rattle.ledger.specs.Tally.{HaltsAfter, IsHalting}
use Rattle.machine_text.specs.declared.table.Pair.{Pair}

-- What is kept of a board without records.
open_at_start : (root t : Packed) → (t ≡ root) ↔ IsOpen root (mark_in []) t
open_at_start root t = (
  λ e. record { unmarked = ap (option_map mark_of) (claim_none t); place = inl e },
  λ h. elim h.place [ inl e ↦ e | inr w ↦ let none = ap (option_map mark_of) (claim_none w.0) in let marked = w.2 in absurd (cc) ],
)

pub starts : (root : Packed) (tables : BTreeMap Packed ℕ) → tables.entries ≡ (root, 4294967295) ∷ [] → IsOpenMapOf tables root []
starts root tables is = record {
  exact = λ t. let only = only_one tables root 4294967295 is t in (λ h. (open_at_start root t).0 (only.0 h), λ h. only.1 ((open_at_start root t).1 h));
  openers = subst (All (λ (e : Packed × ℕ). IsOpener root [] e.0 e.1)) (sym is) (All-cons (λ (e : Packed × ℕ). IsOpener root [] e.0 e.1) (root, 4294967295) [] (inl (refl, refl)) (All-nil (λ (e : Packed × ℕ). IsOpener root [] e.0 e.1)));
}

none_halts : (t : Packed) (k : ℕ) → mark_in [] t ≡ Some (Halting k) → ⊥
none_halts t k halts = let none = ap (option_map mark_of) (claim_none t) in absurd (cc)

pub counted_none : IsCounted [] (record { halting = 0; never = 0; undecided = 0; best = None; ones = None })
counted_none = record { halting = refl; never = refl; undecided = refl; best = λ t k halts. none_halts t k halts; ones = λ t s has. none_halts t has.0 has.1 }

pub board_starts : (root : Packed) → IsTable root → (u : ℕ) × InOrder u (entry_of root) → IsBoardOf root []
board_starts root is_table in_order = record { is_table = is_table; in_order = in_order; held = record { fit = tt; scored = All-nil HasScore } }

pub indexed_none : (root : Packed) → IsIndexed root []
indexed_none root = record { parents = λ i e at. absurd (cc); counts = λ i e at. absurd (cc) }

-- The open tables as a list.
pub open_listed : (b : Contents) (tables : BTreeMap Packed ℕ) → IsOpenMap tables b → (t : Packed) → Contains (keys tables) t ↔ IsOpen b.root (mark_in b.records) t
open_listed b tables exact t = (λ h. (exact.exact t).0 ((listed_in_map tables t).1 h), λ h. (listed_in_map tables t).0 ((exact.exact t).1 h))

-- Which tables are open once a record is taken.

-- the records now say of one table what a record claims, of the others what they said; and no halting of it was recorded
pub record IsTaken (old new : List Recorded) (r : Recorded) : Type 0 where
  pub here : claim_in new r.table ≡ Some r.claim
  pub others : (t : Packed) → t ≢ r.table → claim_in new t ≡ claim_in old t
  pub before : (k : ℕ) → mark_in old r.table ≡ Some (Halting k) → ⊥

pub stopping_verdict : (o : Option Ending) (k : ℕ) → mark_by o ≡ Halting k → o ≡ Some (Halts k)
stopping_verdict None k e = cc
stopping_verdict (Some (Halts j)) k e = let same : j ≡ k = cc in ap (λ (n : ℕ). Some (Halts n)) same
stopping_verdict (Some Never) k e = cc

pub taken_new : (rs : List Recorded) (r : Recorded) → claim_in rs r.table ≡ None → IsTaken rs (rs ++ (r ∷ [])) r
taken_new rs r none = record {
  here = claim_more rs (r ∷ []) r.table none ∙ claim_here r [] r.table (same_itself r.table);
  others = λ t other. elim (claim_in rs t) as (λ o. claim_in rs t ≡ o → claim_in (rs ++ (r ∷ [])) t ≡ claim_in rs t) [
    | Some c ↦ λ is. claim_kept rs (r ∷ []) t c is ∙ sym is
    | None ↦ λ no. claim_more rs (r ∷ []) t no ∙ (claim_past r [] t (not_same r.table t (λ (e : r.table ≡ t). other (sym e))) ∙ (claim_none t ∙ sym no))
  ] refl;
  before = λ k is. let no = ap (option_map mark_of) none in cc;
}

same_after : (x : Recorded) (xs ys : List Recorded) (t : Packed) → claim_in xs t ≡ claim_in ys t → claim_in (x ∷ xs) t ≡ claim_in (x ∷ ys) t
same_after x xs ys t same =
    elim (same_table x.table t) as (λ v. same_table x.table t ≡ v → claim_in (x ∷ xs) t ≡ claim_in (x ∷ ys) t) [
      | true ↦ λ here. claim_here x xs t here ∙ sym (claim_here x ys t here)
      | false ↦ λ no. claim_past x xs t no ∙ (same ∙ sym (claim_past x ys t no))
    ] refl

pub settled_other : (rs : List Recorded) (r : Recorded) (t : Packed) → t ≢ r.table → claim_in (resolved rs r) t ≡ claim_in rs t
unfolding resolved
settled_other [] r t other = refl
settled_other (x ∷ xs) r t other =
    elim (same_table x.table r.table) as (λ v. same_table x.table r.table ≡ v → claim_in (resolved (x ∷ xs) r) t ≡ claim_in (x ∷ xs) t) [
      | true ↦ λ here.
          let past = not_same r.table t (λ (e : r.table ≡ t). other (sym e)) in
          let past_x = not_same x.table t (λ (e : x.table ≡ t). other (sym e ∙ same_is x.table r.table here)) in
          ap (λ (l : List Recorded). claim_in l t) (settled_here x xs r here) ∙ claim_past r xs t past ∙ sym (claim_past x xs t past_x)
      | false ↦ λ no. ap (λ (l : List Recorded). claim_in l t) (settled_past x xs r no) ∙ same_after x (resolved xs r) xs t (settled_other xs r t other)
    ] refl

pub taken_settled : (rs : List Recorded) (r : Recorded) (c : Claim) → claim_in rs r.table ≡ Some c → mark_of c ≡ Holdout → IsTaken rs (resolved rs r) r
taken_settled rs r c is holdout = record {
  here = settled_claim rs r c is;
  others = λ t other. settled_other rs r t other;
  before = λ k stopping. let marked = ap (option_map mark_of) is in cc;
}

-- then open are those that were, but for its table, and its new children
pub open_taken : (root : Packed) (old new : List Recorded) (r : Recorded) (t : Packed) → IsTaken old new r
    → IsOpen root (mark_in new) t ↔ ((IsOpen root (mark_in old) t × (t ≢ r.table)) ⊎ IsNewChild old r t)
open_taken root old new r t taken = (
  λ h.
      let none : claim_in new t ≡ None = unmarked (claim_in new t) h.unmarked in
      let other : t ≢ r.table = λ e. let here = subst (λ (p : Packed). claim_in new p ≡ Some r.claim) (sym e) taken.here in cc in
      let unrecorded : claim_in old t ≡ None = sym (taken.others t other) ∙ none in
      elim h.place [
        | inl e ↦ inl (record { unmarked = ap (option_map mark_of) unrecorded; place = inl e }, other)
        | inr w ↦ elim (same_table w.0 r.table) as (λ v. same_table w.0 r.table ≡ v → (IsOpen root (mark_in old) t × (t ≢ r.table)) ⊎ IsNewChild old r t) [
          | true ↦ λ same.
              let is : w.0 ≡ r.table = same_is w.0 r.table same in
              let claimed = ap (option_map mark_of) taken.here in
              let marked = subst (λ (p : Packed). mark_in new p ≡ Some (Halting w.1)) is w.2 in
              let stopping : mark_of r.claim ≡ Halting w.1 = cc in
              inr (record { count = w.1; halts = stopping_verdict (ending_by r.claim) w.1 stopping; child = subst (λ (p : Packed). IsChildTable p t) is w.3; unrecorded = unrecorded; other = other })
          | false ↦ λ apart_from.
              let kept = ap (option_map mark_of) (taken.others w.0 (apart w.0 r.table apart_from)) in
              inl (record { unmarked = ap (option_map mark_of) unrecorded; place = inr (w.0, w.1, sym kept ∙ w.2, w.3) }, other)
        ] refl
      ],
  λ h. elim h [
    | inl u ↦ record {
      unmarked = ap (option_map mark_of) (taken.others t u.1) ∙ u.0.unmarked;
      place = elim u.0.place [
        | inl e ↦ inl e
        | inr w ↦ inr (w.0, w.1, ap (option_map mark_of) (taken.others w.0 (λ (e : w.0 ≡ r.table). taken.before w.1 (subst (λ (p : Packed). mark_in old p ≡ Some (Halting w.1)) e w.2))) ∙ w.2, w.3)
      ];
    }
    | inr u ↦ record {
      unmarked = ap (option_map mark_of) (taken.others t u.other ∙ u.unrecorded);
      place = inr (r.table, u.count, ap (option_map mark_of) taken.here ∙ ap (λ (o : Option Ending). Some (mark_by o)) u.halts, u.child);
    }
  ],
)

tree_open : (root : Packed) (rs : List Recorded) (t : Packed)
    → ((r p t : Packed) → InTableTree r p → IsChildTable p t → InTableTree r t)
    → ((q : Packed) (d : Claim) → claim_in rs q ≡ Some d → InTableTree root q)
    → IsOpen root (mark_in rs) t → InTableTree root t
tree_open root rs t below before is_open = elim is_open.place [
  | inl e ↦ subst (InTableTree root) (sym e) Itself
  | inr w ↦ elim (claim_in rs w.0) as (λ o. claim_in rs w.0 ≡ o → InTableTree root t) [
    | Some d ↦ λ is. below root w.0 t (before w.0 d is) w.3
    | None ↦ λ none. let no = ap (option_map mark_of) none in let marked = w.2 in absurd (cc)
  ] refl
]

-- each table with a record, and each open one, stands in the tree of the root
tree_after : (root : Packed) (earlier rs : List Recorded) (t : Packed) (c : Claim)
    → ((r p t : Packed) → InTableTree r p → IsChildTable p t → InTableTree r t)
    → ((q : Packed) (d : Claim) → claim_in earlier q ≡ Some d → InTableTree root q)
    → AreFitAfter root earlier rs → claim_in (earlier ++ rs) t ≡ Some c → InTableTree root t
tree_after root earlier [] t c below before fit is = before t c (subst (λ (l : List Recorded). claim_in l t ≡ Some c) (append-nil earlier) is)
tree_after root earlier (x ∷ rs) t c below before fit is =
    let place = tree_open root earlier x.table below before fit.0.is_open in
    tree_after root (earlier ++ (x ∷ [])) rs t c below
    (λ q d claimed. elim (claim_in earlier q) as (λ o. claim_in earlier q ≡ o → InTableTree root q) [
      | Some e ↦ λ there. before q e there
      | None ↦ λ none. elim (same_table x.table q) as (λ v. same_table x.table q ≡ v → InTableTree root q) [
        | true ↦ λ same. subst (InTableTree root) (same_is x.table q same) place
        | false ↦ λ other. let nothing = claim_more earlier (x ∷ []) q none ∙ (claim_past x [] q other ∙ claim_none q) in absurd (cc)
      ] refl
    ] refl)
    fit.1 (subst (λ (l : List Recorded). claim_in l t ≡ Some c) (sym (append_assoc earlier (x ∷ []) rs)) is)

pub recorded_in_tree : (root : Packed) (rs : List Recorded) (t : Packed) (c : Claim)
    → ((r p t : Packed) → InTableTree r p → IsChildTable p t → InTableTree r t)
    → IsHeld root rs → claim_in rs t ≡ Some c → InTableTree root t
recorded_in_tree root rs t c below held is =
    tree_after root [] rs t c below (λ q d claimed. let none = claim_none q in absurd (cc)) held.fit is

pub open_in_tree : (root : Packed) (rs : List Recorded) (t : Packed)
    → ((r p t : Packed) → InTableTree r p → IsChildTable p t → InTableTree r t)
    → IsHeld root rs → IsOpen root (mark_in rs) t → InTableTree root t
open_in_tree root rs t below held is_open = tree_open root rs t below (λ q d claimed. recorded_in_tree root rs q d below held claimed) is_open

-- Which tables are opened by a record, and the pair that is known of a recorded table.

-- the unrecorded among the children are the new children
pub new_children : (rs : List Recorded) (r : Recorded) (k : ℕ) (found : List Packed) (q : Packed) (A C : Type 0) → ending_by r.claim ≡ Some (Halts k)
    → ((t : Packed) → Contains found t ↔ IsChildTable r.table t) → C ↔ (A ⊎ HasUnrecorded found rs r.table q) → C ↔ (A ⊎ IsNewChild rs r q)
new_children rs r k found q A C shown children more = (
  λ c. elim (more.0 c) [ inl a ↦ inl a | inr u ↦ inr (record { count = k; halts = shown; child = (children q).0 u.listed; unrecorded = u.unrecorded; other = u.other }) ],
  λ h. elim h [ inl a ↦ more.1 (inl a) | inr u ↦ more.1 (inr (record { listed = (children q).1 u.child; unrecorded = u.unrecorded; other = u.other })) ],
)

-- without a verdict that it halts there are none
pub no_children : (rs : List Recorded) (r : Recorded) (q : Packed) (A : Type 0) → ((k : ℕ) → ending_by r.claim ≡ Some (Halts k) → ⊥) → A ↔ (A ⊎ IsNewChild rs r q)
no_children rs r q A never = (λ a. inl a, λ h. elim h [ inl a ↦ a | inr u ↦ absurd (never u.count u.halts) ])

pub on_ok : {T E : Type 0} {P Q : Type 0} (r : Result T E) → (P → Q) → OnOk r P → OnOk r Q
on_ok (Ok t) f h = f h
on_ok (Err e) f h = tt

-- the pair that is known with a verdict
pub pair_halts : (o : Option Ending) (t : Packed) (pair : Pair) → IsPairOf o t (Some pair) → (k : ℕ) × (o ≡ Some (Halts k)) × HaltsOnPair t k pair
pair_halts None t pair h = cc
pair_halts (Some Never) t pair h = cc
pair_halts (Some (Halts k)) t pair h = (k, refl, h)

pub no_pair : (o : Option Ending) (t : Packed) (k : ℕ) → IsPairOf o t None → o ≡ Some (Halts k) → ⊥
no_pair None t k h is = cc
no_pair (Some Never) t k h is = cc
no_pair (Some (Halts j)) t k h is = h

-- what is known of the pair of a recorded table
pub pair_some : (rs : List Recorded) (t : Packed) (c : Claim) (o : Option Pair) → claim_in rs t ≡ Some c → IsPairOf (ending_by c) t o
    → IfSome o (λ (pair : Pair). (k : ℕ) × HaltsAfter rs k t × HaltsOnPair t k pair)
pair_some rs t c None claimed h = tt
pair_some rs t c (Some pair) claimed h =
    let w = pair_halts (ending_by c) t pair h in
    (w.0, ap (option_map mark_of) claimed ∙ ap (λ (o : Option Ending). Some (mark_by o)) w.1, w.2)

pub pair_none : (rs : List Recorded) (t : Packed) (c : Claim) (o : Option Pair) → claim_in rs t ≡ Some c → IsPairOf (ending_by c) t o
    → IfNone o (IsHalting rs t → ⊥)
pair_none rs t c (Some pair) claimed h = tt
pair_none rs t c None claimed h = λ halting.
    let marked = ap (option_map mark_of) (sym claimed) ∙ halting.1 in
    let mark : mark_of c ≡ Halting halting.0 = cc in
    no_pair (ending_by c) t halting.0 h (stopping_verdict (ending_by c) halting.0 mark)

pub unrecorded_pair : (rs : List Recorded) (t : Packed) → claim_in rs t ≡ None → IsHalting rs t → ⊥
unrecorded_pair rs t none halting = let marked = ap (option_map mark_of) (sym none) ∙ halting.1 in cc

-- The places of what opened the open tables.

-- a place that opened nothing
pub none_opened : (root : Packed) (rs : List Recorded) (place : ℕ) (es : List (Packed × ℕ)) → ((t : Packed) → IsOpener root rs t place → ⊥) → All (λ (e : Packed × ℕ). IsOpener root rs e.0 e.1) es → others place es ≡ es
none_opened root rs place [] never all = refl
none_opened root rs place (e ∷ es) never all =
    let rest = none_opened root rs place es never (all_rest (λ (x : Packed × ℕ). IsOpener root rs x.0 x.1) e es all) in
    elim (nat_eq e.1 place) as (λ v. nat_eq e.1 place ≡ v → others place (e ∷ es) ≡ e ∷ es) [
      | true ↦ λ same. absurd (never e.0 (subst (IsOpener root rs e.0) ((Decides-eqb e.1 place).0 same) (all_first (λ (x : Packed × ℕ). IsOpener root rs x.0 x.1) e es all)))
      | false ↦ λ other. rw other (ap (λ (l : List (Packed × ℕ)). e ∷ l) rest)
    ] refl

pub next_opens_none : (root : Packed) (rs : List Recorded) (t : Packed) (place : ℕ) → place ≡ length rs → place + 1 < 2 ^ 32 → IsOpener root rs t place → ⊥
next_opens_none root rs t place is small (inl top) = let last = top.1 in omega (arith, last, small)
next_opens_none root rs t place is small (inr w) = let past = slice_get_past rs place (omega (arith, is)) in let here = w.1 in absurd (cc)

pub holdout_opens_none : (root : Packed) (rs : List Recorded) (t : Packed) (place : ℕ) (r : Recorded) → slice_get rs place ≡ Some r → is_halting r ≡ false → place + 1 < 2 ^ 32 → IsOpener root rs t place → ⊥
holdout_opens_none root rs t place r at silent small (inl top) = let last = top.1 in omega (arith, last, small)
holdout_opens_none root rs t place r at silent small (inr w) =
    let here = w.1 in let same : r ≡ w.0 = cc in let halts = w.2 in let still = ap is_halting same in absurd (cc)

-- the opener of a table, as the map has it
pub opener_at : (root : Packed) (rs : List Recorded) (t : Packed) (place : ℕ) (es : List (Packed × ℕ)) → All (λ (e : Packed × ℕ). IsOpener root rs e.0 e.1) es → lookup (is_at (table_cmp t)) es ≡ Some place
    → IsOpener root rs t place
opener_at root rs t place [] all is = absurd (cc)
opener_at root rs t place (e ∷ es) all is =
    elim (is_at (table_cmp t) e.0) as (λ v. is_at (table_cmp t) e.0 ≡ v → cond v (Some e.1) (lookup (is_at (table_cmp t)) es) ≡ Some place → IsOpener root rs t place) [
      | true ↦ λ same found.
          let here : e.1 ≡ place = cc in
          subst (IsOpener root rs t) here (subst (λ (p : Packed). IsOpener root rs p e.1) (sym (at_is t e.0 same)) (all_first (λ (x : Packed × ℕ). IsOpener root rs x.0 x.1) e es all))
      | false ↦ λ other rest. opener_at root rs t place es (all_rest (λ (x : Packed × ℕ). IsOpener root rs x.0 x.1) e es all) rest
    ] refl is

-- with what one record opened
pub openers_after : (root : Packed) (rs new : List Recorded) (parent : Packed) (place : ℕ) (es old : List (Packed × ℕ)) → ((t : Packed) (i : ℕ) → IsOpener root rs t i → IsOpener root new t i)
    → All (λ (e : Packed × ℕ). IsOpener root rs e.0 e.1) old → others place es ≡ old → AreChildrenAt place parent es → ((t : Packed) → IsChildTable parent t → IsOpener root new t place)
    → All (λ (e : Packed × ℕ). IsOpener root new e.0 e.1) es
openers_after root rs new parent place es old grows all is children here = all_after es (subst (All (λ (e : Packed × ℕ). IsOpener root rs e.0 e.1)) (sym is) all) children
  where
    all_after : (es : List (Packed × ℕ)) → All (λ (e : Packed × ℕ). IsOpener root rs e.0 e.1) (others place es) → AreChildrenAt place parent es → All (λ (e : Packed × ℕ). IsOpener root new e.0 e.1) es
    all_after [] kept children = All-nil (λ (e : Packed × ℕ). IsOpener root new e.0 e.1)
    all_after (e ∷ es) kept children =
        let first = all_first (λ (x : Packed × ℕ). x.1 ≡ place → IsChildTable parent x.0) e es children in
        let later = all_rest (λ (x : Packed × ℕ). x.1 ≡ place → IsChildTable parent x.0) e es children in
        elim (nat_eq e.1 place) as (λ v. nat_eq e.1 place ≡ v → All (λ (x : Packed × ℕ). IsOpener root rs x.0 x.1) (cond (not v) (e ∷ others place es) (others place es)) → All (λ (x : Packed × ℕ). IsOpener root new x.0 x.1) (e ∷ es)) [
          | true ↦ λ same rest.
              let at : e.1 ≡ place = (Decides-eqb e.1 place).0 same in
              All-cons (λ (x : Packed × ℕ). IsOpener root new x.0 x.1) e es (subst (IsOpener root new e.0) (sym at) (here e.0 (first at))) (all_after es rest later)
          | false ↦ λ other rest. All-cons (λ (x : Packed × ℕ). IsOpener root new x.0 x.1) e es (grows e.0 e.1 (all_first (λ (x : Packed × ℕ). IsOpener root rs x.0 x.1) e (others place es) rest)) (all_after es (all_rest (λ (x : Packed × ℕ). IsOpener root rs x.0 x.1) e (others place es) rest) later)
        ] refl kept

pub openers_same : (root : Packed) (rs new : List Recorded) (es : List (Packed × ℕ)) → ((t : Packed) (i : ℕ) → IsOpener root rs t i → IsOpener root new t i) → All (λ (e : Packed × ℕ). IsOpener root rs e.0 e.1) es
    → All (λ (e : Packed × ℕ). IsOpener root new e.0 e.1) es
openers_same root rs new es grows all = λ k d below. grows _ _ (all k d below)

-- the children that are opened at a place, where none was before
pub none_at : (place : ℕ) (parent : Packed) (es : List (Packed × ℕ)) → others place es ≡ es → AreChildrenAt place parent es
none_at place parent es same = λ k d below at. absurd (differs _ (subst (All (λ (e : Packed × ℕ). not (nat_eq e.1 place) ≡ true)) same (filter_passes (λ (e : Packed × ℕ). not (nat_eq e.1 place)) es) k d below) at)
  where
    differs : (n : ℕ) → not (nat_eq n place) ≡ true → n ≡ place → ⊥
    differs n pass is = let itself = (Decides-eqb n place).1 is in absurd (cc)

children_by : (place : ℕ) (parent t : Packed) (e : Packed × ℕ) (es : List (Packed × ℕ)) (o : Ordering) → IsChildTable parent t
    → (AreChildrenAt place parent es → AreChildrenAt place parent (insert_entry table_cmp es t place)) → AreChildrenAt place parent (e ∷ es)
    → (o ≡ Equal → t ≡ e.0)
    → AreChildrenAt place parent (match_ordering o ((t, place) ∷ (e ∷ es)) ((e.0, place) ∷ es) (e ∷ insert_entry table_cmp es t place))
children_by place parent t e es Less child later all same = All-cons (λ (x : Packed × ℕ). x.1 ≡ place → IsChildTable parent x.0) (t, place) (e ∷ es) (λ at. child) all
children_by place parent t e es Equal child later all same = All-cons (λ (x : Packed × ℕ). x.1 ≡ place → IsChildTable parent x.0) (e.0, place) es (λ at. subst (IsChildTable parent) (same refl) child) (all_rest (λ (x : Packed × ℕ). x.1 ≡ place → IsChildTable parent x.0) e es all)
children_by place parent t e es Greater child later all same = All-cons (λ (x : Packed × ℕ). x.1 ≡ place → IsChildTable parent x.0) e (insert_entry table_cmp es t place)
    (all_first (λ (x : Packed × ℕ). x.1 ≡ place → IsChildTable parent x.0) e es all) (later (all_rest (λ (x : Packed × ℕ). x.1 ≡ place → IsChildTable parent x.0) e es all))

children_inserted : (place : ℕ) (parent t : Packed) (es : List (Packed × ℕ)) → IsChildTable parent t → AreChildrenAt place parent es → AreChildrenAt place parent (insert_entry table_cmp es t place)
children_inserted place parent t [] child all = All-cons (λ (x : Packed × ℕ). x.1 ≡ place → IsChildTable parent x.0) (t, place) [] (λ at. child) (All-nil (λ (x : Packed × ℕ). x.1 ≡ place → IsChildTable parent x.0))
children_inserted place parent t (e ∷ es) child all = children_by place parent t e es (table_cmp t e.0) child (children_inserted place parent t es child) all (λ is. at_is t e.0 (ap is_eq is))

pub children_more : (place : ℕ) (parent t : Packed) (old new : List (Packed × ℕ)) → IsChildTable parent t → AreChildrenAt place parent old → (new ≡ old) ⊎ (new ≡ insert_entry table_cmp old t place) → AreChildrenAt place parent new
children_more place parent t old new child all (inl same) = subst (AreChildrenAt place parent) (sym same) all
children_more place parent t old new child all (inr more) = subst (AreChildrenAt place parent) (sym more) (children_inserted place parent t old child all)

pub all_removed : {X Y : Type 0} (P : X × Y → Type 0) (test : X → Bool) (es : List (X × Y)) → All P es → All P (remove_entry test es)
all_removed P test [] all = all
all_removed {X} {Y} P test (e ∷ es) all =
    elim (test e.0) as (λ v. test e.0 ≡ v → All P (cond v es (e ∷ remove_entry test es))) [
      | true ↦ λ here. all_rest P e es all
      | false ↦ λ other. All-cons P e (remove_entry test es) (all_first P e es all) (all_removed P test es (all_rest P e es all))
    ] refl

-- places stay where records are put last
pub got_more : (rs ys : List Recorded) (i : ℕ) (x : Recorded) → slice_get rs i ≡ Some x → slice_get (rs ++ ys) i ≡ Some x
got_more [] ys i x at = absurd (cc)
got_more (r ∷ rs) ys zero x at = at
got_more (r ∷ rs) ys (suc i) x at = got_more rs ys i x at

pub got_last : (rs : List Recorded) (r : Recorded) → slice_get (rs ++ (r ∷ [])) (length rs) ≡ Some r
got_last [] r = refl
got_last (x ∷ rs) r = got_last rs r

pub grows_last : (root : Packed) (rs : List Recorded) (r : Recorded) (t : Packed) (i : ℕ) → IsOpener root rs t i → IsOpener root (rs ++ (r ∷ [])) t i
grows_last root rs r t i (inl top) = inl top
grows_last root rs r t i (inr w) = inr (w.0, got_more rs (r ∷ []) i w.0 w.1, w.2, w.3)

-- and where a holdout is resolved
pub got_settled : (rs : List Recorded) (r : Recorded) (c : Claim) (i : ℕ) (x : Recorded) → claim_in rs r.table ≡ Some c → says_halts (ending_by c) ≡ false → slice_get rs i ≡ Some x → is_halting x ≡ true
    → slice_get (resolved rs r) i ≡ Some x
got_settled [] r c i x is silent at halts = absurd (cc)
got_settled (y ∷ ys) r c zero x is silent at halts =
    elim (same_table y.table r.table) as (λ v. same_table y.table r.table ≡ v → slice_get (resolved (y ∷ ys) r) 0 ≡ Some x) [
      | true ↦ λ here.
          let claimed = claim_here y ys r.table here in
          let claim : y.claim ≡ c = cc in
          let same : y ≡ x = cc in
          let one = ap is_halting same in
          let two = ap (λ (d : Claim). says_halts (ending_by d)) claim in absurd (cc)
      | false ↦ λ other. ap (λ (l : List Recorded). slice_get l 0) (settled_past y ys r other) ∙ at
    ] refl
got_settled (y ∷ ys) r c (suc i) x is silent at halts =
    elim (same_table y.table r.table) as (λ v. same_table y.table r.table ≡ v → slice_get (resolved (y ∷ ys) r) (suc i) ≡ Some x) [
      | true ↦ λ here. ap (λ (l : List Recorded). slice_get l (suc i)) (settled_here y ys r here) ∙ at
      | false ↦ λ other. ap (λ (l : List Recorded). slice_get l (suc i)) (settled_past y ys r other) ∙ got_settled ys r c i x (sym (claim_past y ys r.table other) ∙ is) silent at halts
    ] refl

pub grows_settled : (root : Packed) (rs : List Recorded) (r : Recorded) (c : Claim) → claim_in rs r.table ≡ Some c → says_halts (ending_by c) ≡ false → (t : Packed) (i : ℕ) → IsOpener root rs t i → IsOpener root (resolved rs r) t i
grows_settled root rs r c is silent t i (inl top) = inl top
grows_settled root rs r c is silent t i (inr w) = inr (w.0, got_settled rs r c i w.0 is silent w.1 w.2, w.2, w.3)

-- where its own record stands then
not_member : (y : Recorded) (ys : List Recorded) (r x : Recorded) (i : ℕ) → AreApart (y ∷ ys) → slice_get ys i ≡ Some x → x.table ≡ r.table → same_table y.table r.table ≡ true → ⊥
not_member y ys r x i apart at table here =
    apart 0 (suc i) x (omega arith) (omega (arith, slice_get_within ys i x at)) (same_is y.table r.table here ∙ (sym table ∙ ap (λ (z : Recorded). z.table) (sym (get_or_from_slice_get ys i x x at))))

pub settled_slot : (rs : List Recorded) (r x : Recorded) (i : ℕ) → AreApart rs → slice_get rs i ≡ Some x → x.table ≡ r.table → slice_get (resolved rs r) i ≡ Some r
settled_slot [] r x i apart at table = absurd (cc)
settled_slot (y ∷ ys) r x zero apart at table =
    let same : y ≡ x = cc in
    ap (λ (l : List Recorded). slice_get l 0) (settled_here y ys r (same_at y.table r.table (ap (λ (z : Recorded). z.table) same ∙ table)))
settled_slot (y ∷ ys) r x (suc i) apart at table =
    elim (same_table y.table r.table) as (λ v. same_table y.table r.table ≡ v → slice_get (resolved (y ∷ ys) r) (suc i) ≡ Some r) [
      | true ↦ λ here. absurd (not_member y ys r x i apart at table here)
      | false ↦ λ other. ap (λ (l : List Recorded). slice_get l (suc i)) (settled_past y ys r other) ∙ settled_slot ys r x i (λ a b d less below. apart (suc a) (suc b) d (omega arith) (omega arith)) at table
    ] refl
