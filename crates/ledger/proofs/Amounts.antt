-- How many tables are of a kind, and the greatest numbers, once a record is taken.
use Rattle.std.proofs.Common.{◌≡◌, ◌≢◌, ℕ, ◌+◌, ◌-◌, ◌≤◌, true, false, not, cond, List, [], ◌∷◌, ◌++◌, suc, length, Option, Some, None, inl, inr, ◌⊎◌, ◌↔◌, refl, sym, ◌∙◌, subst, arith, length-append, option_map, map, ap, IfSome}
use Rattle.std.specs.List.{Contains, All, AllPairs, filter}
use Rattle.std.proofs.lemmas.List.Elements.{All-contains, Contains-append_left, Contains-append_right, Contains-append_cases}
use Rattle.std.proofs.lemmas.List.Kept.{AllPairs-cons, AllPairs-filter}
use Rattle.std.proofs.lemmas.Bool.Decides.{Decides-eqb}
use Rattle.std.proofs.lemmas.Option.{same_Some, none-some}
use Rattle.law_turing.proofs.Listed.{length-le_of_members}
use Rattle.machine_text.specs.Terms.{Packed, entry_of}
use Rattle.ledger.specs.Records.{same_table, mark_in, mark_of, mark_by, HasScore}
use Rattle.ledger.specs.Tally.{AreSoMany, HasOnes, IsGreatestOnes}
use Rattle.ledger.specs.inside.Counting.{greater, is_ones_champion, is_steps, steps_of}
use Rattle.ledger.proofs.HeldLaws.{first_or_later, later_member, first_member, all_members, AreApart}
use Rattle.ledger.proofs.Numbers.{greater_none, greater_some, kind_listed, marked_member, member_marked}
use Rattle.ledger.proofs.Claims.{same_is, same_itself, apart}
use Rattle.ledger.proofs.Sets.{nobody}
use Rattle.law_turing.specs.Terms.{score_at}
use Rattle.kind_evidence.specs.declared.verdicts.Ending.{Ending}
use Rattle.kind_evidence.specs.declared.verdicts.Ending.TheVariants.{Halts}
use Rattle.law_tree.specs.Terms.{Halting}
use Rattle.cert.specs.Terms.{Claim, HaltsClaim, NeverClaim, NoClaim, Recorded, ending_by, score_by, IsWithin, Stands, scored, IsCertified}
use Rattle.ledger.proofs.OpenLaws.{IsTaken, stopping_verdict}
use Rattle.law_turing.proofs.RunLaws.{score_within}
use Rattle.run.specs.Terms.{late_step_limit}
use Rattle.run.proofs.HaltingClaims.{in_reach}
use Rattle.ledger.specs.inside.Kept.{IsSmall}

-- How many tables are of a kind, once one is less and others are more; and the greatest number of those that tables have.

-- tables of one kind are no more than those of another that has them all, and as many where the kinds are the same
pub no_more : (K L : Packed → Type 0) (a b : ℕ) → ((t : Packed) → K t → L t) → AreSoMany K a → AreSoMany L b → a ≤ b
no_more K L a b to x y =
    let most = length-le_of_members y.tables x.tables (all_members (Contains y.tables) x.tables (λ t at. (y.exact t).1 (to t ((x.exact t).0 at)))) x.once in
    omega (arith, most, x.is, y.is)

pub as_many : (K L : Packed → Type 0) (a b : ℕ) → ((t : Packed) → K t ↔ L t) → AreSoMany K a → AreSoMany L b → a ≡ b
as_many K L a b same x y =
    let low = no_more K L a b (λ t. (same t).0) x y in
    let high = no_more L K b a (λ t. (same t).1) y x in
    omega (arith, low, high)

-- a kind said otherwise
pub many_same : (K L : Packed → Type 0) (n : ℕ) → ((t : Packed) → K t ↔ L t) → AreSoMany K n → AreSoMany L n
many_same K L n same many = record { tables = many.tables; exact = λ t. (λ at. (same t).0 ((many.exact t).0 at), λ l. (many.exact t).1 ((same t).1 l)); once = many.once; is = many.is }

-- the members of a list that differ from a table
others_of : Packed → List Packed → List Packed
others_of t xs = filter (λ x. not (same_table x t)) xs

other_member : (t : Packed) (xs : List Packed) (q : Packed) → Contains (others_of t xs) q ↔ (Contains xs q × (q ≢ t))
unfolding others_of
other_member t [] q = (λ at. absurd (nobody at), λ h. absurd (nobody h.0))
other_member t (x ∷ xs) q =
    let rest = other_member t xs q in
    elim (same_table x t) as (λ v. same_table x t ≡ v → Contains (cond (not v) (x ∷ others_of t xs) (others_of t xs)) q ↔ (Contains (x ∷ xs) q × (q ≢ t))) [
      | true ↦ λ here. (
        λ at. let h = rest.0 at in (later_member x xs q h.0, h.1),
        λ h. elim (first_or_later x xs q h.0) [ inl first ↦ absurd (h.1 (sym first ∙ same_is x t here)) | inr later ↦ rest.1 (later, h.1) ],
      )
      | false ↦ λ other. (
        λ at. elim (first_or_later x (others_of t xs) q at) [
          | inl first ↦ (first_member x q xs first, λ (e : q ≡ t). apart_from x t other (first ∙ e))
          | inr later ↦ let h = rest.0 later in (later_member x xs q h.0, h.1)
        ],
        λ h. elim (first_or_later x xs q h.0) [ inl first ↦ first_member x q (others_of t xs) first | inr later ↦ later_member x (others_of t xs) q (rest.1 (later, h.1)) ],
      )
    ] refl
  where
    apart_from : (a b : Packed) → same_table a b ≡ false → a ≡ b → ⊥
    apart_from a b other same = let itself = same_itself b in let moved = subst (λ (p : Packed). same_table p b ≡ false) same other in absurd (cc)

-- two kinds that are apart, together
apart_append : (xs ys : List Packed) → AllPairs (λ a b. a ≢ b) xs → AllPairs (λ a b. a ≢ b) ys → ((q : Packed) → Contains xs q → Contains ys q → ⊥) → AllPairs (λ a b. a ≢ b) (xs ++ ys)
apart_append [] ys once also apart = also
apart_append (x ∷ xs) ys once also apart = AllPairs-cons (λ (a b : Packed). a ≢ b) x (xs ++ ys)
    (all_members (λ y. x ≢ y) (xs ++ ys) (λ y at. elim (Contains-append_cases xs ys y at) [
      | inl left ↦ All-contains (λ z. x ≢ z) xs y (first_apart x xs once) left
      | inr right ↦ λ (e : x ≡ y). apart y (first_member x y xs e) right
    ]))
    (apart_append xs ys (λ i j d less below. once (suc i) (suc j) d (omega arith) (omega arith)) also (λ q left right. apart q (later_member x xs q left) right))
  where
    first_apart : (x : Packed) (xs : List Packed) → AllPairs (λ a b. a ≢ b) (x ∷ xs) → All (λ y. x ≢ y) xs
    first_apart x xs different = λ k d within. different 0 (suc k) d (omega arith) (omega arith)

pub many_both : (K L : Packed → Type 0) (n m : ℕ) → AreSoMany K n → AreSoMany L m → ((t : Packed) → K t → L t → ⊥) → AreSoMany (λ t. K t ⊎ L t) (n + m)
many_both K L n m k l apart = record {
  tables = k.tables ++ l.tables;
  exact = λ t. (
    λ at. elim (Contains-append_cases k.tables l.tables t at) [ inl left ↦ inl ((k.exact t).0 left) | inr right ↦ inr ((l.exact t).0 right) ],
    λ h. elim h [ inl a ↦ Contains-append_left k.tables l.tables t ((k.exact t).1 a) | inr b ↦ Contains-append_right k.tables l.tables t ((l.exact t).1 b) ],
  );
  once = apart_append k.tables l.tables k.once l.once (λ t left right. apart t ((k.exact t).0 left) ((l.exact t).0 right));
  is = omega (arith, k.is, l.is, length-append k.tables l.tables);
}

pub none_many : (K : Packed → Type 0) → ((t : Packed) → K t → ⊥) → AreSoMany K 0
none_many K none = record { tables = []; exact = λ t. (λ at. absurd (nobody at), λ k. absurd (none t k)); once = λ i j d less below. absurd (omega arith); is = refl }

pub one_many : (t : Packed) → AreSoMany (λ q. q ≡ t) 1
one_many t = record {
  tables = t ∷ [];
  exact = λ q. (λ at. elim (first_or_later t [] q at) [ inl first ↦ sym first | inr later ↦ absurd (nobody later) ], λ (e : q ≡ t). first_member t q [] (sym e));
  once = λ i j d less below. absurd (omega arith);
  is = refl;
}

others_once : (t : Packed) (xs : List Packed) → AllPairs (λ a b. a ≢ b) xs → AllPairs (λ a b. a ≢ b) (others_of t xs)
unfolding others_of
others_once t xs once = AllPairs-filter (λ (a b : Packed). a ≢ b) (λ x. not (same_table x t)) xs once

-- a kind that no table is of
pub none_of_kind : (K : Packed → Type 0) (n : ℕ) → AreSoMany K n → ((t : Packed) → K t → ⊥) → n ≡ 0
none_of_kind K n many none = let least = no_more K (λ t. ⊥) n 0 none many (none_many (λ t. ⊥) (λ t h. h)) in omega (arith, least)

-- one of the kind less
pub many_less : (K : Packed → Type 0) (t : Packed) (n : ℕ) → AreSoMany K n → K t → AreSoMany (λ q. K q × (q ≢ t)) (n - 1) × (1 ≤ n)
many_less K t n many here =
    let rest : AreSoMany (λ q. K q × (q ≢ t)) (length (others_of t many.tables)) = record {
      tables = others_of t many.tables;
      exact = λ q. let at = other_member t many.tables q in (λ h. let w = at.0 h in ((many.exact q).0 w.0, w.1), λ h. at.1 ((many.exact q).1 h.0, h.1));
      once = others_once t many.tables many.once;
      is = refl;
    } in
    let all = many_both (λ q. K q × (q ≢ t)) (λ q. q ≡ t) (length (others_of t many.tables)) 1 rest (one_many t) (λ q a e. a.1 e) in
    let number = as_many K (λ q. (K q × (q ≢ t)) ⊎ (q ≡ t)) n (length (others_of t many.tables) + 1) (λ q. (by_cases q, λ h. elim h [ inl a ↦ a.0 | inr e ↦ subst K (sym e) here ])) many all in
    let less : length (others_of t many.tables) ≡ n - 1 = omega (arith, number) in
    (subst (AreSoMany (λ q. K q × (q ≢ t))) less rest, omega (arith, number))
  where
    by_cases : (q : Packed) → K q → (K q × (q ≢ t)) ⊎ (q ≡ t)
    by_cases q k = elim (same_table q t) as (λ v. same_table q t ≡ v → (K q × (q ≢ t)) ⊎ (q ≡ t)) [
      | true ↦ λ same. inr (same_is q t same)
      | false ↦ λ other. inl (k, λ (e : q ≡ t). let itself = same_itself t in let moved = subst (λ (p : Packed). same_table p t ≡ false) e other in absurd (cc))
    ] refl

-- the greatest number that a table has, or none where none has one
abbrev pub IsGreatestOf : (ℕ → Packed → Type 0) → Option ℕ → Type 0
IsGreatestOf H None = (t : Packed) (k : ℕ) → H k t → ⊥
IsGreatestOf H (Some s) = ((t : Packed) × H s t) × ((t : Packed) (k : ℕ) → H k t → k ≤ s)

some_greatest : (H : ℕ → Packed → Type 0) (b : Option ℕ) (s : ℕ) → b ≡ Some s → IsGreatestOf H b → (t : Packed) × H s t
some_greatest H b s is g = (subst (IsGreatestOf H) is g).0

within_greatest : (H : ℕ → Packed → Type 0) (b : Option ℕ) (k : ℕ) (t : Packed) → IsGreatestOf H b → H k t → (s : ℕ) × (b ≡ Some s) × (k ≤ s)
within_greatest H None k t g has = absurd (g t k has)
within_greatest H (Some s) k t g has = (s, refl, g.1 t k has)

-- once one number more is had
pub greatest_more : (H L : ℕ → Packed → Type 0) (best more : Option ℕ) → ((k : ℕ) (t : Packed) → L k t → H k t ⊎ (more ≡ Some k)) → ((k : ℕ) (t : Packed) → H k t → L k t)
    → ((k : ℕ) → more ≡ Some k → (t : Packed) × L k t) → IsGreatestOf H best → IsGreatestOf L (greater best more)
greatest_more H L best more now still has greatest = by (greater best more) refl
  where
    by : (o : Option ℕ) → greater best more ≡ o → IsGreatestOf L o
    by None is = λ t k l.
        let both = greater_none best more is in
        elim (now k t l) [
          | inl before ↦ let w = within_greatest H best k t greatest before in let none = both.0 in let some = w.1 in absurd (cc)
          | inr new ↦ let none = both.1 in absurd (cc)
        ]
    by (Some s) is =
        let parts = greater_some best more s is in (
          elim parts.0 [
            | inl before ↦ let w = some_greatest H best s before greatest in (w.0, still s w.0 w.1)
            | inr new ↦ has s new
          ],
          λ t k l. elim (now k t l) [
            | inl before ↦ let w = within_greatest H best k t greatest before in let low : w.0 ≤ s = parts.1 w.0 w.1 in omega (arith, w.2, low)
            | inr new ↦ parts.2 k new
          ],
        )

pub greatest_same : (H L : ℕ → Packed → Type 0) (best : Option ℕ) → ((k : ℕ) (t : Packed) → H k t ↔ L k t) → IsGreatestOf H best → IsGreatestOf L best
greatest_same H L None same greatest = λ t k l. greatest t k ((same k t).1 l)
greatest_same H L (Some s) same greatest = ((greatest.0.0, (same s greatest.0.0).0 greatest.0.1), λ t k l. greatest.1 t k ((same k t).1 l))

-- The greatest score, once a record is taken that has its score.

-- the score that a claim has is that of its number of steps
claimed_score : (p : Packed) (c : Claim) (s : ℕ) → scored p c ≡ c → score_by c ≡ Some s → (k : ℕ) × (ending_by c ≡ Some (Halts k)) × (s ≡ score_at (entry_of p) k)
claimed_score p (HaltsClaim e) s has is = (e.steps, refl, same_Some s (score_at (entry_of p) e.steps) (sym is ∙ sym (ap score_by has)))
claimed_score p (NeverClaim r) s has is = absurd (none-some s is)
claimed_score p NoClaim s has is = absurd (none-some s is)

score_claimed : (p : Packed) (c : Claim) (k : ℕ) → scored p c ≡ c → ending_by c ≡ Some (Halts k) → score_by c ≡ Some (score_at (entry_of p) k)
score_claimed p (HaltsClaim e) k has is = let same : e.steps ≡ k = cc in sym (ap score_by has) ∙ ap (λ (n : ℕ). Some (score_at (entry_of p) n)) same
score_claimed p (NeverClaim r) k has is = absurd (cc)
score_claimed p NoClaim k has is = absurd (cc)

claim_has : (r : Recorded) → HasScore r → scored r.table r.claim ≡ r.claim
claim_has r has = ap (λ (x : Recorded). x.claim) has

-- what a record that is taken changes
pub ones_after : (old new : List Recorded) (r : Recorded) (s : ℕ) (t : Packed) → HasScore r → IsTaken old new r → HasOnes new s t → HasOnes old s t ⊎ (score_by r.claim ≡ Some s)
ones_after old new r s t has taken (k, halts, is) =
    elim (same_table t r.table) as (λ v. same_table t r.table ≡ v → HasOnes old s t ⊎ (score_by r.claim ≡ Some s)) [
      | true ↦ λ same.
          let table : t ≡ r.table = same_is t r.table same in
          let here = subst (λ (p : Packed). mark_in new p ≡ Some (Halting k)) table halts in
          let marked = ap (option_map mark_of) taken.here in
          let mark : mark_of r.claim ≡ Halting k = cc in
          inr (score_claimed r.table r.claim k (claim_has r has) (stopping_verdict (ending_by r.claim) k mark) ∙ ap (λ (n : ℕ). Some n) (sym (subst (λ (p : Packed). s ≡ score_at (entry_of p) k) table is)))
      | false ↦ λ other. inl (k, ap (option_map mark_of) (sym (taken.others t (apart t r.table other))) ∙ halts, is)
    ] refl

ones_still : (old new : List Recorded) (r : Recorded) (s : ℕ) (t : Packed) → IsTaken old new r → HasOnes old s t → HasOnes new s t
ones_still old new r s t taken (k, halts, is) =
    let other : t ≢ r.table = λ (e : t ≡ r.table). taken.before k (subst (λ (p : Packed). mark_in old p ≡ Some (Halting k)) e halts) in
    (k, ap (option_map mark_of) (taken.others t other) ∙ halts, is)

pub ones_now : (old new : List Recorded) (r : Recorded) (s : ℕ) → HasScore r → IsTaken old new r → score_by r.claim ≡ Some s → HasOnes new s r.table
ones_now old new r s has taken is =
    let w = claimed_score r.table r.claim s (claim_has r has) is in
    (w.0, ap (option_map mark_of) taken.here ∙ ap (λ (o : Option Ending). Some (mark_by o)) w.1, w.2)

-- the greatest score, as the greatest number that tables have
to_greatest : (rs : List Recorded) (b : Option ℕ) → IsGreatestOnes rs b → IsGreatestOf (HasOnes rs) b
to_greatest rs None g = g
to_greatest rs (Some s) g = g

from_greatest : (rs : List Recorded) (b : Option ℕ) → IsGreatestOf (HasOnes rs) b → IsGreatestOnes rs b
from_greatest rs None g = g
from_greatest rs (Some s) g = g

pub ones_taken : (old new : List Recorded) (r : Recorded) (best : Option ℕ) → HasScore r → IsTaken old new r → IsGreatestOnes old best → IsGreatestOnes new (greater best (score_by r.claim))
ones_taken old new r best has taken greatest = from_greatest new (greater best (score_by r.claim))
    (greatest_more (HasOnes old) (HasOnes new) best (score_by r.claim) (λ s t h. ones_after old new r s t has taken h) (λ s t h. ones_still old new r s t taken h)
    (λ s is. (r.table, ones_now old new r s has taken is)) (to_greatest old best greatest))

pub one_greatest_score : (rs : List Recorded) (a b : Option ℕ) → IsGreatestOnes rs a → IsGreatestOnes rs b → a ≡ b
one_greatest_score rs None None x y = refl
one_greatest_score rs None (Some s) x y = absurd (x y.0.0 s y.0.1)
one_greatest_score rs (Some r) None x y = absurd (y x.0.0 r x.0.1)
one_greatest_score rs (Some r) (Some s) x y =
    let low : r ≤ s = y.1 x.0.0 r x.0.1 in let high : s ≤ r = x.1 y.0.0 s y.0.1 in ap (λ (n : ℕ). Some n) (omega (arith, low, high))

-- the tables of a score
steps_some : (o : Option ℕ) (best : ℕ) → is_steps best o ≡ true → o ≡ Some best
steps_some None best e = cc
steps_some (Some k) best e = ap (λ (n : ℕ). Some n) ((Decides-eqb k best).0 e)

some_steps : (o : Option ℕ) (best : ℕ) → o ≡ Some best → is_steps best o ≡ true
some_steps None best e = cc
some_steps (Some k) best e = let same : k ≡ best = cc in (Decides-eqb k best).1 same

pub ones_listed : (best : ℕ) (rs : List Recorded) → AreApart rs → All HasScore rs → (t : Packed) → Contains (map (λ (r : Recorded). r.table) (filter (is_ones_champion best) rs)) t ↔ HasOnes rs best t
ones_listed best rs apart all t = kind_listed (HasOnes rs best) (is_ones_champion best) rs
    (λ r at pass.
    let w = claimed_score r.table r.claim best (claim_has r (All-contains HasScore rs r all at)) (steps_some (score_by r.claim) best pass) in
    (w.0, member_marked rs r apart at ∙ ap (λ (o : Option Ending). Some (mark_by o)) w.1, w.2))
    (λ q has.
    let w = marked_member rs q (Halting has.0) has.1 in
    let score = score_claimed w.0.table w.0.claim has.0 (claim_has w.0 (All-contains HasScore rs w.0 all w.1)) (stopping_verdict (ending_by w.0.claim) has.0 w.2) in
    let same = subst (λ (p : Packed). best ≡ score_at (entry_of p) has.0) (sym w.3) has.2 in
    (w.0, w.1, some_steps (score_by w.0.claim) best (score ∙ ap (λ (n : ℕ). Some n) (sym same)), w.3)) t

-- What is measured of records has room in eight bytes.
score_small : (o : Option ℕ) (k s : ℕ) → k ≤ late_step_limit → s ≤ k → IfSome o (λ x. x ≡ s) → IsSmall o
score_small None k s few within is = tt
score_small (Some x) k s few within is = omega (arith, few, within, is)

-- the steps and the score of a certified claim
claim_small : (p : Packed) (c : Claim) → IsWithin c → Stands c p → IsSmall (steps_of (ending_by c)) × IsSmall (score_by c)
claim_small p (HaltsClaim e) within stands =
    let few = (in_reach e.reach e.steps within).0 in
    (omega (arith, few), score_small e.ones e.steps (score_at (entry_of p) e.steps) few (score_within (entry_of p) e.steps stands.halts) stands.score)
claim_small p (NeverClaim r) within stands = (tt, tt)
claim_small p NoClaim within stands = (tt, tt)

pub certified_small : (r : Recorded) → IsCertified r → IsSmall (steps_of (ending_by r.claim)) × IsSmall (score_by r.claim)
certified_small r certified = claim_small r.table r.claim certified.within certified.stands
