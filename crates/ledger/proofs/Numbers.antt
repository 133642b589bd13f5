-- How many tables of a kind a board has, which they are in order, and the greatest recorded count.
use Rattle.std.proofs.Common.{◌≡◌, ℕ, suc, ◌+◌, ◌<◌, ◌≤◌, nat_lt, Bool, cond, true, false, List, [], ◌∷◌, ◌++◌, Option, Some, None, option_map, inl, inr, ◌⊎◌, ◌↔◌, refl, sym, ◌∙◌, ap, subst, map, length, arith}
use Rattle.std.specs.List.{Contains, filter}
use Rattle.std.specs.Option.{is_none}
use Rattle.std.proofs.lemmas.Bool.{ltb-true, ltb-false}
use Rattle.std.proofs.lemmas.Bool.Decides.{Decides-eqb}
use Rattle.std.proofs.lemmas.List.{length-map}
use Rattle.machine_text.specs.Terms.{Packed}
use Rattle.kind_evidence.specs.declared.verdicts.Ending.{Ending}
use Rattle.kind_evidence.specs.declared.verdicts.Ending.TheVariants.{Halts, Never}
use Rattle.law_tree.specs.Terms.{Mark, Halting, NeverHalting, Holdout}
use Rattle.cert.specs.Terms.{Claim, Recorded, ending_by, score_by}
use Rattle.ledger.specs.Records.{same_table, claim_in, mark_in, mark_of, mark_by, IsHoldout, resolved}
use Rattle.ledger.specs.inside.Counting.{is_undecided, is_halting, is_never, says_halts, says_never, is_champion, is_steps, steps_of, greater, IsCounted, with_shown, without_holdout}
use Rattle.ledger.specs.Tally.{AreSoMany, HaltsAfter, IsHalting, IsNeverHalting, IsGreatestCount, IsGreatestOnes}
use Rattle.ledger.proofs.OpenLaws.{IsTaken, stopping_verdict}
use Rattle.ledger.specs.declared.counts.Counts.{Counts}
use Rattle.ledger.proofs.Claims.{same_is, apart, claim_here, claim_past, claim_none, settled_here, settled_past}
use Rattle.ledger.proofs.HeldLaws.{AreApart, claim_member, member_claim, chosen_from, chosen, chosen_once}

-- the tables of a kind, where those of the records that pass a test are of it
pub kind_listed : (IsOfKind : Packed → Type 0) (p : Recorded → Bool) (rs : List Recorded)
    → ((r : Recorded) → Contains rs r → p r ≡ true → IsOfKind r.table)
    → ((t : Packed) → IsOfKind t → (r : Recorded) × Contains rs r × (p r ≡ true) × (r.table ≡ t))
    → (t : Packed) → Contains (map (λ (r : Recorded). r.table) (filter p rs)) t ↔ IsOfKind t
kind_listed IsOfKind p rs passes found t = (
  λ at. let w = chosen_from (λ (r : Recorded). r.table) p rs t at in subst IsOfKind w.3 (passes w.0 w.1 w.2),
  λ kind. let w = found t kind in subst (Contains (map (λ (r : Recorded). r.table) (filter p rs))) w.3 (chosen (λ (r : Recorded). r.table) p rs w.0 w.1 w.2),
)

-- so many tables are of a kind as such records there are
pub number_of_kind : (IsOfKind : Packed → Type 0) (p : Recorded → Bool) (rs : List Recorded) → AreApart rs
    → ((r : Recorded) → Contains rs r → p r ≡ true → IsOfKind r.table)
    → ((t : Packed) → IsOfKind t → (r : Recorded) × Contains rs r × (p r ≡ true) × (r.table ≡ t))
    → AreSoMany IsOfKind (length (filter p rs))
number_of_kind IsOfKind p rs apart passes found = record {
  tables = map (λ (r : Recorded). r.table) (filter p rs);
  exact = kind_listed IsOfKind p rs passes found;
  once = chosen_once p rs apart;
  is = sym (length-map (filter p rs) (λ (r : Recorded). r.table));
}

-- the mark of a table, by the member of the list that has it
pub marked_member : (rs : List Recorded) (t : Packed) (m : Mark) → mark_in rs t ≡ Some m → (r : Recorded) × Contains rs r × (mark_of r.claim ≡ m) × (r.table ≡ t)
marked_member rs t m is =
    elim (claim_in rs t) as (λ o. claim_in rs t ≡ o → (r : Recorded) × Contains rs r × (mark_of r.claim ≡ m) × (r.table ≡ t)) [
      | Some c ↦ λ claimed. let marked = ap (option_map mark_of) (sym claimed) ∙ is in (record { table = t; claim = c }, claim_member rs t c claimed, cc, refl)
      | None ↦ λ none. let marked = ap (option_map mark_of) (sym none) ∙ is in absurd (cc)
    ] refl

pub member_marked : (rs : List Recorded) (r : Recorded) → AreApart rs → Contains rs r → mark_in rs r.table ≡ Some (mark_of r.claim)
member_marked rs r apart at = ap (option_map mark_of) (member_claim rs r apart at)

-- holdouts are the records without a verdict
undecided_mark : (o : Option Ending) → is_none o ≡ true → mark_by o ≡ Holdout
undecided_mark None e = refl
undecided_mark (Some v) e = cc

no_verdict : (o : Option Ending) → mark_by o ≡ Holdout → is_none o ≡ true
no_verdict None e = refl
no_verdict (Some (Halts k)) e = cc
no_verdict (Some Never) e = cc

pub holdout_passes : (rs : List Recorded) (r : Recorded) → AreApart rs → Contains rs r → is_undecided r ≡ true → IsHoldout rs r.table
holdout_passes rs r apart at pass = member_marked rs r apart at ∙ ap (λ (m : Mark). Some m) (undecided_mark (ending_by r.claim) pass)

pub holdout_found : (rs : List Recorded) (t : Packed) → IsHoldout rs t → (r : Recorded) × Contains rs r × (is_undecided r ≡ true) × (r.table ≡ t)
holdout_found rs t holdout = let w = marked_member rs t Holdout holdout in (w.0, w.1, no_verdict (ending_by w.0.claim) w.2, w.3)

pub holdouts_listed : (rs : List Recorded) → AreApart rs → (t : Packed) → Contains (map (λ (r : Recorded). r.table) (filter is_undecided rs)) t ↔ IsHoldout rs t
holdouts_listed rs apart t = kind_listed (IsHoldout rs) is_undecided rs (λ r at pass. holdout_passes rs r apart at pass) (λ q holdout. holdout_found rs q holdout) t

pub holdout_number : (rs : List Recorded) → AreApart rs → AreSoMany (IsHoldout rs) (length (filter is_undecided rs))
holdout_number rs apart = number_of_kind (IsHoldout rs) is_undecided rs apart (λ r at pass. holdout_passes rs r apart at pass) (λ t holdout. holdout_found rs t holdout)

-- the halting ones, and those that never halt
halting_mark : (o : Option Ending) → says_halts o ≡ true → (k : ℕ) × (mark_by o ≡ Halting k)
halting_mark None e = cc
halting_mark (Some (Halts k)) e = (k, refl)
halting_mark (Some Never) e = cc

mark_halting : (o : Option Ending) (k : ℕ) → mark_by o ≡ Halting k → says_halts o ≡ true
mark_halting None k e = cc
mark_halting (Some (Halts j)) k e = refl
mark_halting (Some Never) k e = cc

never_mark : (o : Option Ending) → says_never o ≡ true → mark_by o ≡ NeverHalting
never_mark None e = cc
never_mark (Some (Halts k)) e = cc
never_mark (Some Never) e = refl

mark_never : (o : Option Ending) → mark_by o ≡ NeverHalting → says_never o ≡ true
mark_never None e = cc
mark_never (Some (Halts k)) e = cc
mark_never (Some Never) e = refl

pub halting_number : (rs : List Recorded) → AreApart rs → AreSoMany (IsHalting rs) (length (filter is_halting rs))
halting_number rs apart = number_of_kind (IsHalting rs) is_halting rs apart
    (λ r at pass. let w = halting_mark (ending_by r.claim) pass in (w.0, member_marked rs r apart at ∙ ap (λ (m : Mark). Some m) w.1))
    (λ t halting. let w = marked_member rs t (Halting halting.0) halting.1 in (w.0, w.1, mark_halting (ending_by w.0.claim) halting.0 w.2, w.3))

pub never_number : (rs : List Recorded) → AreApart rs → AreSoMany (IsNeverHalting rs) (length (filter is_never rs))
never_number rs apart = number_of_kind (IsNeverHalting rs) is_never rs apart
    (λ r at pass. member_marked rs r apart at ∙ ap (λ (m : Mark). Some m) (never_mark (ending_by r.claim) pass))
    (λ t never. let w = marked_member rs t NeverHalting never in (w.0, w.1, mark_never (ending_by w.0.claim) w.2, w.3))

-- the greater of two
pub greater_none : (a b : Option ℕ) → greater a b ≡ None → (a ≡ None) × (b ≡ None)
greater_none None b e = (refl, e)
greater_none (Some a) None e = cc
greater_none (Some a) (Some b) e = elim (nat_lt a b) as (λ v. nat_lt a b ≡ v → (Some a ≡ None) × (Some b ≡ None)) [ true ↦ λ pass. absurd (cc) | false ↦ λ fails. absurd (cc) ] refl

pub greater_some : (a b : Option ℕ) (s : ℕ) → greater a b ≡ Some s → ((a ≡ Some s) ⊎ (b ≡ Some s)) × ((k : ℕ) → a ≡ Some k → k ≤ s) × ((k : ℕ) → b ≡ Some k → k ≤ s)
greater_some None b s e = (inr e, λ k is. absurd (cc), λ k is. let same : k ≡ s = cc in omega arith)
greater_some (Some a) None s e = (inl e, λ k is. let same : k ≡ s = cc in omega arith, λ k is. absurd (cc))
greater_some (Some a) (Some b) s e =
    elim (nat_lt a b) as (λ v. nat_lt a b ≡ v → ((Some a ≡ Some s) ⊎ (Some b ≡ Some s)) × ((k : ℕ) → Some a ≡ Some k → k ≤ s) × ((k : ℕ) → Some b ≡ Some k → k ≤ s)) [
      | true ↦ λ pass. let same : b ≡ s = cc in (inr (ap (λ (n : ℕ). Some n) same), λ k is. let one : a ≡ k = cc in let low : a < b = ltb-true a b pass in omega arith, λ k is. let one : b ≡ k = cc in omega arith)
      | false ↦ λ fails. let same : a ≡ s = cc in (inl (ap (λ (n : ℕ). Some n) same), λ k is. let one : a ≡ k = cc in omega arith, λ k is. let one : b ≡ k = cc in let low : b ≤ a = ltb-false a b fails in omega arith)
    ] refl

pub steps_halting : (o : Option Ending) (k : ℕ) → mark_by o ≡ Halting k → steps_of o ≡ Some k
steps_halting o k is = ap steps_of (stopping_verdict o k is)

pub halting_steps : (o : Option Ending) (k : ℕ) → steps_of o ≡ Some k → mark_by o ≡ Halting k
halting_steps None k e = cc
halting_steps (Some (Halts j)) k e = let same : j ≡ k = cc in ap (λ (n : ℕ). Halting n) same
halting_steps (Some Never) k e = cc

-- the greatest count once a record is taken
pub halts_after : (old new : List Recorded) (r : Recorded) (k : ℕ) (t : Packed) → IsTaken old new r → HaltsAfter new k t → HaltsAfter old k t ⊎ (steps_of (ending_by r.claim) ≡ Some k)
halts_after old new r k t taken halts =
    elim (same_table t r.table) as (λ v. same_table t r.table ≡ v → HaltsAfter old k t ⊎ (steps_of (ending_by r.claim) ≡ Some k)) [
      | true ↦ λ same.
          let here = subst (λ (p : Packed). mark_in new p ≡ Some (Halting k)) (same_is t r.table same) halts in
          let marked = ap (option_map mark_of) taken.here in
          let mark : mark_of r.claim ≡ Halting k = cc in inr (steps_halting (ending_by r.claim) k mark)
      | false ↦ λ other. inl (ap (option_map mark_of) (sym (taken.others t (apart t r.table other))) ∙ halts)
    ] refl

pub greatest_taken : (old new : List Recorded) (r : Recorded) (best : Option ℕ) → IsTaken old new r → IsGreatestCount old best → IsGreatestCount new (greater best (steps_of (ending_by r.claim)))
greatest_taken old new r best taken greatest = by (greater best (steps_of (ending_by r.claim))) refl
  where
    still : (k : ℕ) (t : Packed) → HaltsAfter old k t → HaltsAfter new k t
    still k t halts = ap (option_map mark_of) (taken.others t (λ (e : t ≡ r.table). taken.before k (subst (λ (p : Packed). mark_in old p ≡ Some (Halting k)) e halts))) ∙ halts

    some_before : (b : Option ℕ) (s : ℕ) → b ≡ Some s → IsGreatestCount old b → ((t : Packed) × HaltsAfter old s t) × ((t : Packed) (k : ℕ) → HaltsAfter old k t → k ≤ s)
    some_before b s is g = subst (IsGreatestCount old) is g

    bound : (b : Option ℕ) (k : ℕ) (t : Packed) → IsGreatestCount old b → HaltsAfter old k t → (s : ℕ) × (b ≡ Some s) × (k ≤ s)
    bound None k t g halts = absurd (g t k halts)
    bound (Some s) k t g halts = (s, refl, g.1 t k halts)

    by : (o : Option ℕ) → greater best (steps_of (ending_by r.claim)) ≡ o → IsGreatestCount new o
    by None is = λ t k halts.
        let both = greater_none best (steps_of (ending_by r.claim)) is in
        elim (halts_after old new r k t taken halts) [
          | inl before ↦ let w = bound best k t greatest before in let none = both.0 in let some = w.1 in absurd (cc)
          | inr now ↦ let none = both.1 in absurd (cc)
        ]
    by (Some s) is =
        let parts = greater_some best (steps_of (ending_by r.claim)) s is in (
          elim parts.0 [
            | inl before ↦ let w = (some_before best s before greatest).0 in (w.0, still s w.0 w.1)
            | inr now ↦ (r.table, ap (option_map mark_of) taken.here ∙ ap (λ (m : Mark). Some m) (halting_steps (ending_by r.claim) s now))
          ],
          λ t k halts. elim (halts_after old new r k t taken halts) [
            | inl before ↦ let w = bound best k t greatest before in let low : w.0 ≤ s = parts.1 w.0 w.1 in omega (arith, w.2, low)
            | inr now ↦ parts.2 k now
          ],
        )

-- the numbers once a record is put last, and once a holdout is resolved
abbrev one : Bool → ℕ
one true = 1
one false = 0

filter_one : (p : Recorded → Bool) (x : Recorded) (xs : List Recorded) → length (filter p (x ∷ xs)) ≡ one (p x) + length (filter p xs)
filter_one p x xs = elim (p x) as (λ v. p x ≡ v → length (cond v (x ∷ filter p xs) (filter p xs)) ≡ one v + length (filter p xs)) [ true ↦ λ e. omega arith | false ↦ λ e. omega arith ] refl

number_more : (p : Recorded → Bool) (rs : List Recorded) (r : Recorded) → length (filter p (rs ++ (r ∷ []))) ≡ length (filter p rs) + one (p r)
number_more p [] r = filter_one p r [] ∙ omega arith
number_more p (x ∷ rs) r = omega (arith, filter_one p x (rs ++ (r ∷ [])), number_more p rs r, filter_one p x rs)

abbrev by_claim : (Option Ending → Bool) → Recorded → Bool
by_claim q r = q (ending_by r.claim)

number_settled : (q : Option Ending → Bool) (rs : List Recorded) (r : Recorded) (c : Claim) → claim_in rs r.table ≡ Some c
    → length (filter (by_claim q) (resolved rs r)) + one (q (ending_by c)) ≡ length (filter (by_claim q) rs) + one (q (ending_by r.claim))
number_settled q [] r c is = let none = claim_none r.table in absurd (cc)
number_settled q (x ∷ xs) r c is =
    elim (same_table x.table r.table) as (λ v. same_table x.table r.table ≡ v → length (filter (by_claim q) (resolved (x ∷ xs) r)) + one (q (ending_by c)) ≡ length (filter (by_claim q) (x ∷ xs)) + one (q (ending_by r.claim))) [
      | true ↦ λ here.
          let claimed = claim_here x xs r.table here in
          let claim : x.claim ≡ c = cc in
          let same = ap (λ (d : Claim). one (q (ending_by d))) claim in
          let list = ap (λ (l : List Recorded). length (filter (by_claim q) l)) (settled_here x xs r here) in
          omega (arith, list, filter_one (by_claim q) r xs, filter_one (by_claim q) x xs, same)
      | false ↦ λ other.
          let list = ap (λ (l : List Recorded). length (filter (by_claim q) l)) (settled_past x xs r other) in
          let later = number_settled q xs r c (sym (claim_past x xs r.table other) ∙ is) in
          omega (arith, list, filter_one (by_claim q) x (resolved xs r), filter_one (by_claim q) x xs, later)
    ] refl

pub number_within : (p : Recorded → Bool) (rs : List Recorded) → length (filter p rs) ≤ length rs
number_within p [] = omega arith
number_within p (x ∷ xs) = elim (p x) as (λ v. p x ≡ v → length (cond v (x ∷ filter p xs) (filter p xs)) ≤ suc (length xs)) [ true ↦ λ e. omega (arith, number_within p xs) | false ↦ λ e. omega (arith, number_within p xs) ] refl

no_more : (o : Option ℕ) → o ≡ greater o None
no_more None = refl
no_more (Some x) = refl

counts_shown : (c : Counts) (o : Option Ending) (x : Option ℕ) (h n u : ℕ) → c.halting + one (says_halts o) ≡ h → c.never + one (says_never o) ≡ n → c.undecided + one (is_none o) ≡ u
    → ((with_shown c o x).halting ≡ h) × ((with_shown c o x).never ≡ n) × ((with_shown c o x).undecided ≡ u) × ((with_shown c o x).best ≡ greater c.best (steps_of o)) × ((with_shown c o x).ones ≡ greater c.ones x)
counts_shown c None x h n u a b d = (let e : c.halting ≡ h = omega (arith, a) in e, let e : c.never ≡ n = omega (arith, b) in e, let e : c.undecided + 1 ≡ u = omega (arith, d) in e, no_more c.best, refl)
counts_shown c (Some Never) x h n u a b d = (let e : c.halting ≡ h = omega (arith, a) in e, let e : c.never + 1 ≡ n = omega (arith, b) in e, let e : c.undecided ≡ u = omega (arith, d) in e, no_more c.best, refl)
counts_shown c (Some (Halts k)) x h n u a b d = (let e : c.halting + 1 ≡ h = omega (arith, a) in e, let e : c.never ≡ n = omega (arith, b) in e, let e : c.undecided ≡ u = omega (arith, d) in e, refl, refl)

pub counted_more : (rs : List Recorded) (r : Recorded) (c : Counts) → IsCounted rs c → IsTaken rs (rs ++ (r ∷ [])) r → IsGreatestOnes (rs ++ (r ∷ [])) (greater c.ones (score_by r.claim))
    → IsCounted (rs ++ (r ∷ [])) (with_shown c (ending_by r.claim) (score_by r.claim))
counted_more rs r c counted taken ones =
    let now = counts_shown c (ending_by r.claim) (score_by r.claim) _ _ _ (omega (arith, counted.halting, number_more is_halting rs r)) (omega (arith, counted.never, number_more is_never rs r)) (omega (arith, counted.undecided, number_more is_undecided rs r)) in
    record { halting = now.0; never = now.1; undecided = now.2; best = subst (IsGreatestCount (rs ++ (r ∷ []))) (sym now.3) (greatest_taken rs (rs ++ (r ∷ [])) r c.best taken counted.best); ones = subst (IsGreatestOnes (rs ++ (r ∷ []))) (sym now.4) ones }

pub some_holdout : (rs : List Recorded) (r : Recorded) (x : Claim) → claim_in rs r.table ≡ Some x → ending_by x ≡ None → 0 < length (filter is_undecided rs)
some_holdout [] r x is none = let gone = claim_none r.table in absurd (cc)
some_holdout (y ∷ ys) r x is none =
    elim (same_table y.table r.table) as (λ v. same_table y.table r.table ≡ v → 0 < length (filter is_undecided (y ∷ ys))) [
      | true ↦ λ here.
          let claimed = claim_here y ys r.table here in
          let claim : y.claim ≡ x = cc in
          let pass : one (is_undecided y) ≡ 1 = ap (λ (d : Claim). one (is_none (ending_by d))) claim ∙ ap (λ (o : Option Ending). one (is_none o)) none in
          omega (arith, filter_one is_undecided y ys, pass)
      | false ↦ λ other. omega (arith, filter_one is_undecided y ys, some_holdout ys r x (sym (claim_past y ys r.table other) ∙ is) none)
    ] refl

pub counted_settled : (rs : List Recorded) (r : Recorded) (x : Claim) (c : Counts) → IsCounted rs c → claim_in rs r.table ≡ Some x → ending_by x ≡ None → IsTaken rs (resolved rs r) r
    → IsGreatestOnes (resolved rs r) (greater c.ones (score_by r.claim)) → IsCounted (resolved rs r) (with_shown (without_holdout c) (ending_by r.claim) (score_by r.claim))
counted_settled rs r x c counted is none taken ones =
    let halts = number_settled says_halts rs r x is in
    let nevers = number_settled says_never rs r x is in
    let undecided = number_settled (λ (o : Option Ending). is_none o) rs r x is in
    let h : one (says_halts (ending_by x)) ≡ 0 = ap (λ (o : Option Ending). one (says_halts o)) none in
    let n : one (says_never (ending_by x)) ≡ 0 = ap (λ (o : Option Ending). one (says_never o)) none in
    let u : one (is_none (ending_by x)) ≡ 1 = ap (λ (o : Option Ending). one (is_none o)) none in
    let some = some_holdout rs r x is none in
    let now = counts_shown (without_holdout c) (ending_by r.claim) (score_by r.claim) _ _ _ (omega (arith, counted.halting, halts, h)) (omega (arith, counted.never, nevers, n)) (omega (arith, counted.undecided, undecided, u, some)) in
    record { halting = now.0; never = now.1; undecided = now.2; best = subst (IsGreatestCount (resolved rs r)) (sym now.3) (greatest_taken rs (resolved rs r) r c.best taken counted.best); ones = subst (IsGreatestOnes (resolved rs r)) (sym now.4) ones }

-- the tables of a number of steps
champion_mark : (o : Option Ending) (best : ℕ) → is_steps best (steps_of o) ≡ true → mark_by o ≡ Halting best
champion_mark None best e = cc
champion_mark (Some (Halts k)) best e = ap (λ (n : ℕ). Halting n) ((Decides-eqb k best).0 e)
champion_mark (Some Never) best e = cc

mark_champion : (o : Option Ending) (best : ℕ) → mark_by o ≡ Halting best → is_steps best (steps_of o) ≡ true
mark_champion None best e = cc
mark_champion (Some (Halts k)) best e = let same : k ≡ best = cc in (Decides-eqb k best).1 same
mark_champion (Some Never) best e = cc

pub halts_listed : (best : ℕ) (rs : List Recorded) → AreApart rs → (t : Packed) → Contains (map (λ (r : Recorded). r.table) (filter (is_champion best) rs)) t ↔ HaltsAfter rs best t
halts_listed best rs apart t = kind_listed (HaltsAfter rs best) (is_champion best) rs
    (λ r at pass. member_marked rs r apart at ∙ ap (λ (m : Mark). Some m) (champion_mark (ending_by r.claim) best pass))
    (λ q halts. let w = marked_member rs q (Halting best) halts in (w.0, w.1, mark_champion (ending_by w.0.claim) best w.2, w.3)) t
