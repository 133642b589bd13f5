-- The numbers of a table's tree once a record is taken.
use Rattle.std.proofs.Common.{true, false, ◌≡◌, ◌≢◌, ℕ, ◌+◌, ◌-◌, ◌<◌, ◌≤◌, ◌^◌, Option, Some, None, IsSome, option_map, List, inl, inr, ◌⊎◌, ◌↔◌, refl, sym, ◌∙◌, ap, subst, arith}
use Rattle.machine_text.specs.Terms.{Packed, IsTable, entry_of}
use Rattle.law_turing.specs.Terms.{score_at}
use Rattle.kind_evidence.specs.declared.verdicts.Ending.{Ending}
use Rattle.kind_evidence.specs.declared.verdicts.Ending.TheVariants.{Halts, Never}
use Rattle.law_tree.specs.Terms.{Mark, Halting, Holdout, IsOpen, IsGreatestRecorded, IsChildTable, InTableTree, Itself, OfChild}
use Rattle.law_tree.proofs.TableLaws.{tree_alike, tree_table_child, one_table_parent}
use Rattle.cert.specs.Terms.{IsCertified, Claim, Recorded, ending_by, score_by}
use Rattle.ledger.specs.Records.{same_table, claim_in, mark_in, mark_of, mark_by, HasScore, IsHoldout}
use Rattle.ledger.specs.Tally.{AreSoMany}
use Rattle.ledger.specs.inside.Counting.{greater, steps_of, IsNewChild}
use Rattle.ledger.specs.inside.Trees.{first_count, one_undecided, taking_change, resolving_change, changed_count, MayChange, IsTreeCount}
use Rattle.ledger.specs.declared.tree_count.TreeCount.{TreeCount}
use Rattle.ledger.proofs.Amounts.{IsGreatestOf, no_more, many_same, many_both, many_less, none_many, one_many, greatest_more, greatest_same, ones_after, ones_now, certified_small}
use Rattle.ledger.proofs.Ancestors.{no_way_up, last_step, tree_twice}
use Rattle.ledger.proofs.HeldLaws.{unmarked}
use Rattle.ledger.proofs.Numbers.{halting_steps, halts_after}
use Rattle.ledger.proofs.OpenLaws.{IsTaken, open_taken}
use Rattle.ledger.proofs.Claims.{same_is, apart}

-- the greatest number recorded in a tree, said of tables
abbrev HaltsBelow : (Packed → Option Mark) → Packed → ℕ → Packed → Type 0
HaltsBelow marks p k t = InTableTree p t × (marks t ≡ Some (Halting k))

to_greatest : (marks : Packed → Option Mark) (p : Packed) (b : Option ℕ) → IsGreatestRecorded (λ t k. k) marks p b → IsGreatestOf (HaltsBelow marks p) b
to_greatest marks p None g = λ t k h. g t k h.0 h.1
to_greatest marks p (Some s) g =
    let (t, k, inside, halting, same) = g.0 in
    ((t, (inside, halting ∙ ap (λ (n : ℕ). Some (Halting n)) (sym same))), λ t k h. g.1 t k h.0 h.1)

from_greatest : (marks : Packed → Option Mark) (p : Packed) (b : Option ℕ) → IsGreatestOf (HaltsBelow marks p) b → IsGreatestRecorded (λ t k. k) marks p b
from_greatest marks p None g = λ t k inside halting. g t k (inside, halting)
from_greatest marks p (Some s) g = ((g.0.0, s, g.0.1.0, g.0.1.1, refl), λ t k inside halting. g.1 t k (inside, halting))

-- and the greatest score
abbrev score_of_steps : Packed → ℕ → ℕ
score_of_steps t k = score_at (entry_of t) k

abbrev OnesBelow : (Packed → Option Mark) → Packed → ℕ → Packed → Type 0
OnesBelow marks p s t = (k : ℕ) × InTableTree p t × (marks t ≡ Some (Halting k)) × (s ≡ score_of_steps t k)

to_ones : (marks : Packed → Option Mark) (p : Packed) (b : Option ℕ) → IsGreatestRecorded score_of_steps marks p b → IsGreatestOf (OnesBelow marks p) b
to_ones marks p None g = λ t s h. g t h.0 h.1 h.2
to_ones marks p (Some b) g =
    let (t, k, inside, halting, is) = g.0 in
    ((t, (k, inside, halting, is)), λ t s h. subst (λ (n : ℕ). n ≤ b) (sym h.3) (g.1 t h.0 h.1 h.2))

from_ones : (marks : Packed → Option Mark) (p : Packed) (b : Option ℕ) → IsGreatestOf (OnesBelow marks p) b → IsGreatestRecorded score_of_steps marks p b
from_ones marks p None g = λ t k inside halting. g t (score_of_steps t k) (k, inside, halting, refl)
from_ones marks p (Some b) g = ((g.0.0, g.0.1.0, g.0.1.1, g.0.1.2, g.0.1.3), λ t k inside halting. g.1 t (score_of_steps t k) (k, inside, halting, refl))

recorded_mark : (rs : List Recorded) (t : Packed) (m : Mark) → mark_in rs t ≡ Some m → IsSome (claim_in rs t)
recorded_mark rs t m is = elim (claim_in rs t) as (λ o. option_map mark_of o ≡ Some m → IsSome o) [
  | None ↦ λ none. cc
  | Some c ↦ λ some. refl
] is

gone_or_there : (rs : List Recorded) (t : Packed) → (claim_in rs t ≡ None) ⊎ IsSome (claim_in rs t)
gone_or_there rs t = elim (claim_in rs t) as (λ o. claim_in rs t ≡ o → (o ≡ None) ⊎ IsSome o) [ None ↦ λ is. inl refl | Some c ↦ λ is. inr refl ] refl

-- the parent of what is open or recorded is recorded as halting
abbrev pub HaveParents : Packed → List Recorded → Type 0
HaveParents root rs = (p t : Packed) → InTableTree root p → IsChildTable p t → IsOpen root (mark_in rs) t ⊎ IsSome (claim_in rs t) → (k : ℕ) × (mark_in rs p ≡ Some (Halting k))

module _ (root : Packed) (is_table : IsTable root) (old : List Recorded) (parents : HaveParents root old) where
  -- what is open or recorded in the tree of a table that isn't recorded as halting is the table itself
  alone_below : (p t : Packed) → InTableTree root p → InTableTree p t → IsOpen root (mark_in old) t ⊎ IsSome (claim_in old t) → (p ≡ t) ⊎ ((k : ℕ) × (mark_in old p ≡ Some (Halting k)))
  alone_below p t there Itself is = inl refl
  alone_below p t there (OfChild {c} child inside) is =
      let under = tree_table_child root p c there child in
      elim (alone_below c t under inside is) [
        | inl same ↦ inr (parents p c there child (subst (λ (x : Packed). IsOpen root (mark_in old) x ⊎ IsSome (claim_in old x)) (sym same) is))
        | inr halting ↦ inr (parents p c there child (inr (recorded_mark old c (Halting halting.0) halting.1)))
      ]

  pub first_is : (t : Packed) → InTableTree root t → IsOpen root (mark_in old) t → IsTreeCount root old t first_count
  first_is t there is_open =
      let none : claim_in old t ≡ None = unmarked (claim_in old t) is_open.unmarked in
      let halts : (k : ℕ) → mark_in old t ≡ Some (Halting k) → ⊥ = λ k is. let unmarked = is_open.unmarked in absurd (cc) in
      record {
        open_count = many_same (λ q. q ≡ t) (λ q. InTableTree t q × IsOpen root (mark_in old) q) 1
            (λ q. (
              λ (e : q ≡ t). subst (λ (x : Packed). InTableTree t x × IsOpen root (mark_in old) x) (sym e) (Itself, is_open),
              λ h. elim (alone_below t q there h.0 (inl h.1)) [ inl same ↦ sym same | inr w ↦ absurd (halts w.0 w.1) ],
            )) (one_many t);
        holdouts = none_many (λ q. InTableTree t q × IsHoldout old q) (λ q h. elim (alone_below t q there h.0 (inr (recorded_mark old q Holdout h.1))) [
          | inl same ↦ let here = subst (IsHoldout old) (sym same) h.1 in let unmarked = is_open.unmarked in absurd (cc)
          | inr w ↦ absurd (halts w.0 w.1)
        ]);
        best = λ q k inside halting. elim (alone_below t q there inside (inr (recorded_mark old q (Halting k) halting))) [
          | inl same ↦ halts k (subst (λ (x : Packed). mark_in old x ≡ Some (Halting k)) (sym same) halting)
          | inr w ↦ halts w.0 w.1
        ];
        ones = λ q k inside halting. elim (alone_below t q there inside (inr (recorded_mark old q (Halting k) halting))) [
          | inl same ↦ halts k (subst (λ (x : Packed). mark_in old x ≡ Some (Halting k)) (sym same) halting)
          | inr w ↦ halts w.0 w.1
        ];
      }

  module _ (new : List Recorded) (r : Recorded) (taken : IsTaken old new r) (there : InTableTree root r.table) where
    -- its children are new
    fresh_child : (q : Packed) → IsChildTable r.table q → (IsOpen root (mark_in old) q ⊎ IsSome (claim_in old q)) → ⊥
    fresh_child q child is = let w = parents r.table q there child is in taken.before w.0 w.1

    pub new_child_is : (q : Packed) → (((k : ℕ) × (ending_by r.claim ≡ Some (Halts k))) × IsChildTable r.table q) ↔ IsNewChild old r q
    new_child_is q = (
      λ h. record {
        count = h.0.0;
        halts = h.0.1;
        child = h.1;
        unrecorded = elim (gone_or_there old q) [ inl none ↦ none | inr some ↦ absurd (fresh_child q h.1 (inr some)) ];
        other = λ (e : q ≡ r.table). no_way_up r.table r.table (tree_alike root r.table is_table there).is_table Itself (subst (IsChildTable r.table) e h.1);
      },
      λ h. ((h.count, h.halts), h.child),
    )

    -- what is recorded of a table other than its own, and of its own
    mark_other : (q : Packed) → q ≢ r.table → mark_in new q ≡ mark_in old q
    mark_other q other = ap (option_map mark_of) (taken.others q other)

    mark_here : mark_in new r.table ≡ Some (mark_by (ending_by r.claim))
    mark_here = ap (option_map mark_of) taken.here

    same_or_other : (q : Packed) → (q ≡ r.table) ⊎ (q ≢ r.table)
    same_or_other q = elim (same_table q r.table) as (λ v. same_table q r.table ≡ v → (q ≡ r.table) ⊎ (q ≢ r.table)) [
      | true ↦ λ same. inl (same_is q r.table same)
      | false ↦ λ other. inr (apart q r.table other)
    ] refl

    undecided_mark : (o : Option Ending) → mark_by o ≡ Holdout → o ≡ None
    undecided_mark None is = refl
    undecided_mark (Some (Halts k)) is = cc
    undecided_mark (Some Never) is = cc

    still_halting : (k : ℕ) (q : Packed) → mark_in old q ≡ Some (Halting k) → mark_in new q ≡ Some (Halting k)
    still_halting k q halting = mark_other q (λ (e : q ≡ r.table). taken.before k (subst (λ (x : Packed). mark_in old x ≡ Some (Halting k)) e halting)) ∙ halting

    -- in the tree of a table in whose tree its own stands
    module _ (p : Packed) (inside : InTableTree p r.table) where
      open_law : (q : Packed) → (InTableTree p q × IsOpen root (mark_in new) q) ↔ (((InTableTree p q × IsOpen root (mark_in old) q) × (q ≢ r.table)) ⊎ IsNewChild old r q)
      open_law q = let law = open_taken root old new r q taken in (
        λ h. elim (law.0 h.1) [ inl a ↦ inl ((h.0, a.0), a.1) | inr u ↦ inr u ],
        λ h. elim h [ inl a ↦ (a.0.0, law.1 (inl (a.0.1, a.1))) | inr u ↦ (tree_table_child p r.table q inside u.child, law.1 (inr u)) ],
      )

      open_apart : (q : Packed) → InTableTree p q × IsOpen root (mark_in old) q → IsNewChild old r q → ⊥
      open_apart q h u = fresh_child q u.child (inl h.1)

      open_taking : (n opened : ℕ) → IsOpen root (mark_in old) r.table → AreSoMany (IsNewChild old r) opened → AreSoMany (λ q. InTableTree p q × IsOpen root (mark_in old) q) n
          → AreSoMany (λ q. InTableTree p q × IsOpen root (mark_in new) q) (n + opened - 1) × (1 ≤ n)
      open_taking n opened is_open children many =
          let less = many_less (λ q. InTableTree p q × IsOpen root (mark_in old) q) r.table n many (inside, is_open) in
          let all = many_both (λ q. (InTableTree p q × IsOpen root (mark_in old) q) × (q ≢ r.table)) (IsNewChild old r) (n - 1) opened less.0 children (λ q h u. open_apart q h.0 u) in
          let number : n - 1 + opened ≡ n + opened - 1 = omega (arith, less.1) in (
            subst (AreSoMany (λ q. InTableTree p q × IsOpen root (mark_in new) q)) number
                (many_same (λ q. ((InTableTree p q × IsOpen root (mark_in old) q) × (q ≢ r.table)) ⊎ IsNewChild old r q) (λ q. InTableTree p q × IsOpen root (mark_in new) q) (n - 1 + opened)
                (λ q. ((open_law q).1, (open_law q).0)) all),
            less.1,
          )

      open_settling : (n opened : ℕ) → (IsOpen root (mark_in old) r.table → ⊥) → AreSoMany (IsNewChild old r) opened → AreSoMany (λ q. InTableTree p q × IsOpen root (mark_in old) q) n
          → AreSoMany (λ q. InTableTree p q × IsOpen root (mark_in new) q) (n + opened - 0)
      open_settling n opened closed children many =
          let all = many_both (λ q. InTableTree p q × IsOpen root (mark_in old) q) (IsNewChild old r) n opened many children open_apart in
          let number : n + opened ≡ n + opened - 0 = omega arith in
          subst (AreSoMany (λ q. InTableTree p q × IsOpen root (mark_in new) q)) number
          (many_same (λ q. (InTableTree p q × IsOpen root (mark_in old) q) ⊎ IsNewChild old r q) (λ q. InTableTree p q × IsOpen root (mark_in new) q) (n + opened)
          (λ q. (
            λ h. (open_law q).1 (elim h [ inl a ↦ inl (a, λ (e : q ≡ r.table). closed (subst (IsOpen root (mark_in old)) e a.1)) | inr u ↦ inr u ]),
            λ h. elim ((open_law q).0 h) [ inl a ↦ inl a.0 | inr u ↦ inr u ],
          )) all)

      -- holdouts
      holdout_law : (q : Packed) → (InTableTree p q × IsHoldout new q) ↔ (((InTableTree p q × IsHoldout old q) × (q ≢ r.table)) ⊎ ((q ≡ r.table) × (ending_by r.claim ≡ None)))
      holdout_law q = (
        λ h. elim (same_or_other q) [
          | inl same ↦ let here = subst (IsHoldout new) same h.1 in let marked = mark_here in let is : mark_by (ending_by r.claim) ≡ Holdout = cc in inr (same, undecided_mark (ending_by r.claim) is)
          | inr other ↦ inl ((h.0, sym (mark_other q other) ∙ h.1), other)
        ],
        λ h. elim h [
          | inl a ↦ (a.0.0, mark_other q a.1 ∙ a.0.1)
          | inr u ↦ subst (λ (x : Packed). InTableTree p x × IsHoldout new x) (sym u.0) (inside, mark_here ∙ ap (λ (o : Option Ending). Some (mark_by o)) u.1)
        ],
      )

      holdouts_taking : (n : ℕ) → (IsHoldout old r.table → ⊥) → AreSoMany (λ q. InTableTree p q × IsHoldout old q) n
          → AreSoMany (λ q. InTableTree p q × IsHoldout new q) (n + one_undecided (ending_by r.claim) - 0)
      holdouts_taking n other many = by (ending_by r.claim) refl
        where
          still_there : (q : Packed) → InTableTree p q × IsHoldout old q → (InTableTree p q × IsHoldout old q) × (q ≢ r.table)
          still_there q h = (h, λ (e : q ≡ r.table). other (subst (IsHoldout old) e h.1))

          by : (o : Option Ending) → ending_by r.claim ≡ o → AreSoMany (λ q. InTableTree p q × IsHoldout new q) (n + one_undecided o - 0)
          by None is =
              let all = many_both (λ q. InTableTree p q × IsHoldout old q) (λ q. q ≡ r.table) n 1 many (one_many r.table) (λ q h e. (still_there q h).1 e) in
              let number : n + 1 ≡ n + 1 - 0 = omega arith in
              subst (AreSoMany (λ q. InTableTree p q × IsHoldout new q)) number
              (many_same (λ q. (InTableTree p q × IsHoldout old q) ⊎ (q ≡ r.table)) (λ q. InTableTree p q × IsHoldout new q) (n + 1)
              (λ q. (
                λ h. (holdout_law q).1 (elim h [ inl a ↦ inl (still_there q a) | inr e ↦ inr (e, is) ]),
                λ h. elim ((holdout_law q).0 h) [ inl a ↦ inl a.0 | inr u ↦ inr u.0 ],
              )) all)
          by (Some v) is =
              let number : n ≡ n + 0 - 0 = omega arith in
              subst (AreSoMany (λ q. InTableTree p q × IsHoldout new q)) number
              (many_same (λ q. InTableTree p q × IsHoldout old q) (λ q. InTableTree p q × IsHoldout new q) n
              (λ q. (
                λ h. (holdout_law q).1 (inl (still_there q h)),
                λ h. elim ((holdout_law q).0 h) [ inl a ↦ a.0 | inr u ↦ let none = u.1 in absurd (cc) ],
              )) many)

      holdouts_settling : (n : ℕ) → IsHoldout old r.table → IsSome (ending_by r.claim) → AreSoMany (λ q. InTableTree p q × IsHoldout old q) n
          → AreSoMany (λ q. InTableTree p q × IsHoldout new q) (n + 0 - 1) × (1 ≤ n)
      holdouts_settling n holdout verdict many =
          let less = many_less (λ q. InTableTree p q × IsHoldout old q) r.table n many (inside, holdout) in
          let number : n - 1 ≡ n + 0 - 1 = omega arith in (
            subst (AreSoMany (λ q. InTableTree p q × IsHoldout new q)) number
                (many_same (λ q. (InTableTree p q × IsHoldout old q) × (q ≢ r.table)) (λ q. InTableTree p q × IsHoldout new q) (n - 1)
                (λ q. (
                  λ h. (holdout_law q).1 (inl h),
                  λ h. elim ((holdout_law q).0 h) [ inl a ↦ a | inr u ↦ absurd (shows (ending_by r.claim) verdict u.1) ],
                )) less.0),
            less.1,
          )
        where
          shows : (o : Option Ending) → IsSome o → o ≡ None → ⊥
          shows None some none = cc
          shows (Some v) some none = cc

      -- the greatest number
      best_taking : (b : Option ℕ) → IsGreatestRecorded (λ t k. k) (mark_in old) p b → IsGreatestRecorded (λ t k. k) (mark_in new) p (greater b (steps_of (ending_by r.claim)))
      best_taking b best = from_greatest (mark_in new) p (greater b (steps_of (ending_by r.claim)))
          (greatest_more (HaltsBelow (mark_in old) p) (HaltsBelow (mark_in new) p) b (steps_of (ending_by r.claim))
          (λ k q h. elim (halts_after old new r k q taken h.1) [ inl before ↦ inl (h.0, before) | inr steps ↦ inr steps ])
          (λ k q h. (h.0, still_halting k q h.1))
          (λ k steps. (r.table, (inside, mark_here ∙ ap (λ (m : Mark). Some m) (halting_steps (ending_by r.claim) k steps))))
          (to_greatest (mark_in old) p b best))

      ones_taking : (b : Option ℕ) → HasScore r → IsGreatestRecorded score_of_steps (mark_in old) p b → IsGreatestRecorded score_of_steps (mark_in new) p (greater b (score_by r.claim))
      ones_taking b has best = from_ones (mark_in new) p (greater b (score_by r.claim))
          (greatest_more (OnesBelow (mark_in old) p) (OnesBelow (mark_in new) p) b (score_by r.claim)
          (λ s q h. elim (ones_after old new r s q has taken (h.0, h.2, h.3)) [ inl before ↦ inl (before.0, h.1, before.1, before.2) | inr now ↦ inr now ])
          (λ s q h. (h.0, h.1, still_halting h.0 q h.2, h.3))
          (λ s is. let now = ones_now old new r s has taken is in (r.table, (now.0, inside, now.1, now.2)))
          (to_ones (mark_in old) p b best))

      pub count_taken : (n : TreeCount) (opened : ℕ) → IsOpen root (mark_in old) r.table → AreSoMany (IsNewChild old r) opened → HasScore r → IsTreeCount root old p n
          → IsTreeCount root new p (changed_count (taking_change opened (ending_by r.claim) (score_by r.claim)) n)
      count_taken n opened is_open children has count = record {
        open_count = (open_taking n.open_count opened is_open children count.open_count).0;
        holdouts = holdouts_taking n.holdouts (λ h. let unmarked = is_open.unmarked in absurd (cc)) count.holdouts;
        best = best_taking n.best count.best;
        ones = ones_taking n.ones has count.ones;
      }

      pub count_settled : (n : TreeCount) (opened : ℕ) → IsHoldout old r.table → IsSome (ending_by r.claim) → AreSoMany (IsNewChild old r) opened → HasScore r → IsTreeCount root old p n
          → IsTreeCount root new p (changed_count (resolving_change opened (ending_by r.claim) (score_by r.claim)) n)
      count_settled n opened holdout verdict children has count = record {
        open_count = open_settling n.open_count opened (λ is_open. let unmarked = is_open.unmarked in absurd (cc)) children count.open_count;
        holdouts = (holdouts_settling n.holdouts holdout verdict count.holdouts).0;
        best = best_taking n.best count.best;
        ones = ones_taking n.ones has count.ones;
      }

      -- there is room for the change
      pub taken_room : (n : TreeCount) (opened opens records : ℕ) → IsCertified r → IsOpen root (mark_in old) r.table → AreSoMany (IsNewChild old r) opened
          → AreSoMany (IsOpen root (mark_in old)) opens → opens + opened < 2 ^ 32 → AreSoMany (IsHoldout old) records → records + 1 < 2 ^ 32 → IsTreeCount root old p n
          → MayChange n (taking_change opened (ending_by r.claim) (score_by r.claim))
      taken_room n opened opens records certified is_open children all few holdouts under count =
          let most = no_more (λ q. InTableTree p q × IsOpen root (mark_in old) q) (IsOpen root (mark_in old)) n.open_count opens (λ q h. h.1) count.open_count all in
          let also = no_more (λ q. InTableTree p q × IsHoldout old q) (IsHoldout old) n.holdouts records (λ q h. h.1) count.holdouts holdouts in
          let one = at_most_one (ending_by r.claim) in
          let some = (open_taking n.open_count opened is_open children count.open_count).1 in
          let small = certified_small r certified in
          record {
            open_room = omega (arith, most, few);
            open_less = some;
            holdouts_room = λ fits. omega (arith, also, under, one);
            holdouts_less = omega arith;
            steps_room = small.0;
            ones_room = small.1;
          }
        where
          at_most_one : (o : Option Ending) → one_undecided o ≤ 1
          at_most_one None = omega arith
          at_most_one (Some v) = omega arith

      pub settled_room : (n : TreeCount) (opened opens : ℕ) → IsCertified r → IsHoldout old r.table → IsSome (ending_by r.claim)
          → AreSoMany (IsOpen root (mark_in old)) opens → opens + opened < 2 ^ 32 → IsTreeCount root old p n
          → MayChange n (resolving_change opened (ending_by r.claim) (score_by r.claim))
      settled_room n opened opens certified holdout verdict all few count =
          let most = no_more (λ q. InTableTree p q × IsOpen root (mark_in old) q) (IsOpen root (mark_in old)) n.open_count opens (λ q h. h.1) count.open_count all in
          let some = (holdouts_settling n.holdouts holdout verdict count.holdouts).1 in
          let small = certified_small r certified in
          record {
            open_room = omega (arith, most, few);
            open_less = omega arith;
            holdouts_room = λ fits. omega (arith, fits);
            holdouts_less = some;
            steps_room = small.0;
            ones_room = small.1;
          }

    -- in the tree of a recorded table in whose tree its own doesn't stand, nothing changes
    pub count_kept : (p : Packed) (n : TreeCount) → InTableTree root p → IsSome (claim_in old p) → (InTableTree p r.table → ⊥) → IsTreeCount root old p n → IsTreeCount root new p n
    count_kept p n above recorded outside count = record {
      open_count = many_same (λ q. InTableTree p q × IsOpen root (mark_in old) q) (λ q. InTableTree p q × IsOpen root (mark_in new) q) n.open_count
          (λ q. let law = open_taken root old new r q taken in (
            λ h. (h.0, law.1 (inl (h.1, other q h.0))),
            λ h. elim (law.0 h.1) [ inl a ↦ (h.0, a.0) | inr u ↦ absurd (not_new q h.0 u) ],
          )) count.open_count;
      holdouts = many_same (λ q. InTableTree p q × IsHoldout old q) (λ q. InTableTree p q × IsHoldout new q) n.holdouts
          (λ q. (λ h. (h.0, mark_other q (other q h.0) ∙ h.1), λ h. (h.0, sym (mark_other q (other q h.0)) ∙ h.1))) count.holdouts;
      best = from_greatest (mark_in new) p n.best (greatest_same (HaltsBelow (mark_in old) p) (HaltsBelow (mark_in new) p) n.best
          (λ k q. (λ h. (h.0, mark_other q (other q h.0) ∙ h.1), λ h. (h.0, sym (mark_other q (other q h.0)) ∙ h.1))) (to_greatest (mark_in old) p n.best count.best));
      ones = from_ones (mark_in new) p n.ones (greatest_same (OnesBelow (mark_in old) p) (OnesBelow (mark_in new) p) n.ones
          (λ s q. (λ h. (h.0, h.1, mark_other q (other q h.1) ∙ h.2, h.3), λ h. (h.0, h.1, sym (mark_other q (other q h.1)) ∙ h.2, h.3))) (to_ones (mark_in old) p n.ones count.ones));
    }
      where
        other : (q : Packed) → InTableTree p q → q ≢ r.table
        other q inside = λ (e : q ≡ r.table). outside (subst (InTableTree p) e inside)

        some_claim : (o : Option Claim) → IsSome o → o ≡ None → ⊥
        some_claim None some none = cc
        some_claim (Some c) some none = cc

        not_new : (q : Packed) → InTableTree p q → IsNewChild old r q → ⊥
        not_new q inside u = elim (last_step p q inside) [
          | inl same ↦ some_claim (claim_in old p) recorded (subst (λ (x : Packed). claim_in old x ≡ None) (sym same) u.unrecorded)
          | inr w ↦ outside (subst (InTableTree p) (one_table_parent root w.0 r.table q is_table (tree_twice root p w.0 above w.1) there w.2 u.child) w.1)
        ]
