-- The best of a complete board is that of its root; and the bounds of tables, by their trees' numbers.
use Rattle.std.proofs.Common.{◌≡◌, ℕ, ◌≤◌, List, Option, Some, None, option_map, IfSome, ◌↔◌, refl, sym, ◌∙◌, ap, subst, IsSome, arith}
use Rattle.machine_text.specs.Terms.{Packed, IsTable, entry_of, empty_table}
use Rattle.machine_text.specs.declared.limits.TheConstants.{MAX_STATES}
use Rattle.law_turing.specs.Terms.{HaltsAt, IsRado, HaltsWith, score_at}
use Rattle.law_turing.proofs.RunLaws.{halts_with}
use Rattle.kind_evidence.specs.Terms.{IsTrueOf, ending_of}
use Rattle.kind_evidence.specs.declared.verdicts.Ending.{Ending}
use Rattle.kind_evidence.specs.declared.verdicts.Verdict.{Verdict}
use Rattle.kind_evidence.specs.declared.verdicts.Verdict.TheVariants.{Halts, Never as NeverHalts}
use Rattle.law_tree.specs.Terms.{InOrder, Scores, IsGreatestOfAll, Mark, Halting, NeverHalting, Holdout, IsTrueMark, AreTrueMarks, AreTrueScores, IsClosed, IsComplete, IsGreatestRecorded, InTableTree, Itself, IsBestOfTable, IsVerdict, IsOpen}
use Rattle.cert.specs.Terms.{Claim, Recorded, Stands, shown_by}
use Rattle.ledger.specs.Records.{claim_in, mark_in, mark_of, mark_by, Contents, IsBoard, IsSigma, IsHoldout}
use Rattle.ledger.specs.Tally.{IsGreatestCount, IsGreatestOnes, IsStatus}
use Rattle.ledger.specs.declared.faults.Status.{Status}
use Rattle.ledger.specs.declared.faults.Status.TheVariants.{Complete}
use Rattle.cert.proofs.Claims.{ends_as_shown}
use Rattle.ledger.proofs.HeldLaws.{held_stands}
use Rattle.ledger.proofs.OpenLaws.{recorded_in_tree}
use Rattle.ledger.proofs.BoardLaws.{Below, OfTables, marked_in_tree, marked_in_order, none_of, KeepsOrder}
use Rattle.ledger.specs.Offers.{IsBound}
use Rattle.ledger.specs.inside.Trees.{IsTreeCount}
use Rattle.ledger.specs.declared.tree_count.TreeCount.{TreeCount}
use Rattle.ledger.specs.declared.counts.Bound.TheVariants.{Open, Closed}
use Rattle.ledger.proofs.Amounts.{none_of_kind}

-- The best of a complete board is that of its root.

-- the laws of claims and trees that the code calls
abbrev pub Claims : Type 0
Claims = (c : Claim) (p : Packed) → IsTable p → Stands c p → IfSome (shown_by c p) (λ (v : Verdict). IsTrueOf v (entry_of p))

abbrev pub CompleteIsClosed : Type 0
CompleteIsClosed = (root t : Packed) (marks : Packed → Option Mark) → AreTrueMarks marks → IsComplete root marks → InTableTree root t → IsClosed root marks t

abbrev pub ClosedIsBest : Type 0
ClosedIsBest = (root p : Packed) (u : ℕ) (marks : Packed → Option Mark) (b : Option ℕ) → AreTrueMarks marks → IsTable p → InOrder u (entry_of p) → IsClosed root marks p
    → IsBestOfTable HaltsAt p b ↔ IsGreatestRecorded (λ (t : Packed) (k : ℕ). k) marks p b

abbrev pub CompleteIsRado : Type 0
CompleteIsRado = (n s : ℕ) (marks : Packed → Option Mark) → 1 ≤ n → n ≤ MAX_STATES → AreTrueMarks marks → IsComplete (empty_table n) marks
    → IsGreatestRecorded (λ (t : Packed) (k : ℕ). k) marks (empty_table n) (Some s) ↔ IsRado n s

abbrev pub ClosedIsBestScore : Type 0
ClosedIsBestScore = (root p : Packed) (u : ℕ) (marks : Packed → Option Mark) (scores : Packed → ℕ) (b : Option ℕ) → AreTrueMarks marks → AreTrueScores marks scores → IsTable p → InOrder u (entry_of p) → IsClosed root marks p
    → IsBestOfTable Scores p b ↔ IsGreatestRecorded (λ (t : Packed) (k : ℕ). scores t) marks p b

abbrev pub CompleteIsSigma : Type 0
CompleteIsSigma = (n s : ℕ) (marks : Packed → Option Mark) (scores : Packed → ℕ) → 1 ≤ n → n ≤ MAX_STATES → AreTrueMarks marks → AreTrueScores marks scores → IsComplete (empty_table n) marks
    → IsGreatestRecorded (λ (t : Packed) (k : ℕ). scores t) marks (empty_table n) (Some s) ↔ IsGreatestOfAll Scores n s

true_mark : (o : Option Verdict) (t : Packed) → IfSome o (λ (v : Verdict). IsTrueOf v (entry_of t)) → IsTrueMark t (Some (mark_by (option_map ending_of o)))
true_mark None t h = tt
true_mark (Some (Halts k s)) t h = h.halts
true_mark (Some NeverHalts) t h = h

pub true_marks : (b : Contents) → Below → OfTables → Claims → IsBoard b → AreTrueMarks (mark_in b.records)
true_marks b below tables claims board = λ t. elim (claim_in b.records t) as (λ o. claim_in b.records t ≡ o → IsTrueMark t (option_map mark_of o)) [
  | None ↦ λ none. tt
  | Some c ↦ λ is.
      let is_table = (tables b.root t board.is_table (recorded_in_tree b.root b.records t c below board.held is)).0 in
      subst (λ (o : Option Ending). IsTrueMark t (Some (mark_by o))) (ends_as_shown c t) (true_mark (shown_by c t) t (claims c t is_table (held_stands b.root b.records t c board.held is)))
] refl

greatest_in_tree : (b : Contents) (best : Option ℕ) → Below → IsBoard b → IsGreatestCount b.records best → IsGreatestRecorded (λ (t : Packed) (k : ℕ). k) (mark_in b.records) b.root best
greatest_in_tree b None below board greatest = λ t k inside marked. greatest t k marked
greatest_in_tree b (Some s) below board greatest = (
  (greatest.0.0, s, marked_in_tree b greatest.0.0 (Halting s) below board greatest.0.1, greatest.0.1, refl),
  λ t k inside marked. greatest.1 t k marked,
)

complete_parts : (root : Packed) (rs : List Recorded) (status : Status) (best ones : Option ℕ) → IsStatus root rs status → status ≡ Complete best ones → IsComplete root (mark_in rs) × IsGreatestCount rs best × IsGreatestOnes rs ones
complete_parts root rs status best ones stands is = subst (IsStatus root rs) is stands

pub complete_best : (b : Contents) (status : Status) (best ones : Option ℕ) → Below → OfTables → Claims → CompleteIsClosed → ClosedIsBest → IsBoard b → IsStatus b.root b.records status → status ≡ Complete best ones
    → IsBestOfTable HaltsAt b.root best
complete_best b status best ones below tables claims closes bests board stands is =
    let parts = complete_parts b.root b.records status best ones stands is in
    let marks = true_marks b below tables claims board in
    (bests b.root b.root board.in_order.0 (mark_in b.records) best marks board.is_table board.in_order.1 (closes b.root b.root (mark_in b.records) marks parts.0 Itself)).1 (greatest_in_tree b best below board parts.1)

pub complete_rado : (b : Contents) (status : Status) (n s : ℕ) (ones : Option ℕ) → Below → OfTables → Claims → CompleteIsRado → IsBoard b → IsStatus b.root b.records status → 1 ≤ n → n ≤ MAX_STATES
    → b.root ≡ empty_table n → status ≡ Complete (Some s) ones → IsRado n s
complete_rado b status n s ones below tables claims rado board stands some within root is =
    let parts = complete_parts b.root b.records status (Some s) ones stands is in
    let greatest = greatest_in_tree b (Some s) below board parts.1 in
    (rado n s (mark_in b.records) some within (true_marks b below tables claims board) (subst (λ (p : Packed). IsComplete p (mark_in b.records)) root parts.0)).0
    (subst (λ (p : Packed). IsGreatestRecorded (λ (t : Packed) (k : ℕ). k) (mark_in b.records) p (Some s)) root greatest)

-- the score of a table by its mark, which is true where the mark is
abbrev score_marked : Packed → Option Mark → ℕ
score_marked t None = 0
score_marked t (Some (Halting k)) = score_at (entry_of t) k
score_marked t (Some NeverHalting) = 0
score_marked t (Some Holdout) = 0

abbrev scores_by : (Packed → Option Mark) → Packed → ℕ
scores_by marks t = score_marked t (marks t)

true_scores : (marks : Packed → Option Mark) → AreTrueMarks marks → AreTrueScores marks (scores_by marks)
true_scores marks true_marks = λ t k is.
    subst (HaltsWith (entry_of t) k) (sym (ap (score_marked t) is)) (halts_with (entry_of t) k (subst (IsTrueMark t) is (true_marks t)))

greatest_by_marks : (marks : Packed → Option Mark) (p : Packed) (b : Option ℕ) → IsGreatestRecorded (λ (t : Packed) (k : ℕ). score_at (entry_of t) k) marks p b
    → IsGreatestRecorded (λ (t : Packed) (k : ℕ). scores_by marks t) marks p b
greatest_by_marks marks p None g = g
greatest_by_marks marks p (Some s) g =
    let (t, k, inside, is, same) = g.0 in (
      (t, k, inside, is, same ∙ sym (ap (score_marked t) is)),
      λ t k inside is. subst (λ (n : ℕ). n ≤ s) (sym (ap (score_marked t) is)) (g.1 t k inside is),
    )

ones_in_tree : (b : Contents) (ones : Option ℕ) → Below → IsBoard b → IsGreatestOnes b.records ones → IsGreatestRecorded (λ (t : Packed) (k : ℕ). score_at (entry_of t) k) (mark_in b.records) b.root ones
ones_in_tree b None below board greatest = λ t k inside marked. greatest t (score_at (entry_of t) k) (k, marked, refl)
ones_in_tree b (Some s) below board greatest = (
  (greatest.0.0, greatest.0.1.0, marked_in_tree b greatest.0.0 (Halting greatest.0.1.0) below board greatest.0.1.1, greatest.0.1.1, greatest.0.1.2),
  λ t k inside marked. greatest.1 t (score_at (entry_of t) k) (k, marked, refl),
)

-- so the greatest score of a closed table is its best
pub closed_ones : (root p : Packed) (u : ℕ) (marks : Packed → Option Mark) (ones : Option ℕ) → ClosedIsBestScore → AreTrueMarks marks → IsTable p → InOrder u (entry_of p) → IsClosed root marks p
    → IsGreatestRecorded (λ (t : Packed) (k : ℕ). score_at (entry_of t) k) marks p ones → IsBestOfTable Scores p ones
closed_ones root p u marks ones bests true_ones is_table in_order closed greatest =
    (bests root p u marks (scores_by marks) ones true_ones (true_scores marks true_ones) is_table in_order closed).1 (greatest_by_marks marks p ones greatest)

pub complete_ones : (b : Contents) (status : Status) (best ones : Option ℕ) → Below → OfTables → Claims → CompleteIsClosed → ClosedIsBestScore → IsBoard b → IsStatus b.root b.records status → status ≡ Complete best ones
    → IsBestOfTable Scores b.root ones
complete_ones b status best ones below tables claims closes bests board stands is =
    let parts = complete_parts b.root b.records status best ones stands is in
    let marks = true_marks b below tables claims board in
    closed_ones b.root b.root board.in_order.0 (mark_in b.records) ones bests marks board.is_table board.in_order.1 (closes b.root b.root (mark_in b.records) marks parts.0 Itself) (ones_in_tree b ones below board parts.2)

pub complete_sigma : (b : Contents) (status : Status) (n s : ℕ) (best : Option ℕ) → Below → OfTables → Claims → CompleteIsSigma → IsBoard b → IsStatus b.root b.records status → 1 ≤ n → n ≤ MAX_STATES
    → b.root ≡ empty_table n → status ≡ Complete best (Some s) → IsSigma n s
complete_sigma b status n s best below tables claims sigma board stands some within root is =
    let parts = complete_parts b.root b.records status best (Some s) stands is in
    let marks = true_marks b below tables claims board in
    let greatest = greatest_by_marks (mark_in b.records) b.root (Some s) (ones_in_tree b (Some s) below board parts.2) in
    let all = (sigma n s (mark_in b.records) (scores_by (mark_in b.records)) some within marks (true_scores (mark_in b.records) marks) (subst (λ (p : Packed). IsComplete p (mark_in b.records)) root parts.0)).0
    (subst (λ (p : Packed). IsGreatestRecorded (λ (t : Packed) (k : ℕ). scores_by (mark_in b.records) t) (mark_in b.records) p (Some s)) root greatest) in
    record { champion = all.champion; is_machine = all.is_machine; scores = all.worth; greatest = all.greatest }

-- The bound of a table, by the numbers of its tree.
some_claim : (o : Option Claim) → IsSome o → (c : Claim) × (o ≡ Some c)
some_claim None some = cc
some_claim (Some c) some = (c, refl)

-- a recorded table in whose tree nothing is open or a holdout is closed
pub bound_settled : (root : Packed) (rs : List Recorded) (t : Packed) (n : TreeCount) → IsTreeCount root rs t n → IsSome (claim_in rs t) → n.open_count ≡ 0 → n.holdouts ≡ 0 → IsBound root rs t (Closed n.best n.ones)
bound_settled root rs t n count recorded no_open no_holdouts =
    let none_open = none_of (λ q. InTableTree t q × IsOpen root (mark_in rs) q) n.open_count count.open_count (omega (arith, no_open)) in
    let none_held = none_of (λ q. InTableTree t q × IsHoldout rs q) n.holdouts count.holdouts (omega (arith, no_holdouts)) in
    let c = some_claim (claim_in rs t) recorded in (
      record {
        verdict = verdict_of (mark_of c.0) (ap (option_map mark_of) c.1) none_held;
        none_open = λ q inside is_open. none_open q (inside, is_open);
        no_holdout = λ q inside holdout. none_held q (inside, holdout);
      },
      count.best,
      count.ones,
    )
  where
    verdict_of : (m : Mark) → mark_in rs t ≡ Some m → ((q : Packed) → InTableTree t q × IsHoldout rs q → ⊥) → IsVerdict (mark_in rs t)
    verdict_of (Halting k) is none = subst IsVerdict (sym is) tt
    verdict_of NeverHalting is none = subst IsVerdict (sym is) tt
    verdict_of Holdout is none = absurd (none t (Itself, is))

-- one in whose tree something is isn't
pub bound_unsettled : (root : Packed) (rs : List Recorded) (t : Packed) (n : TreeCount) → IsTreeCount root rs t n → IsSome (claim_in rs t) → (((n.open_count ≡ 0) × (n.holdouts ≡ 0)) → ⊥) → IsBound root rs t Open
bound_unsettled root rs t n count recorded some = (
  λ elsewhere. let c = some_claim (claim_in rs t) recorded in let none = elsewhere.unrecorded in cc (c.1, none),
  λ closed. some (
    none_of_kind (λ q. InTableTree t q × IsOpen root (mark_in rs) q) n.open_count count.open_count (λ q h. closed.none_open q h.0 h.1),
    none_of_kind (λ q. InTableTree t q × IsHoldout rs q) n.holdouts count.holdouts (λ q h. closed.no_holdout q h.0 h.1),
  ),
)

-- one without a record is open, or nothing is known of it
pub unrecorded : (o : Option Claim) → (IsSome o → ⊥) → o ≡ None
unrecorded None h = refl
unrecorded (Some c) h = absurd (h refl)

some_mark : (o : Option Mark) → IsVerdict o → (m : Mark) × (o ≡ Some m)
some_mark None verdict = absurd verdict
some_mark (Some m) verdict = (m, refl)

-- a closed table is recorded, so it is in order, and the greatest in its tree is its best
pub closed_bound : (b : Contents) (t : Packed) (best ones : Option ℕ) → Below → KeepsOrder → ClosedIsBest → IsBoard b → IsTable t → AreTrueMarks (mark_in b.records) → IsBound b.root b.records t (Closed best ones)
    → IsBestOfTable HaltsAt t best
closed_bound b t best ones below keeps bests board is_table true_marks bound =
    let marked = some_mark (mark_in b.records t) bound.0.verdict in
    let in_order = marked_in_order b t marked.0 below keeps board marked.1 in
    (bests b.root t in_order.0 (mark_in b.records) best true_marks is_table in_order.1 bound.0).1 bound.1

pub closed_bound_ones : (b : Contents) (t : Packed) (best ones : Option ℕ) → Below → KeepsOrder → ClosedIsBestScore → IsBoard b → IsTable t → AreTrueMarks (mark_in b.records) → IsBound b.root b.records t (Closed best ones)
    → IsBestOfTable Scores t ones
closed_bound_ones b t best ones below keeps bests board is_table true_marks bound =
    let marked = some_mark (mark_in b.records t) bound.0.verdict in
    let in_order = marked_in_order b t marked.0 below keeps board marked.1 in
    closed_ones b.root t in_order.0 (mark_in b.records) ones bests true_marks is_table in_order.1 bound.0 bound.2
