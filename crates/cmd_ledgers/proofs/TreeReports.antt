-- The report of a board: how its parts are written, and what it tells of its tree.
use Rattle.std.proofs.Common.{◌≡◌, ℕ, ◌<◌, ◌≤◌, List, [], ◌∷◌, Option, Some, None, codes, refl, sym, ap, ◌∙◌, subst, arith, Result, Ok, Err, ◌⊎◌, inl, inr, get_or, ◌++◌, IfOk, OnErr, OnOk, append_assoc, append-nil}
use Rattle.std.specs.Io.KnownBytes.{Appends}
use Rattle.std.proofs.KnownBytes.{Appends-nil, Appends-trans}
use Rattle.machine_text.specs.Terms.{state_limit, Packed, empty_table}
use Rattle.law_turing.specs.Terms.{Machine, start, from, HaltsAt, IsRado, score_at}
use Rattle.law_turing.proofs.RunLaws.{halts_with}
use Rattle.law_tree.specs.Terms.{IsGreatestOfAll, Scores, IsComplete, empty_machine, IsDecidedTable, IsGreatestInTables}
use Rattle.law_tree.specs.Tree.InTableTree.{Itself}
use Rattle.law_tree.proofs.TableLaws.{closed_decided, complete_closed, empty_map, greatest_of_all_tables}
use Rattle.law_tree.proofs.TreeLaws.{rado_is_greatest}
use Rattle.law_tree.proofs.Extensions.{IsWorth, steps_worth, score_worth}
use Rattle.cert.specs.Terms.{Recorded}
use Rattle.ledger.specs.Terms.{Contents, IsBoard, mark_in, IsSigma, AreAll, AreSoMany, IsStatus, IsTreeChampion, IsTreeOnesChampion, IsGreatestCount, IsGreatestOnes}
use Rattle.ledger.specs.declared.counts.Tally.{Tally}
use Rattle.ledger.specs.declared.faults.Status.{Status}
use Rattle.ledger.specs.declared.faults.Status.TheVariants.{Working, Holdouts, Complete}
use Rattle.ledger.proofs.HeldLaws.{first_member}
use Rattle.ledger.proofs.Sets.{nobody}
use Rattle.ledger.proofs.WholeTree.{board_marks, as_many, whole_tally, whole_champions, whole_ones_champions, one_tally, one_list_of_champions, one_list_of_ones_champions, all_halting, all_ones}
use Rattle.cmd_ledgers.specs.Report.{status_name, IsReportIn, Wording, IsTreeReportIn, TellsRadoIn, FormText, ReportsTree, ReportsComplete, EndsByReport, SettlesTree, TellsByReport, Passes}
use Rattle.ledger.specs.declared.loading.Left.TheVariants.{Nothing}
use Rattle.cmd_options.specs.Terms.{EndsTold, outcome_of}
use Rattle.cmd_options.specs.declared.ended.Outcome.{Outcome}
use Rattle.cmd_options.specs.declared.ended.Outcome.TheVariants.{Accepted, Refused, BadLine, NoMemory, Failed}
use Rattle.cmd_options.specs.declared.ended.Ended.{Ended}
use Rattle.cmd_options.specs.declared.ended.Ended.TheVariants.{BadHeader, WrongRoot, HasPart, OutInFolder, Stream, Ledger, File, Locked, NoMemory as WantsMemory}
use Rattle.cmd_ledgers.specs.LedgerReport.{outcome_by}

-- A complete board's report, in any wording, is that of its tree, and a tree has one.

-- where no table is of a kind, none is listed, and there are none
pub none_listed : (K : Packed → Type 0) (tables : List Packed) → ((t : Packed) → K t → ⊥) → AreAll K tables → tables ≡ []
none_listed K [] none all = refl
none_listed K (t ∷ ts) none all = absurd (none t ((all.exact t).0 (first_member t t ts refl)))

none_many : (K : Packed → Type 0) (n : ℕ) → 0 < n → AreSoMany K n → ((t : Packed) → K t → ⊥) → ⊥
none_many K n some x none =
    let zero = as_many K (λ (t : Packed). ⊥) n 0 (λ t. (none t, λ f. absurd f)) x
    (record { tables = []; exact = λ t. (λ at. nobody at, λ f. absurd f); once = λ i j d less below. absurd (omega arith); is = refl }) in
    omega (arith, some, zero)

pub complete_status : (root : Packed) (rs : List Recorded) (status : Status) → IsComplete root (mark_in rs) → IsStatus root rs status → status_name status ≡ codes "complete"
complete_status root rs (Working count) complete stands = absurd (none_many _ count stands.0 stands.1 complete.none_open)
complete_status root rs (Holdouts count) complete stands = absurd (none_many _ count stands.1 stands.2 complete.no_holdout)
complete_status root rs (Complete best ones) complete stands = refl

pub tree_report : (wording : Wording) (b : Contents) (text : List ℕ) → IsBoard b → IsComplete b.root (mark_in b.records) → IsReportIn wording b.root b.records text → IsTreeReportIn wording b.root text
tree_report wording b text board complete r =
    let holdouts = none_listed _ r.holdouts complete.no_holdout r.are_holdouts in
    let status = complete_status b.root b.records r.status complete r.stands in
    record {
      tally = r.tally;
      champions = r.champions;
      ones_champions = r.ones_champions;
      counted = whole_tally b r.tally board complete r.counted;
      are_champions = whole_champions b r.tally.best r.champions board complete r.are_champions;
      are_ones_champions = whole_ones_champions b r.tally.ones r.ones_champions board complete r.are_ones_champions;
      is = r.is ∙ (ap (λ (word : List ℕ). wording b.root word r.tally r.champions r.ones_champions r.holdouts) status
          ∙ ap (λ (hs : List Packed). wording b.root (codes "complete") r.tally r.champions r.ones_champions hs) holdouts);
    }

pub one_report : (wording : Wording) (root : Packed) (a b : List ℕ) → IsTreeReportIn wording root a → IsTreeReportIn wording root b → a ≡ b
one_report wording root a b x y =
    let text : Tally → List Packed → List Packed → List ℕ = λ t champions ones_champions. wording root (codes "complete") t champions ones_champions [] in
    let tally : x.tally ≡ y.tally = one_tally root x.tally y.tally x.counted y.counted in
    let same : x.champions ≡ y.champions = one_list_of_champions root y.tally.best x.champions y.champions (subst (λ (t : Tally). AreAll (IsTreeChampion root t.best) x.champions) tally x.are_champions) y.are_champions in
    let same_ones : x.ones_champions ≡ y.ones_champions =
    one_list_of_ones_champions root y.tally.ones x.ones_champions y.ones_champions (subst (λ (t : Tally). AreAll (IsTreeOnesChampion root t.ones) x.ones_champions) tally x.are_ones_champions) y.are_ones_champions in
    x.is ∙ (ap (λ (t : Tally). text t x.champions x.ones_champions) tally
    ∙ (ap (λ (cs : List Packed). text y.tally cs x.ones_champions) same ∙ (ap (λ (cs : List Packed). text y.tally y.champions cs) same_ones ∙ sym y.is)))

-- the machine without entries halts at once, so the tree of an empty table has a greatest number of steps, S(n), and a
-- greatest score, Σ(n)
empty_halts : HaltsAt empty_machine 1
unfolding from
empty_halts = record { last = 0; at = start; is = refl; over = refl; count = refl }

-- a worth that the machine without entries has
module _ (V : Machine → ℕ → Type 0) (worth : IsWorth V) (own : ℕ) (empty : V empty_machine own) where
  greatest_tells : (n : ℕ) (best : Option ℕ) → 1 ≤ n → n ≤ state_limit → IsDecidedTable (empty_table n) → IsGreatestInTables V (empty_table n) best → (s : ℕ) × (best ≡ Some s) × IsGreatestOfAll V n s
  greatest_tells n None some limit decided none =
      absurd (none (empty_table n) own Itself (subst (λ (m : Machine). V m own) (sym (empty_map n some limit)) empty))
  greatest_tells n (Some s) some limit decided greatest = (s, refl, (greatest_of_all_tables V worth n s some limit decided).0 greatest)

  complete_tells : (b : Contents) (n : ℕ) (best : Option ℕ) → IsBoard b → IsComplete b.root (mark_in b.records) → 1 ≤ n → n ≤ state_limit → b.root ≡ empty_table n
      → IsGreatestInTables V b.root best → (s : ℕ) × (best ≡ Some s) × IsGreatestOfAll V n s
  complete_tells b n best board complete some limit root greatest =
      let marks = mark_in b.records in
      let decided = closed_decided b.root marks (board_marks b board) b.root (complete_closed b.root marks (board_marks b board) complete) in
      greatest_tells n best some limit (subst IsDecidedTable root decided) (subst (λ (p : Packed). IsGreatestInTables V p best) root greatest)

pub best_tells : (b : Contents) (n : ℕ) (best : Option ℕ) → IsBoard b → IsComplete b.root (mark_in b.records) → 1 ≤ n → n ≤ state_limit → b.root ≡ empty_table n
    → IsGreatestInTables HaltsAt b.root best → (s : ℕ) × (best ≡ Some s) × IsRado n s
best_tells b n best board complete some limit root greatest =
    let (s, is, all) = complete_tells HaltsAt steps_worth 1 empty_halts b n best board complete some limit root greatest in (s, is, (rado_is_greatest n s).0 all)

pub ones_tell : (b : Contents) (n : ℕ) (ones : Option ℕ) → IsBoard b → IsComplete b.root (mark_in b.records) → 1 ≤ n → n ≤ state_limit → b.root ≡ empty_table n
    → IsGreatestInTables Scores b.root ones → (s : ℕ) × (ones ≡ Some s) × IsSigma n s
ones_tell b n ones board complete some limit root greatest =
    let (s, is, all) = complete_tells Scores score_worth (score_at empty_machine 1) (1, halts_with empty_machine 1 empty_halts) b n ones board complete some limit root greatest in
    (s, is, record { champion = all.champion; is_machine = all.is_machine; scores = all.worth; greatest = all.greatest })

pub tells_rado : (wording : Wording) (b : Contents) (n : ℕ) (text : List ℕ) → IsBoard b → IsComplete b.root (mark_in b.records) → 1 ≤ n → n ≤ state_limit → b.root ≡ empty_table n
    → IsReportIn wording b.root b.records text → TellsRadoIn wording n text
tells_rado wording b n text board complete some limit root r =
    let tree = tree_report wording b text board complete r in
    let (s, best, rado) = best_tells b n tree.tally.best board complete some limit root tree.counted.best in
    let (sigma, ones, is_sigma) = ones_tell b n tree.tally.ones board complete some limit root tree.counted.ones in
    record {
      s = s;
      sigma = sigma;
      is_rado = rado;
      is_sigma = is_sigma;
      tally = tree.tally;
      champions = tree.champions;
      ones_champions = tree.ones_champions;
      best = best;
      ones = ones;
      is = tree.is ∙ ap (λ (p : Packed). wording p (codes "complete") tree.tally tree.champions tree.ones_champions []) root;
    }

-- What the report of a board tells of its tree, by how it stands, and what it tells by how the command ends.

-- what is the greatest on a complete board is so in the tree of its root
best_in_tree : (b : Contents) (best : Option ℕ) → IsBoard b → IsComplete b.root (mark_in b.records) → IsGreatestCount b.records best → IsGreatestInTables HaltsAt b.root best
best_in_tree b None board complete none = λ t k inside halts. none t k ((all_halting b t k board complete).1 (inside, halts))
best_in_tree b (Some s) board complete greatest =
    let one = (all_halting b greatest.0.0 s board complete).0 greatest.0.1 in (
      (greatest.0.0, one.0, one.1),
      λ t k inside halts. greatest.1 t k ((all_halting b t k board complete).1 (inside, halts)),
    )

ones_in_tree : (b : Contents) (ones : Option ℕ) → IsBoard b → IsComplete b.root (mark_in b.records) → IsGreatestOnes b.records ones → IsGreatestInTables Scores b.root ones
ones_in_tree b None board complete none = λ t s inside scores. none t s ((all_ones b t s board complete).1 (inside, scores))
ones_in_tree b (Some s) board complete greatest =
    let one = (all_ones b greatest.0.0 s board complete).0 greatest.0.1 in (
      (greatest.0.0, one.0, one.1),
      λ t s inside scores. greatest.1 t s ((all_ones b t s board complete).1 (inside, scores)),
    )

-- a board with open tables, or with holdouts, isn't complete
pub working_incomplete : (b : Contents) (count : ℕ) → IsStatus b.root b.records (Working count) → IsComplete b.root (mark_in b.records) → ⊥
working_incomplete b count stands complete =
    let other : 119 ≡ 99 = ap (λ (l : List ℕ). get_or l 0 0) (complete_status b.root b.records (Working count) complete stands) in omega (arith, other)

pub holdouts_incomplete : (b : Contents) (count : ℕ) → IsStatus b.root b.records (Holdouts count) → IsComplete b.root (mark_in b.records) → ⊥
holdouts_incomplete b count stands complete =
    let other : 104 ≡ 99 = ap (λ (l : List ℕ). get_or l 0 0) (complete_status b.root b.records (Holdouts count) complete stands) in omega (arith, other)

module _ (IsText : FormText) (n : ℕ) (IsKept : Contents → Type 0) (held new_held : Option (List ℕ)) where
  -- a complete board's report tells S(n) and Σ(n)
  pub complete_reports : (b : Contents) (best ones : Option ℕ) → 1 ≤ n → n ≤ state_limit → ReportsTree IsText (empty_table n) IsKept held new_held b → IsStatus b.root b.records (Complete best ones)
      → ReportsComplete IsText n IsKept held new_held
  complete_reports b best ones some limit reports stands =
      let (s, is, rado) = best_tells b n best reports.is_board stands.0 some limit reports.is_root (best_in_tree b best reports.is_board stands.0 stands.1) in
      let (t, are, sigma) = ones_tell b n ones reports.is_board stands.0 some limit reports.is_root (ones_in_tree b ones reports.is_board stands.0 stands.2) in
      record {
        board = b;
        reports = reports;
        complete = stands.0;
        best = s;
        is_best = subst (IsGreatestCount b.records) is stands.1;
        is_rado = rado;
        ones = t;
        are_ones = subst (IsGreatestOnes b.records) are stands.2;
        is_sigma = sigma;
      }

  -- by how a board stands
  pub by_status : (b : Contents) (status : Status) → 1 ≤ n → n ≤ state_limit → ReportsTree IsText (empty_table n) IsKept held new_held b → IsStatus b.root b.records status
      → SettlesTree IsText n IsKept held new_held (Ok (outcome_by status Nothing))
  by_status b (Working count) some limit reports stands = record { board = b; reports = reports; incomplete = working_incomplete b count stands }
  by_status b (Holdouts count) some limit reports stands = record { board = b; reports = reports; incomplete = holdouts_incomplete b count stands }
  by_status b (Complete best ones) some limit reports stands = complete_reports b best ones some limit reports stands

module _ (IfAccepted IfRefused : Type 0) (held new_held : Option (List ℕ)) where
  -- what ended it early ended it before anything was written
  untouched : (e : Ended) → (e ≡ Stream → ⊥) → (new_held ≡ held) ⊎ (e ≡ Stream) → new_held ≡ held
  untouched e other (inl same) = same
  untouched e other (inr stream) = absurd (other stream)

  ended_tells : (e : Ended) → (new_held ≡ held) ⊎ (e ≡ Stream) → TellsByReport IfAccepted IfRefused held new_held (outcome_of e)
  ended_tells BadHeader so = inr (untouched BadHeader (λ is. cc) so)
  ended_tells WrongRoot so = inr (untouched WrongRoot (λ is. cc) so)
  ended_tells HasPart so = inr (untouched HasPart (λ is. cc) so)
  ended_tells OutInFolder so = inr (untouched OutInFolder (λ is. cc) so)
  ended_tells Stream so = tt
  ended_tells Ledger so = tt
  ended_tells File so = tt
  ended_tells Locked so = tt
  ended_tells WantsMemory so = untouched WantsMemory (λ is. cc) so

  done_tells : (o : Outcome) → EndsByReport IfAccepted IfRefused held new_held (Ok o) → TellsByReport IfAccepted IfRefused held new_held o
  done_tells Accepted so = so
  done_tells Refused so = inl so
  done_tells BadLine so = absurd so
  done_tells NoMemory so = absurd so
  done_tells Failed so = absurd so

  -- and so the outcome tells
  pub tells : (ended : Result Outcome Ended) (said new_said : Option (List ℕ)) (o : Outcome) → EndsByReport IfAccepted IfRefused held new_held ended → EndsTold ended said new_said o
      → TellsByReport IfAccepted IfRefused held new_held o
  tells (Ok done) said new_said o so told = subst (TellsByReport IfAccepted IfRefused held new_held) (sym told.0) (done_tells done so)
  tells (Err e) said new_said o so (inl told) = subst (TellsByReport IfAccepted IfRefused held new_held) (sym told.0) (ended_tells e so)
  tells (Err e) said new_said o so (inr failed) = subst (TellsByReport IfAccepted IfRefused held new_held) (sym failed.0) tt

-- The parts of a report, put together.

-- what follows of what is so in a success
pub on_ok : {T E A B : Type 0} (r : Result T E) → (A → B) → OnOk r A → OnOk r B
on_ok (Ok t) f h = f h
on_ok (Err e) f h = tt

pub on_err : {T E A : Type 0} (r : Result T E) → A → OnErr r A
on_err (Ok t) h = tt
on_err (Err e) h = h

-- one more part, appended after others
pub one_more : {X : Type 0} (old a b : List X) {one two : List X} → one ≡ old ++ a → two ≡ one ++ b → two ≡ old ++ (a ++ b)
one_more {X} old a b {one} {two} h1 h2 = h2 ∙ (ap (λ (l : List X). l ++ b) h1 ∙ append_assoc old a b)

pub if_ok : {T E : Type 0} {P Q : T → Type 0} (r : Result T E) → ((t : T) → P t → Q t) → IfOk r P → IfOk r Q
if_ok (Ok t) f h = f t h
if_ok (Err e) f h = tt

-- What passes to a writer by way of a piece.

-- what is appended to the piece alone passes
pub only_appended : (held : Option (List ℕ)) (piece new text : List ℕ) → new ≡ piece ++ text → Passes held piece held new text
only_appended held piece new text is = record { written = []; appended = Appends-nil held; is = is }

-- a piece that is written passes, and nothing more
pub all_written : (held new_held : Option (List ℕ)) (piece new : List ℕ) → Appends held new_held piece → new ≡ [] → Passes held piece new_held new []
all_written held new_held piece new appended is = record { written = piece; appended = appended; is = ap (λ (l : List ℕ). piece ++ l) is }

-- one text after another
pub passes_on : {h1 h2 h3 : Option (List ℕ)} {p1 p2 p3 a b : List ℕ} → Passes h1 p1 h2 p2 a → Passes h2 p2 h3 p3 b → Passes h1 p1 h3 p3 (a ++ b)
passes_on {h1} {h2} {h3} {p1} {p2} {p3} {a} {b} x y = record {
  written = x.written ++ y.written;
  appended = Appends-trans h1 h2 h3 x.written y.written x.appended y.appended;
  is = append_assoc x.written y.written p3 ∙ (ap (λ (l : List ℕ). x.written ++ l) y.is
      ∙ (sym (append_assoc x.written p2 b) ∙ (ap (λ (l : List ℕ). l ++ b) x.is ∙ append_assoc p1 a b)));
}

-- a text has come to the writer once the last piece is written
pub passed : (h1 h2 h3 : Option (List ℕ)) (piece text : List ℕ) → Passes h1 [] h2 piece text → Appends h2 h3 piece → Appends h1 h3 text
passed h1 h2 h3 piece text x last = subst (Appends h1 h3) x.is (Appends-trans h1 h2 h3 x.written piece x.appended last)

-- a text that is written with nothing in the piece passes
pub straight : (h1 h2 : Option (List ℕ)) (p1 p2 text : List ℕ) → p1 ≡ [] → p2 ≡ [] → Appends h1 h2 text → Passes h1 p1 h2 p2 text
straight h1 h2 p1 p2 text e1 e2 appended = record {
  written = text;
  appended = appended;
  is = ap (λ (l : List ℕ). text ++ l) e2 ∙ (append-nil text ∙ sym (ap (λ (l : List ℕ). l ++ text) e1));
}

-- a text passes once the piece is written
pub written_first : (h1 h2 h3 : Option (List ℕ)) (p1 p2 p3 text : List ℕ) → Appends h1 h2 p1 → p2 ≡ [] → Passes h2 p2 h3 p3 text → Passes h1 p1 h3 p3 text
written_first h1 h2 h3 p1 p2 p3 text appended none x = passes_on (all_written h1 h2 p1 p2 appended none) x

-- the parts of a report behind the one that was in the piece, of which the last is what is left there
pub report_passed : (h6 : Option (List ℕ)) {h0 h1 h2 h3 h4 h5 : Option (List ℕ)} {p0 p1 p2 p3 p4 p5 a b c d last : List ℕ} → Passes h0 p0 h1 p1 a → Passes h1 p1 h2 p2 b → Passes h2 p2 h3 p3 c
    → Passes h3 p3 h4 p4 d → Passes h4 p4 h5 p5 last → Appends h5 h6 p5 → Appends h0 h6 (p0 ++ a ++ b ++ c ++ d ++ last)
report_passed h6 {h0} {h1} {h2} {h3} {h4} {h5} {p0} {p1} {p2} {p3} {p4} {p5} {a} {b} {c} {d} {last} x y z u w written =
    let begins : Passes h0 [] h0 p0 p0 = only_appended h0 [] p0 p0 refl in
    passed h0 h5 h6 p5 (p0 ++ a ++ b ++ c ++ d ++ last) (passes_on (passes_on (passes_on (passes_on (passes_on begins x) y) z) u) w) written
