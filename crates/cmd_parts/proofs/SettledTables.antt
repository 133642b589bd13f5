-- Tables that are settled or walked, one after another: the ledger stays in step, the report tells of the tree.
use Rattle.std.proofs.Common.{IfOk, ◌≡◌, ◌≢◌, ℕ, zero, suc, ◌+◌, Bool, true, false, List, [], ◌∷◌, ◌++◌, length, Option, Some, None, Result, Ok, Err, cond, inl, inr, refl, sym, ◌∙◌, ap, subst, arith, length-append, get_or, IfErr, OnErr, OnOk, ◌-◌, take, ◌≤◌}
use Rattle.std.specs.List.{All, AllPairs, Contains, filter}
use Rattle.std.proofs.lemmas.List.Elements.{All-contains, All-filter, filter_passes, All-contains_itself, All-append, All-nil}
use Rattle.std.proofs.lemmas.List.Kept.{AllPairs-filter}
use Rattle.std.proofs.lemmas.Bool.{lt-ltb, ltb-true}
use Rattle.std.specs.Ordering.{nat_cmp}
use Rattle.std.specs.declared.cmp.Ordering.TheVariants.{Less}
use Rattle.std.specs.Cmp.Lexicographic.{slice_cmp}
use Rattle.std.proofs.lemmas.List.{take_all}
use Rattle.std.proofs.Math.Seq.{take-nil}
use Rattle.machine_text.specs.Terms.{Packed, empty_table, text_of, state_limit}
use Rattle.cert.specs.Terms.{Recorded, with_score}
use Rattle.ledger.specs.Terms.{Contents, IsBoard, IsOpenOn, IsFit, claim_in, mark_in, AreAll, IsStatus}
use Rattle.ledger.proofs.HeldLaws.{first_member, first_or_later, later_member, unmarked}
use Rattle.ledger.proofs.OpenLaws.{open_taken, taken_new}
use Rattle.wire.specs.Terms.{grown}
use Rattle.cmd_ledgers.specs.Terms.{HasGrown, HasPartOf, StaysInStep, gained, LeavesLedger, outcome_by, FormText, ReportsIncomplete, ReportsTree, SettlesTree}
use Rattle.cmd_ledgers.proofs.RetriedLedgers.{grown_more, grown_none, one_more_line, part_later, stays_by, first_bytes, same_part}
use Rattle.cmd_parts.specs.Settle.{ComesFirst, IsOpenBelow, LeavesPart, MaySettle, SettlesMany, SettlesOne, with_last, SettlesLedger, LeavesSettled, WalksTree}
use Rattle.cmd_parts.specs.inside.{is_below, IsOfAnswers}
use Rattle.cmd_options.specs.declared.ended.Ended.{Ended}
use Rattle.files.specs.Terms.{IsKeptBut, IsLedgerAt, IsOpenedOn, IsPut, IsToldStill, SameFile, Shelf}
use Rattle.cmd_ledgers.proofs.ReadLedgers.{gone_on}
use Rattle.cmd_parts.specs.AtPaths.{SettlesAt}
use Rattle.cmd_options.specs.Terms.{PrintsNothing}
use Rattle.wire.proofs.Answers.{grown_twice}
use Rattle.law_tree.specs.Terms.{IsOpen, Scores, IsBestOfTable}
use Rattle.totals.specs.Terms.{WalksOn, IsAnswered, IsWalked, Walked}
use Rattle.law_turing.specs.Terms.{HaltsAt}
use Rattle.ledger.specs.declared.loading.Left.TheVariants.{Nothing}
use Rattle.ledger.specs.declared.faults.Status.{Status}
use Rattle.ledger.specs.declared.faults.Status.TheVariants.{Working, Holdouts, Complete}
use Rattle.cmd_options.specs.declared.ended.Outcome.{Outcome}
use Rattle.cmd_options.specs.declared.ended.Outcome.TheVariants.{Accepted, Refused, BadLine, NoMemory, Failed}
use Rattle.cmd_ledgers.proofs.TreeReports.{complete_reports, holdouts_incomplete, working_incomplete}

-- Tables that are settled one after another: the ledger stays in step, and the tables that are left stay due.
first_before : {X : Type 0} (R : X → X → Type 0) (x : X) (xs : List X) → AllPairs R (x ∷ xs) → All (R x) xs
first_before R x xs all = λ i d below. all 0 (suc i) d (omega arith) (omega arith)

-- the first of all open tables in the order of texts
pub first_comes : (b : Contents) (tables : List Packed) (t : Packed) (rest : List Packed) → AreAll (IsOpenOn b) tables → tables ≡ t ∷ rest → ComesFirst b t
first_comes b tables t rest all is =
    let there : AreAll (IsOpenOn b) (t ∷ rest) = subst (AreAll (IsOpenOn b)) is all in (
      (there.exact t).0 (first_member t t rest refl),
      λ q is_open. elim (first_or_later t rest q ((there.exact q).1 is_open)) [
        | inl same ↦ inl (sym same)
        | inr later ↦ inr (All-contains (λ (x : Packed). slice_cmp nat_cmp (text_of t) (text_of x) ≡ Less) rest q (first_before (λ (x y : Packed). slice_cmp nat_cmp (text_of x) (text_of y) ≡ Less) t rest there.rising) later)
      ],
    )

module _ (Answers : Packed → Recorded → Type 0) (IsDue : Contents → Packed → Type 0) where
  -- a table is settled that was due
  pub due_so : (t : Packed) (old new : Contents) (before after : Option (List ℕ)) → IsDue old t → SettlesOne Answers (λ b q. q ≡ t) old before new after
      → SettlesOne Answers IsDue old before new after
  due_so t old new before after due one = record {
    made = one.made;
    next = record { due = subst (λ (q : Packed). IsDue old q) (sym one.next.due) due; answered = one.next.answered; fit = one.next.fit };
    board = one.board;
    text = one.text;
  }

  pub may_so : (t : Packed) (old new : Contents) (before after : Option (List ℕ)) → IsDue old t → MaySettle Answers (λ b q. q ≡ t) old before new after
      → MaySettle Answers IsDue old before new after
  may_so t old new before after due (inl same) = inl same
  may_so t old new before after due (inr one) = inr (due_so t old new before after due one)

  -- what is gathered as the line of a table comes behind a ledger
  pub one_behind : (old new : Contents) (text : Option (List ℕ)) (lines new_lines : List ℕ) → SettlesOne Answers IsDue old (Some lines) new (Some new_lines) → SettlesOne Answers IsDue old (grown text lines) new (grown text new_lines)
  one_behind old new text lines new_lines one =
      let is : new_lines ≡ lines ++ gained old.format one.made = (let is = one.text in cc) in
      record { made = one.made; next = one.next; board = one.board; text = one_more_line old.format one.made text lines new_lines is }

  -- one table more
  pub one_more_settled : (k n : ℕ) (old mid new : Contents) (before text after : Option (List ℕ)) → n ≡ suc k → SettlesMany Answers IsDue k old before mid text
      → SettlesOne Answers IsDue mid text new after → SettlesMany Answers IsDue n old before new after
  one_more_settled k n old mid new before text after is many one =
      subst (λ (x : ℕ). SettlesMany Answers IsDue x old before new after) (sym is) (mid, text, many, one)

  -- and more
  pub many_more_settled : (k j n : ℕ) (old mid new : Contents) (before text after : Option (List ℕ)) → n ≡ k + j → SettlesMany Answers IsDue k old before mid text
      → SettlesMany Answers IsDue j mid text new after → SettlesMany Answers IsDue n old before new after
  many_more_settled k zero n old mid new before text after is many none =
      let same : n ≡ k = omega (arith, is) in
      subst (λ (x : ℕ). SettlesMany Answers IsDue x old before new after) (sym same)
      (subst (λ (b : Contents). SettlesMany Answers IsDue k old before b after) (sym none.0)
      (subst (λ (t : Option (List ℕ)). SettlesMany Answers IsDue k old before mid t) (sym none.1) many))
  many_more_settled k (suc j) n old mid new before text after is many more =
      one_more_settled (k + j) n old more.0 new before more.1 after (omega (arith, is)) (many_more_settled k j (k + j) old mid more.0 before text more.1 refl many more.2) more.3

  -- the ledger has gained their lines
  pub many_grown : (k : ℕ) (old new : Contents) (before after : Option (List ℕ)) → SettlesMany Answers IsDue k old before new after → HasGrown before after
  many_grown zero old new before after none = ([], none.1 ∙ sym (grown_none before))
  many_grown (suc k) old new before after (mid, text, many, one) =
      grown_more before text after (many_grown k old mid before text many) (gained mid.format one.made, one.text)

  -- so a ledger that has all of them has a part of them
  pub part_all : (k : ℕ) (old new : Contents) (before after : Option (List ℕ)) → SettlesMany Answers IsDue k old before new after → LeavesPart Answers IsDue old before new after
  part_all k old new before after many =
      let (gains, is) = many_grown k old new before after many in
      record { count = k; whole = after; many = many; part = record { gains = gains; whole_is = is; begun = (length gains, is ∙ ap (grown before) (sym (take_all (length gains) gains (omega arith)))) } }

  -- where nothing is changed, as many are settled
  same_settled : (k : ℕ) (old mid new : Contents) (before text after : Option (List ℕ)) → new ≡ mid → after ≡ text → SettlesMany Answers IsDue k old before mid text → SettlesMany Answers IsDue k old before new after
  same_settled k old mid new before text after same same_text many =
      subst (λ (b : Contents). SettlesMany Answers IsDue k old before b after) (sym same) (subst (λ (t : Option (List ℕ)). SettlesMany Answers IsDue k old before mid t) (sym same_text) many)

  -- it ends at a table
  pub part_at : (k : ℕ) (old mid new : Contents) (before held text whole after : Option (List ℕ)) → SettlesMany Answers IsDue k old before mid text → MaySettle Answers IsDue mid text new whole
      → HasGrown before held → HasPartOf whole held after → LeavesPart Answers IsDue old before new after
  part_at k old mid new before held text whole after many (inl (same, same_text)) more part =
      record { count = k; whole = whole; many = same_settled k old mid new before text whole same same_text many; part = part_later before held whole after more part }
  part_at k old mid new before held text whole after many (inr one) more part =
      record { count = suc k; whole = whole; many = (mid, text, many, one); part = part_later before held whole after more part }

  -- after some were settled
  pub part_more : (k : ℕ) (old mid new : Contents) (before text after : Option (List ℕ)) → SettlesMany Answers IsDue k old before mid text → LeavesPart Answers IsDue mid text new after
      → LeavesPart Answers IsDue old before new after
  part_more k old mid new before text after many h =
      record {
        count = k + h.count;
        whole = h.whole;
        many = many_more_settled k h.count (k + h.count) old mid new before text h.whole refl many h.many;
        part = part_later before text h.whole after (many_grown k old mid before text many) h.part;
      }

  pub one_in_step : (old new : Contents) (before after : Option (List ℕ)) → IsBoard old → SettlesOne Answers IsDue old before new after → StaysInStep old before new after
  one_in_step old new before after board one =
      stays_by old new one.made before after board (inl (one.next.fit, ap (λ (b : Contents). b.records) one.board))
      (ap (λ (b : Contents). b.root) one.board) (ap (λ (b : Contents). b.format) one.board) one.text

  pub one_record_more : (old new : Contents) (before after : Option (List ℕ)) → SettlesOne Answers IsDue old before new after → length new.records ≡ length old.records + 1
  one_record_more old new before after one =
      ap (λ (b : Contents). length b.records) one.board ∙ length-append old.records (with_score one.made ∷ [])

-- another table that is open and has few entries stays so
pub stays_below : (limit : ℕ) (old new : Contents) (r : Recorded) (t : Packed) → IsFit old.root old.records r → new ≡ with_last old r → t ≢ r.table → IsOpenBelow limit old t → IsOpenBelow limit new t
stays_below limit old new r t fit is other below =
    let none : claim_in old.records r.table ≡ None = unmarked (claim_in old.records r.table) fit.is_open.unmarked in
    let still = (open_taken old.root old.records (old.records ++ (with_score r ∷ [])) (with_score r) t (taken_new old.records (with_score r) none)).1 (inl (below.0, other)) in
    subst (λ (b : Contents). IsOpenBelow limit b t) (sym is) (still, below.1)

-- a filter keeps a member that passes
pub kept_member : {X : Type 0} (p : X → Bool) (xs : List X) (x : X) → Contains xs x → p x ≡ true → Contains (filter p xs) x
kept_member p [] x at pass = at
kept_member {X} p (y ∷ xs) x at pass =
    elim (p y) as (λ b. p y ≡ b → Contains (cond b (y ∷ filter p xs) (filter p xs)) x) [
      | true ↦ λ is. elim (first_or_later y xs x at) [
        | inl same ↦ first_member y x (filter p xs) same
        | inr later ↦ later_member y (filter p xs) x (kept_member p xs x later pass)
      ]
      | false ↦ λ is. elim (first_or_later y xs x at) [
        | inl same ↦ let passed : p y ≡ true = ap p same ∙ pass in absurd (cc)
        | inr later ↦ kept_member p xs x later pass
      ]
    ] refl

-- the open tables of a list of all that have few entries
pub all_below : (limit : ℕ) (b : Contents) (tables found : List Packed) → AreAll (IsOpenOn b) tables → found ≡ filter (is_below limit) tables → AreAll (IsOpenBelow limit b) found
all_below limit b tables found all is = subst (AreAll (IsOpenBelow limit b)) (sym is) (record {
  exact = λ t. (
    λ at. (
      All-contains (IsOpenOn b) (filter (is_below limit) tables) t (All-filter (is_below limit) (IsOpenOn b) tables (λ i d below. (all.exact (get_or tables i d)).0 (All-contains_itself tables i d below))) at,
      ltb-true _ _ (All-contains (λ (x : Packed). is_below limit x ≡ true) (filter (is_below limit) tables) t (filter_passes (is_below limit) tables) at),
    ),
    λ due. kept_member (is_below limit) tables t ((all.exact t).1 due.0) (lt-ltb _ _ due.1),
  );
  rising = AllPairs-filter (λ (x y : Packed). slice_cmp nat_cmp (text_of x) (text_of y) ≡ Less) (is_below limit) tables all.rising;
})

-- what follows of what is so of a success
pub if_ok : {T E : Type 0} {P Q : T → Type 0} (r : Result T E) → ((x : T) → P x → Q x) → IfOk r P → IfOk r Q
if_ok (Ok x) f h = f x h
if_ok (Err e) f h = tt

-- A ledger that was settled where it stands.
module _ {K : Type 0} (Answers : Packed → Recorded → Type 0) (Locks : Result (Option K) Ended → Type 0) (tells later : SameFile) (path : List ℕ) (old opened new : Shelf) (has : Option (List ℕ)) (size : ℕ)
    (before after said new_said : Option (List ℕ)) where
  pub settled_at : (lock : K) (r : Result (Unit {0}) Ended) → Locks (Ok (Some lock)) → IsOpenedOn (old path) has size → IsLedgerAt (old path) before → IsKeptBut tells path old opened → IsToldStill tells later
      → IsPut later path after opened new → OnOk r (SettlesLedger Answers has size before after said new_said) → IfErr r (λ e. PrintsNothing e said new_said)
      → OnErr r (LeavesLedger (LeavesSettled Answers ComesFirst) has size before after)
      → SettlesAt Answers Locks tells path old new said new_said r
  settled_at lock (Ok done) locked read ledger kept still put settles silent leaves =
      (lock, locked, gone_on (λ h n b a. SettlesLedger Answers h n b a said new_said) tells later path old opened new has size before after read ledger kept still put settles)
  settled_at lock (Err e) locked read ledger kept still put settles silent leaves = (
    silent,
    inr
        (gone_on (LeavesLedger (LeavesSettled Answers ComesFirst)) tells later path old opened new has size before after read ledger kept still put leaves),
  )

-- A ledger that has a beginning of the lines of tables that were settled: it ends at one of them.
module _ (Answers : Packed → Recorded → Type 0) (IsDue : Contents → Packed → Type 0) where
  abbrev pub Stopped : Contents → Option (List ℕ) → Option (List ℕ) → Type 0
  Stopped old before after = (b : Contents) × LeavesSettled Answers IsDue old before b after

  -- wherever the lines of tables that were settled are cut off
  torn : (k : ℕ) (old new : Contents) (before whole : Option (List ℕ)) → SettlesMany Answers IsDue k old before new whole
      → (gains : List ℕ) × (whole ≡ grown before gains) × ((j : ℕ) → Stopped old before (grown before (take j gains)))
  torn zero old new before whole none =
      ([], none.1 ∙ sym (grown_none before), λ j. (old, (zero, old, before, (refl, refl), inl (refl, ap (grown before) (take-nil j) ∙ grown_none before))))
  torn (suc k) old new before whole (mid, text, many, one) =
      let (gains, is, stops) = torn k old mid before text many in
      let line = gained mid.format one.made in (
        gains ++ line,
        one.text ∙ ap (λ (o : Option (List ℕ)). grown o line) is ∙ grown_twice before gains line,
        λ j. elim (first_bytes before gains line j) [
          | inl (i, cut) ↦ subst (Stopped old before) (sym cut) (stops i)
          | inr later ↦ (
            with_last mid one.made,
            (
              k,
              mid,
              text,
              many,
              inr (record { made = one.made; next = one.next; board = refl; text = (j - length gains, later ∙ ap (λ (o : Option (List ℕ)). grown o (take (j - length gains) line)) (sym is)) }),
            ),
          )
        ],
      )

  -- so a ledger that is behind its board is that of another board, which ends at one of its tables
  pub left_settled : (old new : Contents) (before after : Option (List ℕ)) → LeavesPart Answers IsDue old before new after → Stopped old before after
  left_settled old new before after h =
      let (gains, is, stops) = torn h.count old new before h.whole h.many in
      let (j, cut) = same_part before h.whole after gains is h.part in
      subst (Stopped old before) (sym cut) (stops j)

-- A walk that goes on tells of answers still, and at its end of a tree with no open table.

-- where a walk has no table ahead, none is open
pub none_open : (w : Walked) (rs : List Recorded) → w.ahead ≡ [] → IsWalked w rs → (t : Packed) → IsOpen w.root (mark_in rs) t → ⊥
none_open w rs done walked t is = nothing (subst (λ (l : List Packed). Contains l t) done ((walked.are_open.exact t).1 is))
  where
    nothing : {q : Packed} → Contains [] q → ⊥
    nothing (k, below, at) = omega arith

module _ (D : Type 0) (answers : D → Packed → Recorded → Type 0) (root : Packed) where
  pub begins : (w : Walked) → w.root ≡ root → IsWalked w [] → IsOfAnswers D answers root w
  begins w is_root walked = record { is_root = is_root; records = []; are_answers = All-nil (IsAnswered D answers); walked = walked }

  pub goes_on : (old new : Walked) (count : ℕ) → IsOfAnswers D answers root old → WalksOn D answers old count new → IsOfAnswers D answers root new
  goes_on old new count so on =
      let more = on.more so.records so.walked in record {
        is_root = on.root ∙ so.is_root;
        records = so.records ++ more.0;
        are_answers = All-append (IsAnswered D answers) so.records more.0 so.are_answers more.2;
        walked = more.3;
      }

-- What the report of a walk tells of its tree.
module _ (IsText : FormText) (root : Packed) (IsKept : Contents → Type 0) (held new_held : Option (List ℕ)) where
  -- by how a walk stands, and what it says where it is complete
  pub walk_reports : (b : Contents) (status : Status) → ReportsTree IsText root IsKept held new_held b → IsStatus b.root b.records status
      → ((best ones : Option ℕ) → status ≡ Complete best ones → IsBestOfTable HaltsAt root best) → ((best ones : Option ℕ) → status ≡ Complete best ones → IsBestOfTable Scores root ones)
      → WalksTree IsText root IsKept held new_held (Ok (outcome_by status Nothing))
  walk_reports b (Working count) reports stands bests scores = record { board = b; reports = reports; incomplete = working_incomplete b count stands }
  walk_reports b (Holdouts count) reports stands bests scores = record { board = b; reports = reports; incomplete = holdouts_incomplete b count stands }
  walk_reports b (Complete best ones) reports stands bests scores = record {
    board = b;
    reports = reports;
    complete = stands.0;
    best = best;
    is_best = stands.1;
    is_greatest = bests best ones refl;
    ones = ones;
    are_ones = stands.2;
    are_greatest = scores best ones refl;
  }

  -- from the empty table of n states it settles that tree
  pub walks_settle : (n : ℕ) (ended : Result Outcome Ended) → 1 ≤ n → n ≤ state_limit → root ≡ empty_table n → WalksTree IsText root IsKept held new_held ended → SettlesTree IsText n IsKept held new_held ended
  walks_settle n (Ok Accepted) some limit is walks = complete_reports IsText n IsKept held new_held walks.board walks.best walks.ones some limit
      (subst (λ (p : Packed). ReportsTree IsText p IsKept held new_held walks.board) is walks.reports) (walks.complete, walks.is_best, walks.are_ones)
  walks_settle n (Ok Refused) some limit is walks = subst (λ (p : Packed). ReportsIncomplete IsText p IsKept held new_held) is walks
  walks_settle n (Ok BadLine) some limit is walks = absurd walks
  walks_settle n (Ok NoMemory) some limit is walks = absurd walks
  walks_settle n (Ok Failed) some limit is walks = absurd walks
  walks_settle n (Err e) some limit is walks = walks
