-- The record of a work turn, the frames of records that aren't acknowledged, and which may be due.
use Rattle.std.proofs.Common.{◌≡◌, ℕ, zero, suc, ◌-◌, Bool, true, false, not, List, [], ◌∷◌, ◌++◌, map, take, refl, sym, ◌∙◌, ap, subst, arith, append_assoc, if◌then◌else◌, ◌+◌, ◌≤◌, ◌||◌, length, drop, filter, inr, None, Result, Ok, Err, Some, IfOk, OnErr, ◌<◌, Option}
use Rattle.std.specs.List.{list_any}
use Rattle.std.proofs.lemmas.List.{take-append-drop, take-append-le, length-append}
use Rattle.std.proofs.lemmas.List.Elements.{filter-append}
use Rattle.std.proofs.lemmas.List.Folds.{list_any-append}
use Rattle.machine_text.specs.Terms.{Packed}
use Rattle.cert.specs.Terms.{Recorded, Claim, with_score, IsCertified, IsShownBy, GetsScore}
use Rattle.ledger.specs.Terms.{same_table, Contents, IsBoard, HasScore, gained_line, OfferGives}
use Rattle.wire.specs.Terms.{Rec, frames_of, message_text, Ask}
use Rattle.lease_core.specs.Limits.{tick_record_limit, work_record_limit}
use Rattle.lease_core.specs.WorkerState.{unacknowledged, WorkerState, MayWork, records_on, with_record, with_table}
use Rattle.wire.specs.declared.node.Note.TheVariants.{Quiet}
use Rattle.wire.specs.declared.node.Out.{Out}
use Rattle.lease_core.specs.Says.{Says, lines_of}
use Rattle.lease_core.specs.WorkerRules.{Makes, MayGrowAtTick, MayGrowBy, TickBy, TickRow, done_with, IsFirstOpen}
use Rattle.lease_core.specs.inside.{AreFirstAcknowledged}
use Rattle.cert.specs.declared.judgement.Judged.{Judged}
use Rattle.cert.proofs.Claims.{has_score, scored_twice, score_shown}
use Rattle.ledger.specs.declared.faults.Taken.TheVariants.{New}

-- The frames of records that aren't acknowledged, one after another; and where none is written.
abbrev frames_for : ℕ → List Packed → List Recorded → List ℕ
frames_for room tables rs = frames_of (map Rec (take room (unacknowledged tables rs)))

pub comes : (tables : List Packed) (r : Recorded) (rs : List Recorded) → list_any (same_table r.table) tables ≡ false → unacknowledged tables (r ∷ rs) ≡ r ∷ unacknowledged tables rs
comes tables r rs other = ap (λ (b : Bool). if not b then r ∷ unacknowledged tables rs else unacknowledged tables rs) other

pub passes : (tables : List Packed) (r : Recorded) (rs : List Recorded) → list_any (same_table r.table) tables ≡ true → unacknowledged tables (r ∷ rs) ≡ unacknowledged tables rs
passes tables r rs there = ap (λ (b : Bool). if not b then r ∷ unacknowledged tables rs else unacknowledged tables rs) there

one_more : (frames frames' : List ℕ) (r : Recorded) (rs : List Recorded) (room : ℕ) (total : List ℕ) → (room ≡ 0 → ⊥) → frames' ≡ frames ++ frames_of (Rec r ∷ [])
    → frames ++ frames_of (map Rec (take room (r ∷ rs))) ≡ total → frames' ++ frames_of (map Rec (take (room - 1) rs)) ≡ total
one_more frames frames' r rs zero total some is whole = absurd (some refl)
one_more frames frames' r rs (suc k) total some is whole =
    let text = message_text (Rec r) ++ (10 ∷ []) in
    let rest = frames_of (map Rec (take k rs)) in
    let less : k ≡ suc k - 1 = omega arith in
    subst (λ (n : ℕ). frames' ++ frames_of (map Rec (take n rs)) ≡ total) less (
    ap (λ (f : List ℕ). f ++ rest) is ∙ (append_assoc frames (text ++ []) rest ∙ (ap (λ (f : List ℕ). frames ++ f) (append_assoc text [] rest) ∙ whole)))

-- one more is sent
pub sends_one : (tables : List Packed) (frames frames' : List ℕ) (r : Recorded) (before rest : List Recorded) (room : ℕ) (total : List ℕ) (has : Bool)
    → before ≡ r ∷ rest → has ≡ list_any (same_table r.table) tables → has ≡ false → (room ≡ 0 → ⊥) → frames' ≡ frames ++ frames_of (Rec r ∷ [])
    → frames ++ frames_for room tables before ≡ total → frames' ++ frames_for (room - 1) tables rest ≡ total
sends_one tables frames frames' r before rest room total has steps has_is other some is whole =
    let this : unacknowledged tables before ≡ r ∷ unacknowledged tables rest =
    ap (unacknowledged tables) steps ∙ comes tables r rest (sym has_is ∙ other) in
    one_more frames frames' r (unacknowledged tables rest) room total some is (subst (λ (l : List Recorded). frames ++ frames_of (map Rec (take room l)) ≡ total) this whole)

-- one is passed over
pub passes_one : (tables : List Packed) (frames : List ℕ) (r : Recorded) (before rest : List Recorded) (room : ℕ) (total : List ℕ) (has : Bool)
    → before ≡ r ∷ rest → has ≡ list_any (same_table r.table) tables → has ≡ true
    → frames ++ frames_for room tables before ≡ total → frames ++ frames_for room tables rest ≡ total
passes_one tables frames r before rest room total has steps has_is there whole =
    let this : unacknowledged tables before ≡ unacknowledged tables rest =
    ap (unacknowledged tables) steps ∙ passes tables r rest (sym has_is ∙ there) in
    subst (λ (l : List Recorded). frames ++ frames_of (map Rec (take room l)) ≡ total) this whole

not_empty : (text rest : List ℕ) → (text ++ (10 ∷ [])) ++ rest ≡ [] → ⊥
not_empty [] rest is = cc
not_empty (x ∷ xs) rest is = cc

-- where no frame is written, no record is left
pub none_due : (k : ℕ) (rs : List Recorded) → frames_of (map Rec (take (suc k) rs)) ≡ [] → rs ≡ []
none_due k [] is = refl
none_due k (r ∷ rs) is = absurd (not_empty (message_text (Rec r)) (frames_of (map Rec (take k rs))) is)

nothing_behind : (a b : List ℕ) → a ++ b ≡ [] → b ≡ []
nothing_behind [] b is = is
nothing_behind (x ∷ xs) b is = absurd (let no : ⊥ = cc in no)

-- a record that is left and isn't acknowledged is one that is due
pub is_due : (tables : List Packed) (frames : List ℕ) (r : Recorded) (before rest records : List Recorded) (room : ℕ) (has : Bool)
    → before ≡ r ∷ rest → has ≡ list_any (same_table r.table) tables → has ≡ false → (room ≡ 0 → ⊥)
    → frames ++ frames_for room tables before ≡ frames_for tick_record_limit tables records → unacknowledged tables records ≡ [] → ⊥
is_due tables frames r before rest records zero has steps has_is other some whole none = some refl
is_due tables frames r before rest records (suc k) has steps has_is other some whole none =
    let this : unacknowledged tables before ≡ r ∷ unacknowledged tables rest =
    ap (unacknowledged tables) steps ∙ comes tables r rest (sym has_is ∙ other) in
    let nothing : frames_for (suc k) tables before ≡ [] =
    nothing_behind frames (frames_for (suc k) tables before) (whole ∙ ap (λ (l : List Recorded). frames_of (map Rec (take tick_record_limit l))) none) in
    not_empty (message_text (Rec r)) (frames_of (map Rec (take k (unacknowledged tables rest)))) (subst (λ (l : List Recorded). frames_of (map Rec (take (suc k) l)) ≡ []) this nothing)

-- From which place on records may be due.

-- what isn't acknowledged stands from the place on
pub due_from : (tables : List Packed) (rs : List Recorded) (place : ℕ) → AreFirstAcknowledged tables rs place → unacknowledged tables (drop place rs) ≡ unacknowledged tables rs
due_from tables rs place first =
    let test = λ (r : Recorded). not (list_any (same_table r.table) tables) in
    sym (ap (filter test) (sym (take-append-drop place rs)) ∙ (filter-append test (take place rs) (drop place rs) ∙ ap (λ (l : List Recorded). l ++ filter test (drop place rs)) first.none_due))

-- the place 0 is one
pub none_before : (tables : List Packed) (rs : List Recorded) → AreFirstAcknowledged tables rs 0
none_before tables rs = record { none_due = refl; within = omega arith }

-- the record at a place, and what stands behind it
abbrev pub IsNext : List Recorded → ℕ → Recorded → List Recorded → Type 0
IsNext rs place r rest = (take (suc place) rs ≡ take place rs ++ (r ∷ [])) × (rest ≡ drop (suc place) rs) × (suc place ≤ length rs)

next_at : (rs : List Recorded) (place : ℕ) (r : Recorded) (rest : List Recorded) → r ∷ rest ≡ drop place rs → IsNext rs place r rest
next_at [] zero r rest is = cc
next_at [] (suc k) r rest is = cc
next_at (x ∷ xs) zero r rest is = (let same : r ≡ x = cc in ap (λ (q : Recorded). q ∷ []) (sym same), let same : rest ≡ xs = cc in same, omega arith)
next_at (x ∷ xs) (suc k) r rest is = let later = next_at xs k r rest is in (ap (λ (l : List Recorded). x ∷ l) later.0, later.1, let more = later.2 in omega (arith, more))

-- the records that are left from a place on, those before it acknowledged
pub record Passed (tables : List Packed) (rs : List Recorded) (place : ℕ) (left : List Recorded) : Type 0 where
  pub first : AreFirstAcknowledged tables rs place
  pub left_is : left ≡ drop place rs

-- one more is passed
pub passes_next : (tables : List Packed) (rs : List Recorded) (place : ℕ) (left rest : List Recorded) (r : Recorded) (has : Bool) → Passed tables rs place left
    → left ≡ r ∷ rest → has ≡ list_any (same_table r.table) tables → has ≡ true → Passed tables rs (place + 1) rest
passes_next tables rs place left rest r has passed steps has_is there =
    let next = next_at rs place r rest (sym steps ∙ passed.left_is) in
    let test = λ (q : Recorded). not (list_any (same_table q.table) tables) in
    let none = ap (unacknowledged tables) next.0 ∙ (filter-append test (take place rs) (r ∷ []) ∙ (ap (λ (l : List Recorded). l ++ unacknowledged tables (r ∷ [])) passed.first.none_due ∙ passes tables r [] (sym has_is ∙ there))) in
    let one : suc place ≡ place + 1 = omega arith in
    subst (λ (n : ℕ). Passed tables rs n rest) one (record { first = record { none_due = none; within = next.2 }; left_is = next.1 })

-- there is a place behind a record that is left
pub next_within : (tables : List Packed) (rs : List Recorded) (place : ℕ) (left rest : List Recorded) (r : Recorded) → Passed tables rs place left → left ≡ r ∷ rest → suc place ≤ length rs
next_within tables rs place left rest r passed steps = (next_at rs place r rest (sym steps ∙ passed.left_is)).2

any_more : (p : Packed → Bool) (xs ys : List Packed) → list_any p xs ≡ true → list_any p (xs ++ ys) ≡ true
any_more p xs ys is = list_any-append p xs ys ∙ ap (λ (b : Bool). b || list_any p ys) is

more_tables : (tables more : List Packed) (rs : List Recorded) → unacknowledged tables rs ≡ [] → unacknowledged (tables ++ more) rs ≡ []
more_tables tables more [] none = refl
more_tables tables more (r ∷ rs) none =
    elim (list_any (same_table r.table) tables) as (λ (b : Bool). list_any (same_table r.table) tables ≡ b → unacknowledged (tables ++ more) (r ∷ rs) ≡ []) [
      | true ↦ λ e. passes (tables ++ more) r rs (any_more (same_table r.table) tables more e) ∙ more_tables tables more rs (sym (passes tables r rs e) ∙ none)
      | false ↦ λ e. let these = sym (comes tables r rs e) ∙ none in cc
    ] refl

with_one : (tables : List Packed) (t : Packed) (rs : List Recorded) → unacknowledged tables rs ≡ [] → unacknowledged (with_table tables t) rs ≡ []
with_one tables t rs none =
    elim (list_any (same_table t) tables) as (λ (b : Bool). unacknowledged (if b then tables else tables ++ (t ∷ [])) rs ≡ []) [
      | true ↦ none
      | false ↦ more_tables tables (t ∷ []) rs none
    ]

-- one more table is acknowledged
pub acknowledged_more : (tables : List Packed) (t : Packed) (rs : List Recorded) (place : ℕ) → AreFirstAcknowledged tables rs place → AreFirstAcknowledged (with_table tables t) rs place
acknowledged_more tables t rs place first = record { none_due = with_one tables t (take place rs) first.none_due; within = first.within }

-- one more record comes behind them
record_more : (tables : List Packed) (rs : List Recorded) (r : Recorded) (place : ℕ) → AreFirstAcknowledged tables rs place → AreFirstAcknowledged tables (rs ++ (r ∷ [])) place
record_more tables rs r place first =
    let size = length-append rs (r ∷ []) in
    let small = first.within in
    record { none_due = ap (unacknowledged tables) (take-append-le place rs (r ∷ []) first.within) ∙ first.none_due; within = omega (arith, size, small) }

-- a record is made, or memory is refused
pub made_keeps : {E : Type 0} (tables : List Packed) (old new : Contents) (r : Recorded) (result : Result Out E) (place : ℕ)
    → IfOk result (λ (out : Out). Makes old r out (Some new)) → OnErr result (new ≡ old) → AreFirstAcknowledged tables old.records place → AreFirstAcknowledged tables new.records place
made_keeps tables old new r (Ok out) place ok err first =
    let taken = ok.taken in
    let same : new ≡ with_record old r = cc in
    subst (λ (b : Contents). AreFirstAcknowledged tables b.records place) (sym same) (record_more tables old.records (with_score r) place first)
made_keeps tables old new r (Err f) place ok err first = subst (λ (b : Contents). AreFirstAcknowledged tables b.records place) (sym err) first

-- nothing is due and no record may be made, so it asks
pub asks_row : {D : Type 0} (kept old new : WorkerState D) (out : Out) (due : List ℕ) → kept ≡ old → kept.rests ≡ false
    → due ≡ frames_of (map Rec (take tick_record_limit (unacknowledged old.acknowledged (records_on old.board)))) → due ≡ []
    → (MayWork old.board → ⊥) → Says out None [] (done_with kept.lease ++ (Ask kept.id ∷ [])) Quiet → new ≡ record kept { lease = None } → TickRow old out new
asks_row {D = D} kept old new out due view rests due_is empty idle says same =
    let none = none_due 63 (unacknowledged old.acknowledged (records_on old.board)) (sym due_is ∙ empty) in
    let asks = subst (λ (w : WorkerState D). Says out None [] (done_with w.lease ++ (Ask w.id ∷ [])) Quiet) view says in
    let forgets = same ∙ ap (λ (w : WorkerState D). record w { lease = None }) view in
    let works = sym (ap (λ (w : WorkerState D). w.rests) view) ∙ rests in
    subst (λ (r : Bool). TickBy r (unacknowledged old.acknowledged (records_on old.board)) old out new) (sym works)
    (subst (λ (rs : List Recorded). TickBy false rs old out new) (sym none) (inr (idle, asks, forgets)))

-- what is sent at a tick takes memory: records that are due
some_due : {D : Type 0} (w : WorkerState D) (rs : List Recorded) → (rs ≡ [] → ⊥) → MayGrowBy false rs w
some_due w [] some = absurd (some refl)
some_due w (r ∷ rs) some = tt

pub grows_due : {D : Type 0} (kept old : WorkerState D) → kept ≡ old → kept.rests ≡ false → (unacknowledged old.acknowledged (records_on old.board) ≡ [] → ⊥) → MayGrowAtTick old
grows_due {D = D} kept old view rests due =
    let works = sym (ap (λ (w : WorkerState D). w.rests) view) ∙ rests in
    subst (λ (b : Bool). MayGrowBy b (unacknowledged old.acknowledged (records_on old.board)) old) (sym works) (some_due old (unacknowledged old.acknowledged (records_on old.board)) due)

-- or that it asks
pub grows_asking : {D : Type 0} (kept old : WorkerState D) (due : List ℕ) → kept ≡ old → kept.rests ≡ false
    → due ≡ frames_of (map Rec (take tick_record_limit (unacknowledged old.acknowledged (records_on old.board)))) → due ≡ [] → (MayWork old.board → ⊥) → MayGrowAtTick old
grows_asking {D = D} kept old due view rests due_is empty idle =
    let none = none_due 63 (unacknowledged old.acknowledged (records_on old.board)) (sym due_is ∙ empty) in
    let works = sym (ap (λ (w : WorkerState D). w.rests) view) ∙ rests in
    subst (λ (b : Bool). MayGrowBy b (unacknowledged old.acknowledged (records_on old.board)) old) (sym works)
    (subst (λ (rs : List Recorded). MayGrowBy false rs old) (sym none) idle)

-- The record of a work turn, which is offered with its score.

-- a record that has its score is taken
pub makes : (b new : Contents) (r : Recorded) (out : Out) → IsBoard b → IsFirstOpen b r.table → length b.records < work_record_limit → HasScore r
    → OfferGives b.root b.records r (Ok New) new.records → new.root ≡ b.root → new.format ≡ b.format
    → Says out None (gained_line b.format r (Ok New)) (Rec r ∷ []) Quiet → Makes b r out (Some new)
makes b new r out board first few has gives root format says =
    let records = gives.1 in
    let same : new ≡ with_record b r = λ i. record { root = root i; records = records i; format = format i } in
    record {
      is_board = board;
      first = first;
      few = few;
      fit = gives.0;
      says = subst (λ (q : Recorded). Says out None (lines_of b.format (with_score r ∷ [])) (Rec q ∷ []) Quiet) (sym has) says;
      taken = ap (λ (c : Contents). Some c) same;
    }

-- what was certified is so with its score
module _ (r s : Recorded) (gets : GetsScore r s) (certified : IsCertified r) where
  is_scored : s ≡ with_score r
  is_scored = has_score r s gets certified

  twice : with_score (with_score r) ≡ with_score r
  twice = ap (λ (c : Claim). record { table = r.table; claim = c }) (scored_twice r.table r.claim)

  pub scored_shown : (judged : Judged) → IsShownBy r judged → IsShownBy s judged
  scored_shown judged shown = subst (λ (q : Recorded). IsShownBy q judged) (sym is_scored) (score_shown r judged shown)

  pub scored_first : (b : Contents) → IsFirstOpen b r.table → IsFirstOpen b s.table
  scored_first b first = subst (λ (q : Recorded). IsFirstOpen b q.table) (sym is_scored) first

  -- what makes it with its score makes it
  makes_unscored : (b : Contents) (out : Out) (board : Option Contents) → Makes b s out board → Makes b r out board
  makes_unscored b out board made =
      let makes = subst (λ (q : Recorded). Makes b q out board) is_scored made in
      record {
        is_board = makes.is_board;
        first = makes.first;
        few = makes.few;
        fit = record { is_open = makes.fit.is_open; certified = certified };
        says = subst (λ (q : Recorded). Says out None (lines_of b.format (q ∷ [])) (Rec q ∷ []) Quiet) twice makes.says;
        taken = subst (λ (q : Recorded). board ≡ Some (record { root = b.root; records = b.records ++ (q ∷ []); format = b.format })) twice makes.taken;
      }

  pub made_unscored : {E : Type 0} (b : Contents) (result : Result Out E) (board : Option Contents) → IfOk result (λ (out : Out). Makes b s out board) → IfOk result (λ (out : Out). Makes b r out board)
  made_unscored b (Ok out) board made = makes_unscored b out board made
  made_unscored b (Err e) board made = tt
