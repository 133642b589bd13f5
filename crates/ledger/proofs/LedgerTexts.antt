-- The text of a ledger reads as its records, also with one more line or cut.
use Rattle.std.proofs.Common.{◌≡◌, ℕ, cond, List, ◌++◌, Result, Ok, Err, is_ok, OnOk, ap, ◌∙◌, append_assoc, Bool, true, false, [], ◌∷◌, ◌⊎◌, inl, inr, IsSome, refl, sym, subst, is_some, not, Option, Some, None, ◌≢◌, map, append-nil, ◌+◌, length, take, arith, length-append}
use Rattle.std.specs.List.{All}
use Rattle.std.proofs.lemmas.List.Elements.{All-append, All-nil}
use Rattle.std.proofs.Math.Seq.{take-append_seam}
use Rattle.machine_text.specs.Terms.{Packed, IsTable, text_of}
use Rattle.kind_evidence.specs.declared.verdicts.Ending.{Ending}
use Rattle.kind_evidence.specs.declared.verdicts.Ending.TheVariants.{Halts}
use Rattle.cert.specs.Terms.{Claim, HaltsClaim, NeverClaim, NoClaim, Recorded, ending_by, score_by, IsCertified, scored, unscored, with_score, record_text, record_of}
use Rattle.cert.specs.declared.record.RecordFault.{RecordFault}
use Rattle.cert.specs.declared.record.RecordFault.TheVariants.{BadKind}
use Rattle.cert.proofs.RecordTexts.{record_line, certified_writable, certified_made, record_of-record_text, by_test, text_line}
use Rattle.cert.proofs.Claims.{scored_again, unscored_ends, unscored_certified, score_certified}
use Rattle.text.specs.Terms.{HasNoNewline, joined}
use Rattle.ledger.specs.LedgerText.{may_stand, standing_record, ledger_record, as_written, ledger_line, IsTaken, header_words, AreTaken, ReadsIn, ledger_text, ReadsAs, IsLedgerOf}
use Rattle.ledger.specs.Records.{HasScore, IsFit, Resolves, resolved, IsBoardOf, AreFitAfter, IsHeld, Contents, IsBoard}
use Rattle.ledger.specs.declared.header.Format.{Format}
use Rattle.ledger.specs.declared.header.Format.TheVariants.{One, Two}
use Rattle.machine_text.proofs.RoundTrip.{table_of-text_of}
use Rattle.law_tree.proofs.TableLaws.{tree_alike, tree_table_child}
use Rattle.ledger.specs.declared.loading.Left.TheVariants.{Nothing as NothingLeft, Nothing, From}
use Rattle.ledger.proofs.Claims.{all_first, all_rest}
use Rattle.ledger.proofs.HeldLaws.{held_more, scored_has}
use Rattle.ledger.proofs.OpenLaws.{open_in_tree}
use Rattle.law_tree.specs.Terms.{Holdout}
use Rattle.ledger.specs.declared.loading.Unkept.{Unkept}
use Rattle.ledger.proofs.BoardLaws.{marked_in_tree}
use Rattle.ledger.proofs.Feeding.{taken_more, joined-append}
use Rattle.ledger.proofs.Agreement.{fit_scored, settles_scored}

-- Texts that are appended one after another.

-- the third of three pieces
pub third : {T E : Type 0} (r : Result T E) (a b c d x y z : List ℕ) → x ≡ a ++ b → y ≡ x ++ c → z ≡ cond (is_ok r) (y ++ d) y → OnOk r (z ≡ a ++ (b ++ c ++ d))
third (Ok v) a b c d x y z first second last =
    last ∙ (ap (λ l. l ++ d) (second ∙ (ap (λ l. l ++ c) first ∙ append_assoc a b c)) ∙ append_assoc a (b ++ c) d)
third (Err e) a b c d x y z first second last = tt

-- The line of a record that is held reads, in its version, as a record that is held as that one is.

-- what stands in a version: a claim without a score in the first, one with its score in the second
unscored_stands : (c : Claim) → may_stand One (ending_by (unscored c)) (score_by (unscored c)) ≡ true
unscored_stands (HaltsClaim e) = refl
unscored_stands (NeverClaim r) = refl
unscored_stands NoClaim = refl

scored_stands : (p : Packed) (c : Claim) → may_stand Two (ending_by (scored p c)) (score_by (scored p c)) ≡ true
scored_stands p (HaltsClaim e) = refl
scored_stands p (NeverClaim r) = refl
scored_stands p NoClaim = refl

written_stands : (format : Format) (r : Recorded) → HasScore r → may_stand format (ending_by (as_written format r).claim) (score_by (as_written format r).claim) ≡ true
written_stands One r has = unscored_stands r.claim
written_stands Two r has = subst (λ (x : Recorded). may_stand Two (ending_by x.claim) (score_by x.claim) ≡ true) has (scored_stands r.table r.claim)

written_table : (format : Format) (r : Recorded) → IsTable r.table → IsTable (as_written format r).table
written_table One r table = table
written_table Two r table = table

pub written_certified : (format : Format) (r : Recorded) → IsCertified r → IsCertified (as_written format r)
written_certified One r certified = unscored_certified r certified
written_certified Two r certified = certified

-- it is held as it was
pub written_held : (format : Format) (r : Recorded) → HasScore r → with_score (as_written format r) ≡ r
written_held One r has = ap (λ (c : Claim). record { table = r.table; claim = c }) (scored_again r.table r.claim) ∙ has
written_held Two r has = has

-- and reads back
pub reads_back : (format : Format) (r : Recorded) → IsTable r.table → IsCertified r → HasScore r → ledger_record format (ledger_line format r) ≡ Ok (as_written format r)
unfolding ledger_record
reads_back format r table certified has =
    let w = as_written format r in
    let is_table = written_table format r table in
    let stands = written_certified format r certified in
    let read : record_of (record_text w) ≡ Ok w = record_of-record_text w is_table (certified_writable w stands) (certified_made w stands) in
    ap (standing_record format) read ∙ ap (λ (b : Bool). cond b (Ok w) (Err BadKind)) (written_stands format r has)

pub one_line : (format : Format) (r : Recorded) → IsTable r.table → IsCertified r → HasNoNewline (ledger_line format r)
one_line format r table certified =
    let w = as_written format r in
    record_line w (written_table format r table) (certified_writable w (written_certified format r certified))

-- a line of which the record that it is read as may stand there, or not
module _ (format : Format) (line : List ℕ) (r : Recorded) (reads : Ok r ≡ record_of line) (b : Bool) (is : b ≡ may_stand format (ending_by r.claim) (score_by r.claim)) where
  by_reading : standing_record format (Ok r) ≡ standing_record format (record_of line)
  by_reading = ap (standing_record format) reads

  pub line_stands : b ≡ true → Ok r ≡ ledger_record format line
  unfolding ledger_record
  line_stands holds = sym (ap (λ (v : Bool). cond v (Ok r) (Err BadKind)) (sym is ∙ holds)) ∙ by_reading

  pub line_unfit : b ≡ false → Err BadKind ≡ ledger_record format line
  unfolding ledger_record
  line_unfit fails = sym (ap (λ (v : Bool). cond v (Ok r) (Err BadKind)) (sym is ∙ fails)) ∙ by_reading

pub line_unread : (format : Format) (line : List ℕ) (f : RecordFault) → Err f ≡ record_of line → Err f ≡ ledger_record format line
unfolding ledger_record
line_unread format line f reads = ap (standing_record format) reads

-- what is fit, or resolves, is so as it is written
fit_written : (format : Format) (root : Packed) (old : List Recorded) (r : Recorded) → IsFit root old r → IsFit root old (as_written format r)
fit_written One root old r fit = record { is_open = fit.is_open; certified = unscored_certified r fit.certified }
fit_written Two root old r fit = fit

settles_written : (format : Format) (old : List Recorded) (r : Recorded) → Resolves old r → Resolves old (as_written format r)
settles_written One old r resolves = record {
  is_holdout = resolves.is_holdout;
  verdict = subst IsSome (sym (unscored_ends r.claim)) resolves.verdict;
  certified = unscored_certified r resolves.certified;
}
settles_written Two old r resolves = resolves

-- a held record that is taken is taken from its line
pub taken_written : (format : Format) (root : Packed) (old : List Recorded) (r : Recorded) (new : List Recorded) → HasScore r
    → (IsFit root old r × (new ≡ old ++ (r ∷ []))) ⊎ (Resolves old r × (new ≡ resolved old r)) → IsTaken root old (as_written format r) new
taken_written format root old r new has (inl w) =
    inl (fit_written format root old r w.0, w.1 ∙ ap (λ (x : Recorded). old ++ (x ∷ [])) (sym (written_held format r has)))
taken_written format root old r new has (inr w) =
    inr (settles_written format old r w.0, w.1 ∙ ap (λ (x : Recorded). resolved old x) (sym (written_held format r has)))

-- what is read in a version may stand there
abbrev given : Bool → Recorded → Result Recorded RecordFault
given b x = cond b (Ok x) (Err BadKind)

picked : (b : Bool) (x r : Recorded) → given b x ≡ Ok r → (x ≡ r) × (b ≡ true)
picked true x r is = (cc, refl)
picked false x r is = absurd (cc)

from_standing : (format : Format) (x : Result Recorded RecordFault) (r : Recorded) → standing_record format x ≡ Ok r
    → (x ≡ Ok r) × (may_stand format (ending_by r.claim) (score_by r.claim) ≡ true)
from_standing format (Err f) r is = absurd (cc)
from_standing format (Ok x) r is =
    let w = picked (may_stand format (ending_by x.claim) (score_by x.claim)) x r is in
    (cc w.0, subst (λ (y : Recorded). may_stand format (ending_by y.claim) (score_by y.claim) ≡ true) w.0 w.1)

stands_read : (format : Format) (line : List ℕ) (r : Recorded) → ledger_record format line ≡ Ok r → (record_of line ≡ Ok r) × (may_stand format (ending_by r.claim) (score_by r.claim) ≡ true)
unfolding ledger_record
stands_read format line r reads = from_standing format (record_of line) r reads

-- so no line of a halting record is read in both versions
never_both : (score : Option ℕ) → not (is_some score) ≡ true → is_some score ≡ true → ⊥
never_both None one two = cc
never_both (Some s) one two = cc

pub read_apart : (line : List ℕ) (r other : Recorded) → ledger_record One line ≡ Ok r → ledger_record Two line ≡ Ok other
    → (r ≡ other) × ((k : ℕ) → ending_by r.claim ≡ Some (Halts k) → ⊥)
read_apart line r other one two =
    let first = stands_read One line r one in
    let second = stands_read Two line other two in
    let both : Ok r ≡ Ok other = sym first.0 ∙ second.0 in
    let same : r ≡ other = cc in (
      same,
      λ k halts.
          let stands = subst (λ (y : Recorded). may_stand Two (ending_by y.claim) (score_by y.claim) ≡ true) (sym same) second.1 in
          never_both (score_by r.claim) first.1 (subst (λ (e : Option Ending). may_stand Two e (score_by r.claim) ≡ true) halts stands),
    )

-- The ledger of a board reads as its records.

-- the lines of records that are each fit in their turn are taken in turn
all_taken : (format : Format) (root : Packed) (earlier rs : List Recorded) → IsTable root → IsHeld root earlier → AreFitAfter root earlier rs → All HasScore rs
    → AreTaken format root earlier (map (ledger_line format) rs) (earlier ++ rs)
all_taken format root earlier [] table held fit scored = append-nil earlier
all_taken format root earlier (r ∷ rs) table held fit scored =
    let is_table = (tree_alike root r.table table (open_in_tree root earlier r.table tree_table_child held fit.0.is_open)).is_table in
    let certified = fit.0.certified in
    let has = all_first HasScore r rs scored in
    let rest = all_taken format root (earlier ++ (r ∷ [])) rs table (held_more root earlier r held fit.0 has) fit.1 (all_rest HasScore r rs scored) in (
      as_written format r,
      earlier ++ (r ∷ []),
      one_line format r is_table certified,
      reads_back format r is_table certified has,
      taken_written format root earlier r (earlier ++ (r ∷ [])) has (inl (fit.0, refl)),
      subst (λ (l : List Recorded). AreTaken format root (earlier ++ (r ∷ [])) (map (ledger_line format) rs) l) (append_assoc earlier (r ∷ []) rs) rest,
    )

pub whole_ledger : (root : Packed) (rs : List Recorded) → IsBoardOf root rs → ReadsIn Two root (ledger_text root rs) rs NothingLeft
unfolding ledger_text
whole_ledger root rs board = record {
  reads = record {
    body = joined (map (ledger_line Two) rs);
    header = record {
      format = Two;
      name = text_of root;
      line = record { is = refl; one_line = All-append (λ (byte : ℕ). byte ≢ 10) (header_words Two) (text_of root) (by_test (header_words Two) refl) (text_line root board.is_table) };
      reads = table_of-text_of root board.is_table;
    };
    keeps = record {
      lines = map (ledger_line Two) rs;
      rest = [];
      is = sym (append-nil (joined (map (ledger_line Two) rs)));
      taken = all_taken Two root [] rs board.is_table (record { fit = tt; scored = All-nil HasScore }) board.held.fit board.held.scored;
      ends = refl;
    };
  };
  version = refl;
}

-- A ledger's text with one more line, and a text that is cut to the bytes that are kept of it.

-- a record that is taken is of a table, and certified
taken_table : (b : Contents) (r : Recorded) (new : List Recorded) → IsBoard b → IsTaken b.root b.records r new → IsTable r.table
taken_table b r new board (inl fit) = (tree_alike b.root r.table board.is_table (open_in_tree b.root b.records r.table tree_table_child board.held fit.0.is_open)).is_table
taken_table b r new board (inr resolves) =
    (tree_alike b.root r.table board.is_table (marked_in_tree b r.table Holdout tree_table_child board resolves.0.is_holdout)).is_table

taken_certified : (root : Packed) (old : List Recorded) (r : Recorded) (new : List Recorded) → IsTaken root old r new → IsCertified r
taken_certified root old r new (inl fit) = fit.0.certified
taken_certified root old r new (inr resolves) = resolves.0.certified

-- the same record with its score is taken as it is held
taken_held : (format : Format) (root : Packed) (old : List Recorded) (r : Recorded) (new : List Recorded) → IsTaken root old r new → IsTaken root old (as_written format (with_score r)) new
taken_held format root old r new (inl w) = taken_written format root old (with_score r) new (scored_has r) (inl (fit_scored root old r w.0, w.1))
taken_held format root old r new (inr w) = taken_written format root old (with_score r) new (scored_has r) (inr (settles_scored old r w.0, w.1))

grows_in : (b : Contents) (text : List ℕ) (r : Recorded) (new : List Recorded) → IsBoard b → (reads : ReadsAs b.root text b.records Nothing) → IsTaken b.root b.records r new
    → ReadsIn reads.header.format b.root (text ++ (ledger_line reads.header.format (with_score r) ++ (10 ∷ []))) new Nothing
grows_in b text r new board reads taken =
    let format = reads.header.format in
    let held = with_score r in
    let lines = reads.keeps.lines in
    let line = ledger_line format held in
    let more = line ++ (10 ∷ []) in
    let table : IsTable held.table = taken_table b r new board taken in
    let certified = score_certified r (taken_certified b.root b.records r new taken) in
    let whole = reads.keeps.is ∙ ap (λ (l : List ℕ). joined lines ++ l) reads.keeps.ends ∙ append-nil (joined lines) in
    record {
      reads = record {
        body = reads.body ++ more;
        header = record {
          format = format;
          name = reads.header.name;
          line = record {
            is = ap (λ (l : List ℕ). l ++ more) reads.header.line.is ∙ append_assoc (header_words format ++ reads.header.name) (10 ∷ reads.body) more;
            one_line = reads.header.line.one_line;
          };
          reads = reads.header.reads;
        };
        keeps = record {
          lines = lines ++ (line ∷ []);
          rest = [];
          is = ap (λ (l : List ℕ). l ++ more) whole ∙ sym (joined-append lines (line ∷ [])) ∙ sym (append-nil (joined (lines ++ (line ∷ []))));
          taken = taken_more format b.root [] b.records new lines line (as_written format held) reads.keeps.taken (one_line format held table certified)
              (reads_back format held table certified (scored_has r)) (taken_held format b.root b.records r new taken);
          ends = refl;
        };
      };
      version = refl;
    }

pub grows : (b : Contents) (text : List ℕ) (r : Recorded) (new : List Recorded) → IsBoard b → IsLedgerOf b text → IsTaken b.root b.records r new
    → ReadsIn b.format b.root (text ++ (ledger_line b.format (with_score r) ++ (10 ∷ []))) new Nothing
grows b text r new board ledger taken =
    subst (λ (f : Format). ReadsIn f b.root (text ++ (ledger_line f (with_score r) ++ (10 ∷ []))) new Nothing) ledger.version (grows_in b text r new board ledger.reads taken)

pub cut_to_kept : (root : Packed) (text : List ℕ) (rs : List Recorded) (line kept : ℕ) (why : Unkept) → (reads : ReadsAs root text rs (From line kept why))
    → ReadsIn reads.header.format root (take kept text) rs Nothing
cut_to_kept root text rs line kept why reads =
    let format = reads.header.format in
    let lines = reads.keeps.lines in
    let rest = reads.keeps.rest in
    let front = (header_words format ++ reads.header.name) ++ (10 ∷ joined lines) in
    let is : text ≡ front ++ rest = reads.header.line.is ∙ ap (λ (l : List ℕ). (header_words format ++ reads.header.name) ++ (10 ∷ l)) reads.keeps.is
    ∙ sym (append_assoc (header_words format ++ reads.header.name) (10 ∷ joined lines) rest) in
    let all : kept + length rest ≡ length text = reads.keeps.ends.1 in
    let many : kept ≡ length front = omega (arith, all, ap length is, length-append front rest) in
    record {
      reads = record {
        body = joined lines;
        header = record {
          format = format;
          name = reads.header.name;
          line = record { is = ap (λ (k : ℕ). take k text) many ∙ ap (take (length front)) is ∙ take-append_seam front rest; one_line = reads.header.line.one_line };
          reads = reads.header.reads;
        };
        keeps = record { lines = lines; rest = []; is = sym (append-nil (joined lines)); taken = reads.keeps.taken; ends = refl };
      };
      version = refl;
    }
