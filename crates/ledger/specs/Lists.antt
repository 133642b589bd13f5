-- Lists of records, in order, and what is left of a ledger's text that is cut.
use Rattle.std.specs.Prelude.{◌≡◌, ◌≢◌, ℕ, ◌⊎◌, if◌then◌else◌, List, [], ◌∷◌, ◌++◌, Contains, Some, None, Result, Ok, Err, fold, map}
use Rattle.machine_text.specs.Terms.{Packed}
use Rattle.kind_evidence.specs.declared.verdicts.Ending.TheVariants.{Halts}
use Rattle.law_tree.specs.Terms.{IsChildTable}
use Rattle.cert.specs.Terms.{Recorded, MayOverflow, ending_by, IsCertified, with_score}
use Rattle.ledger.specs.LedgerText.{ledger_record, ReadsAs}
use Rattle.ledger.specs.Records.{same_table}
use Rattle.ledger.specs.Offers.{OfferGives}
use Rattle.text.specs.Terms.{HasNoNewline, joined, BeginsWithLine}
use Rattle.ledger.specs.declared.header.Format.{Format}
use Rattle.ledger.specs.declared.faults.Taken.{Taken}
use Rattle.ledger.specs.declared.faults.OfferFault.{OfferFault}
use Rattle.ledger.specs.declared.faults.OfferFault.TheVariants.{NoMemory}
use Rattle.ledger.specs.declared.loading.Left.{Left}

-- Lists of records, in order: which of them are fit in their turn, and what is held of them in the end.

-- the root, or a child of the table of an earlier record that says that it halts
abbrev pub HasPlace : Packed → List Recorded → Packed → Type 0
HasPlace root earlier t =
    (t ≡ root) ⊎ ((p : Recorded) × (k : ℕ) × Contains earlier p × (ending_by p.claim ≡ Some (Halts k))
    × IsChildTable p.table t)

-- fit after earlier fit records: its table has a place; none of them gives it a verdict, and where the record itself has
-- none, none of them is of its table; and it is certified
pub record IsFitAfter (root : Packed) (earlier : List Recorded) (r : Recorded) : Type 0 where
  pub place : HasPlace root earlier r.table
  pub no_verdict : (e : Recorded) → Contains earlier e → e.table ≡ r.table → ending_by e.claim ≡ None
  pub not_again : ending_by r.claim ≡ None → (e : Recorded) → Contains earlier e → e.table ≢ r.table
  pub certified : IsCertified r

-- with the fit records of a list, each of which is fit after those before it, the earlier ones are these; one whose
-- check may overflow may be left out
abbrev pub AreKept : Packed → List Recorded → List Recorded → List Recorded → Type 0
AreKept root earlier [] kept = kept ≡ earlier
AreKept root earlier (r ∷ rs) kept =
    (IsFitAfter root earlier r × AreKept root (earlier ++ (r ∷ [])) rs kept)
    ⊎ ((IsFitAfter root earlier r → MayOverflow r.claim r.table) × AreKept root earlier rs kept)

-- the records with one more: in the place of that of its table, or last where there is none
unfoldable pub placed : List Recorded → Recorded → List Recorded
placed [] r = r ∷ []
placed (x ∷ xs) r = if same_table x.table r.table then r ∷ xs else x ∷ placed xs r

-- the records of a list, each with its score, and each that a later one resolves replaced by that one
abbrev pub held : List Recorded → List Recorded
held kept = fold placed [] (map with_score kept)

-- a record that is offered, and the answer
pub record Offer : Type 0 where
  pub offered : Recorded
  pub answer : Result Taken OfferFault

-- offers, one after another, make the records old into the records new
abbrev pub AreOffered : Packed → List Recorded → List Offer → List Recorded → Type 0
AreOffered root old [] new = new ≡ old
AreOffered root old (o ∷ os) new = (mid : List Recorded) × OfferGives root old o.offered o.answer mid
    × AreOffered root mid os new

-- the records of the offers for which memory wasn't refused
abbrev pub answered_with : Recorded → Result Taken OfferFault → List Recorded → List Recorded
answered_with r (Ok taken) rs = r ∷ rs
answered_with r (Err NoMemory) rs = rs
answered_with r (Err fault) rs = r ∷ rs

abbrev pub answered : List Offer → List Recorded
answered [] = []
answered (o ∷ os) = answered_with o.offered o.answer (answered os)

-- lines of a version, each of which reads as a record that is fit in its turn; with them the earlier fit records are these
abbrev pub AreFitLines : Format → Packed → List Recorded → List (List ℕ) → List Recorded → Type 0
AreFitLines format root earlier [] kept = kept ≡ earlier
AreFitLines format root earlier (line ∷ lines) kept =
    (r : Recorded) × HasNoNewline line × (ledger_record format line ≡ Ok r) × IsFitAfter root earlier r
    × AreFitLines format root (earlier ++ (r ∷ [])) lines kept

-- What is left of a ledger's text that is cut; and which lines of a text are kept.

-- the text reads as the records of the first of these lines
pub record ReadsAsFirst (root : Packed) (text : List ℕ) (lines : List (List ℕ)) : Type 0 where
  pub rs : List Recorded
  pub left : Left
  pub reads : ReadsAs root text rs left
  pub others : List (List ℕ)
  pub first : lines ≡ reads.keeps.lines ++ others

-- a text begins with a line that reads, in a version, as a record whose check may overflow
pub record BeginsToOverflow (format : Format) (text : List ℕ) : Type 0 where
  pub line : List ℕ
  pub after : List ℕ
  pub begins : BeginsWithLine text line after
  pub r : Recorded
  pub reads : ledger_record format line ≡ Ok r
  pub may_overflow : MayOverflow r.claim r.table

-- lines of a body are the longest list of whole lines of which each reads, in a version, as a record that is fit in its
-- turn: any other such list is a beginning of it, unless the check of the record behind these may overflow. The records
-- rs are those held of them
pub record IsLongest (format : Format) (root : Packed) (body : List ℕ) (lines : List (List ℕ))
    (rs : List Recorded) : Type 0 where
  pub kept : List Recorded
  pub fit : AreFitLines format root [] lines kept
  pub records : rs ≡ held kept
  pub longest : (others : List (List ℕ)) (rest : List ℕ) (fit_ones : List Recorded) → body ≡ joined others ++ rest
      → AreFitLines format root [] others fit_ones
      → ((more : List (List ℕ)) × (lines ≡ others ++ more))
      ⊎ ((left : List ℕ) × (body ≡ joined lines ++ left) × BeginsToOverflow format left)
