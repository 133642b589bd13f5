-- Lines that are offered one after another, and what is held of them.
use Rattle.std.proofs.Common.{◌≡◌, inl, inr, ℕ, ◌+◌, ◌-◌, IfOk, true, false, if◌then◌else◌, nat_le, nat_lt, List, [], ◌∷◌, ◌++◌, length, Option, Some, None, Result, Ok, Err, sym, ◌∙◌, ap, subst, refl, arith, length-append}
use Rattle.std.proofs.lemmas.Bool.Decides.{nat_tests}
use Rattle.machine_text.specs.Terms.{Packed, IsTable}
use Rattle.text.specs.Terms.{bounded_line, line_byte_limit}
use Rattle.cert.specs.Terms.{Recorded, record_byte_limit, record_of}
use Rattle.cert.specs.declared.record.RecordFault.{RecordFault}
use Rattle.ledger.specs.Terms.{OfferGives, Contents, HasHeader, AreKept, held}
use Rattle.ledger.specs.declared.faults.Taken.{Taken}
use Rattle.ledger.specs.declared.faults.Taken.TheVariants.{New, Known, Settled}
use Rattle.ledger.specs.declared.faults.OfferFault.{OfferFault}
use Rattle.ledger.specs.declared.faults.OfferFault.TheVariants.{WrongSize, NotOpen, Refused as IsRefused, NoMemory}
use Rattle.ledger.proofs.Agreement.{Agree, agree_none, agree_new, agree_settled, new_fit, settling_fit, fit_now, fit_or_known, fit_or_refused}
use Rattle.ledger.proofs.Feeding.{header_more}
use Rattle.cmd_ledgers.specs.LedgerReport.{AreFirstBytes, BeginsWithRoot}
use Rattle.cmd_ledgers.proofs.ReadLedgers.{first_behind}
use Rattle.cmd_lines.specs.Terms.{AreLines, AreTakenInTurn, read_line}
use Rattle.cmd_ledgers.specs.Merge.{AreMended, IsMended, records_of_lines, with_read}
use Rattle.cmd_ledgers.specs.inside.{IsAnswer, LineMends, MendsBehind, ReadMends, dropped_by}
use Rattle.cmd_ledgers.specs.declared.mend.Mender.{Mender}

-- a line that is too long to be kept is too long for a record
read_bounded : (line : List ℕ) → read_line (bounded_line line) ≡ record_of line
unfolding record_of
read_bounded line =
    elim (nat_le (length line) line_byte_limit) as (λ v. nat_le (length line) line_byte_limit ≡ v → read_line (if v then Some line else None) ≡ record_of line) [
      | true ↦ λ short. refl
      | false ↦ λ long. let over : nat_lt record_byte_limit (length line) ≡ true = grind (arith, nat_tests) in rw over
    ] refl

module _ (root : Packed) (table : IsTable root) where
  -- what an answer makes of the records that were kept
  abbrev IsKeptOn : List Recorded → List Recorded → List Recorded → List Recorded → Type 0
  IsKeptOn ks rs more all = (kept : List Recorded) → AreKept root more rs kept → AreKept root ks all kept

  offered : (ks rs mid rest : List Recorded) (r : Recorded) (answer : Result Taken OfferFault) → Agree root ks rs → IsAnswer answer → OfferGives root rs r answer mid →
      (more : List Recorded) × Agree root more mid × (dropped_by answer + length more ≡ 1 + length ks) × IsKeptOn ks rest more (r ∷ rest)
  offered ks rs mid rest r (Ok New) agree is gives = (
    ks ++ (r ∷ []),
    subst (Agree root (ks ++ (r ∷ []))) (sym gives.1) (agree_new root ks rs r agree gives.0),
    omega (arith, length-append ks (r ∷ [])),
    λ kept so. inl (new_fit root ks rs r agree gives.0, so),
  )
  offered ks rs mid rest r (Ok Settled) agree is gives = (
    ks ++ (r ∷ []),
    subst (Agree root (ks ++ (r ∷ []))) (sym gives.1) (agree_settled root ks rs r agree gives.0),
    omega (arith, length-append ks (r ∷ [])),
    λ kept so. inl (settling_fit root ks rs r agree gives.0, so),
  )
  offered ks rs mid rest r (Ok Known) agree is gives = (
    ks,
    subst (Agree root ks) (sym gives.1) agree,
    refl,
    λ kept so. inr (λ fit. absurd (fit_or_known root rs r (fit_now root ks rs r agree fit) gives.0), so),
  )
  offered ks rs mid rest r (Err NoMemory) agree is gives = absurd is
  offered ks rs mid rest r (Err WrongSize) agree is gives = (
    ks,
    subst (Agree root ks) (sym gives.1) agree,
    refl,
    λ kept so. inr (λ fit. fit_or_refused root rs r WrongSize mid table agree.is_held (fit_now root ks rs r agree fit) gives (λ e. cc), so),
  )
  offered ks rs mid rest r (Err NotOpen) agree is gives = (
    ks,
    subst (Agree root ks) (sym gives.2) agree,
    refl,
    λ kept so. inr (λ fit. fit_or_refused root rs r NotOpen mid table agree.is_held (fit_now root ks rs r agree fit) gives (λ e. cc), so),
  )
  offered ks rs mid rest r (Err (IsRefused f)) agree is gives = (
    ks,
    subst (Agree root ks) (sym gives.2) agree,
    refl,
    λ kept so. inr (λ fit. fit_or_refused root rs r (IsRefused f) mid table agree.is_held (fit_now root ks rs r agree fit) gives (λ e. cc), so),
  )

  line_mended : (ks rest : List Recorded) (old new : Mender) (read : Result Recorded RecordFault) → Agree root ks old.board.records → old.board.root ≡ root → ReadMends old read new →
      (more : List Recorded) × Agree root more new.board.records × (new.board.root ≡ root) × (new.dropped + length more ≡ 1 + old.dropped + length ks) × IsKeptOn ks rest more (with_read read rest)
  line_mended ks rest old new (Err fault) agree is (same, count) = (
    ks,
    subst (λ b. Agree root ks b.records) (sym same) agree,
    ap (λ b. b.root) same ∙ is,
    omega (arith, count),
    λ kept so. so,
  )
  line_mended ks rest old new (Ok r) agree is (answer, answered, gives, same, count) =
      let (more, agrees, counts, keeps) = offered ks old.board.records new.board.records rest r answer agree answered (subst (λ p. OfferGives p old.board.records r answer new.board.records) is gives) in
      (more, agrees, same ∙ is, omega (arith, count, counts), keeps)

  lines_mended : (ks : List Recorded) (old new : Mender) (lines : List (List ℕ)) → Agree root ks old.board.records → old.board.root ≡ root → AreTakenInTurn LineMends old lines new →
      (kept : List Recorded) × AreKept root ks (records_of_lines lines) kept × (new.board.records ≡ held kept) × (new.board.root ≡ root) × (new.dropped + length kept ≡ old.dropped + length ks + length lines)
  lines_mended ks old new [] agree is taken = (
    ks,
    refl,
    ap (λ m. m.board.records) taken ∙ agree.is,
    ap (λ m. m.board.root) taken ∙ is,
    let count : new.dropped ≡ old.dropped = ap (λ m. m.dropped) taken in omega (arith, count),
  )
  lines_mended ks old new (line ∷ lines) agree is (mid, first, later) =
      let (more, agrees, same, count, keeps) = line_mended ks (records_of_lines lines) old mid (record_of line) agree is (subst (λ x. ReadMends old x mid) (read_bounded line) first) in
      let (kept, fit, is_held, at, counts) = lines_mended more mid new lines agrees same later in
      (kept, keeps kept fit, is_held, at, omega (arith, count, counts))

  -- lines that are offered to a board without records
  pub all_mended : (old new : Mender) (lines : List (List ℕ)) → old.board.root ≡ root → old.board.records ≡ [] → old.dropped ≡ 0 → AreTakenInTurn LineMends old lines new →
      (new.board.root ≡ root) × AreMended root lines new.board.records new.dropped
  all_mended old new lines is empty none taken =
      let (kept, fit, is_held, at, count) = lines_mended [] old new lines (subst (Agree root []) (sym empty) (agree_none root)) is taken in
      (at, record { kept = kept; fit = fit; is_held = is_held; others = omega (arith, count, none) })

-- the first bytes have the header, and behind it stands what is mended
pub if_mended : {E : Type 0} (old mid : Option (List ℕ)) (limit left : ℕ) (first rest : List ℕ) (root : Packed) (r : Result (Contents × ℕ) E) → (begins : BeginsWithRoot old mid limit first root) → left ≡ limit - length first →
    rest ≡ begins.rest → IfOk r (λ m. (m.0.root ≡ root) × ((more : List ℕ) × AreFirstBytes mid left more × MendsBehind root (rest ++ more) m.0.records m.1)) →
    IfOk r (λ m. (text : List ℕ) × AreFirstBytes old limit text × IsMended text m.0 m.1)
if_mended {E} old mid limit left first rest root (Ok m) begins is same h =
    let (at, (more, are, (lines, are_lines, mended))) = h in (
      first ++ more,
      first_behind old mid limit first more begins.consumed begins.within (subst (λ (n : ℕ). AreFirstBytes mid n more) is are),
      record {
        rest = begins.rest ++ more;
        header = subst (λ (p : Packed). HasHeader (first ++ more) p (begins.rest ++ more)) (sym at) (header_more first more root begins.rest begins.header);
        lines = lines;
        are_lines = subst (λ (t : List ℕ). AreLines (t ++ more) lines) same are_lines;
        mended = subst (λ (p : Packed). AreMended p lines m.0.records m.1) (sym at) mended;
      },
    )
if_mended {E} old mid limit left first rest root (Err e) begins is same h = tt
