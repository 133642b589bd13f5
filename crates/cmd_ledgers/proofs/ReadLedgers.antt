-- A ledger that is read: its first bytes, what is loaded behind its header, and going on where it stands.
use Rattle.std.proofs.Common.{◌≡◌, ℕ, List, ◌++◌, Ok, sym, ◌∙◌, ap, subst, ◌+◌, ◌-◌, ◌≤◌, ◌⊎◌, [], length, take, Option, None, Some, Err, inl, inr, refl, arith, append-nil, length-append, length-take, take_all, get_or, Bool, true, false, not, Result, IfOk, length-take-le, IfErr, IfSome, OnErr}
use Rattle.std.proofs.lemmas.List.{append_cancel_left, take_at, take-take}
use Rattle.std.proofs.Math.Seq.{take-append-add}
use Rattle.std.specs.Io.KnownBytes.{Consumes, IsAtEnd, ReadConsumes}
use Rattle.std.specs.Io.{ReadsAtMost}
use Rattle.machine_text.specs.Terms.{Packed, entry_of, table_of}
use Rattle.ledger.specs.Terms.{HasHeader, header_words, PeekGives, LoadGives, ReadsIn, Contents, same_table, Loading, StandsAfter, IsFed, FeedsAll}
use Rattle.ledger.specs.declared.header.Format.{Format}
use Rattle.ledger.proofs.HeaderLaws.{one_format}
use Rattle.text.proofs.Cuts.{same_line, line_has_newline}
use Rattle.law_tree.specs.Terms.{InOrder}
use Rattle.ledger.specs.declared.loading.Left.{Left}
use Rattle.ledger.proofs.Feeding.{header_more}
use Rattle.ledger.proofs.StageLaws.{IsBad, bad_behind, fed_more}
use Rattle.ledger.specs.declared.faults.LoadFault.{LoadFault}
use Rattle.ledger.specs.declared.faults.LoadFault.TheVariants.{BadHeader, WrongRoot, NoMemory}
use Rattle.cmd_options.specs.declared.ended.Ended.{Ended}
use Rattle.cmd_options.specs.declared.ended.Ended.TheVariants.{BadHeader as HeaderEnds, NoMemory as WantsMemory}
use Rattle.cmd_ledgers.specs.LedgerReport.{ended_by_load, AreFirstBytes, BeginsWithRoot, EndsBehindHeader, EndsReading, IsLoadedFrom}
use Rattle.cmd_ledgers.specs.inside.{BeginsReading}
use Rattle.cmd_options.specs.declared.ended.Stopped.{Stopped}
use Rattle.cmd_options.specs.declared.ended.Stopped.TheVariants.{Failed, Ended as EndedBy}
use Rattle.ledger.proofs.Claims.{same_is}
use Rattle.files.specs.Terms.{Bytes, IsKeptBut, IsLedgerAt, IsOpenedOn, IsPut, IsToldStill, Known, SameFile, Shelf}
use Rattle.cmd_ledgers.specs.Retry.{GoesOnAt, LeavesLedger, MayBeCut, kept_part, LeavesRetried, RetriesAt, RetriesLedger}
use Rattle.cert.specs.Terms.{Recorded}
use Rattle.cmd_options.specs.declared.ended.Outcome.{Outcome}
use Rattle.cmd_options.specs.Terms.{PrintsNothing}

-- A text has one header.
pub one_header : (text : List ℕ) (a b : Packed) (rest more : List ℕ) → HasHeader text a rest → HasHeader text b more → a ≡ b
one_header text a b rest more x y =
    let line = (same_line x.line y.line).0 in
    let format : x.format ≡ y.format = one_format x.format y.format x.name y.name line in
    let name : x.name ≡ y.name = append_cancel_left (header_words y.format) x.name y.name (subst (λ (f : Format). header_words f ++ x.name ≡ header_words y.format ++ y.name) format line) in
    let read : Ok a ≡ Ok b = sym x.reads ∙ (ap table_of name ∙ y.reads) in
    cc

-- The first bytes of a reader, and the header that they have.

-- as many as there are, up to the limit, are the first ones
pub all_first : (old new : Option (List ℕ)) (limit : ℕ) (text : List ℕ) → Consumes old new text → length text ≤ limit → (length text ≡ limit) ⊎ IsAtEnd new → AreFirstBytes old limit text
all_first None new limit text consumed within whole = within
all_first (Some xs) None limit text consumed within whole = absurd consumed
all_first (Some xs) (Some ys) limit text consumed within (inl full) =
    sym (ap (take limit) consumed ∙ take_at text ys limit full)
all_first (Some xs) (Some ys) limit text consumed within (inr end) =
    let same : xs ≡ text = consumed ∙ (ap (λ (l : List ℕ). text ++ l) end ∙ append-nil text) in
    sym (ap (take limit) same ∙ take_all limit text within)

-- those behind others come behind them
pub first_behind : (old mid : Option (List ℕ)) (limit : ℕ) (first more : List ℕ) → Consumes old mid first → length first ≤ limit → AreFirstBytes mid (limit - length first) more → AreFirstBytes old limit (first ++ more)
first_behind None None limit first more consumed within are = omega (arith, are, within, length-append first more)
first_behind None (Some ys) limit first more consumed within are =
    omega (arith, ap length are, length-take (limit - length first) ys, within, length-append first more)
first_behind (Some xs) None limit first more consumed within are = absurd consumed
first_behind (Some xs) (Some ys) limit first more consumed within are =
    let size : length first + (limit - length first) ≡ limit = omega arith in
    sym (ap (take limit) consumed ∙ (ap (λ (n : ℕ). take n (first ++ ys)) (sym size) ∙ (take-append-add first ys (limit - length first) ∙ ap (λ (l : List ℕ). first ++ l) (sym are))))

-- some come behind them
pub some_first : (has : Option (List ℕ)) (limit : ℕ) → (more : List ℕ) × AreFirstBytes has limit more
some_first None limit = ([], omega arith)
some_first (Some xs) limit = (take limit xs, refl)

pub some_behind : (old mid : Option (List ℕ)) (limit : ℕ) (first : List ℕ) → Consumes old mid first → length first ≤ limit → (more : List ℕ) × AreFirstBytes old limit (first ++ more)
some_behind old mid limit first consumed within =
    let (more, are) = some_first mid (limit - length first) in (more, first_behind old mid limit first more consumed within are)

-- the bytes that were read first have no header: neither has the text
module _ (old new : Option (List ℕ)) (limit : ℕ) (first : List ℕ) (begins : BeginsReading old new limit first) where
  bad_stops : IsBad first → (text : List ℕ) × AreFirstBytes old limit text × IsBad text
  bad_stops bad = elim begins.enough [
    | inl whole ↦ (first, all_first old new limit first begins.consumed begins.within whole, bad)
    | inr enough ↦
        let behind = some_behind old new limit first begins.consumed begins.within in
        (first ++ behind.0, behind.1, bad_behind first behind.0 enough bad)
  ]

  pub torn_stops : PeekGives first (Ok None) → EndsReading old limit (EndedBy HeaderEnds)
  torn_stops torn = bad_stops (inl torn)

  pub peek_stops : (f : LoadFault) → PeekGives first (Err f) → EndsReading old limit (EndedBy (ended_by_load f))
  peek_stops BadHeader h = bad_stops (inr h)
  peek_stops WrongRoot h =
      let behind = some_behind old new limit first begins.consumed begins.within in
      (first ++ behind.0, behind.1, (h.0, h.1 ++ behind.0, header_more first behind.0 h.0 h.1 h.2, h.3))
  peek_stops NoMemory h = absurd h

-- behind the header of the root
module _ (old mid : Option (List ℕ)) (limit : ℕ) (first : List ℕ) (root : Packed) (begins : BeginsWithRoot old mid limit first root) where
  pub behind_ends : (e : Stopped) → EndsBehindHeader e → EndsReading old limit e
  behind_ends (Failed fault) h = tt
  behind_ends (EndedBy e) h =
      let behind = some_behind old mid limit first begins.consumed begins.within in
      subst (λ (x : Ended). EndsReading old limit (EndedBy x)) (sym h)
      (first ++ behind.0, behind.1, (root, begins.rest ++ behind.0, header_more first behind.0 root begins.rest begins.header, begins.order))

  pub is_loaded : (b : Contents) (left : Left) (more : List ℕ) → b.root ≡ root → AreFirstBytes mid (limit - length first) more → ReadsIn b.format root (first ++ more) b.records left → IsLoadedFrom old limit b left
  is_loaded b left more same are reads = record {
    text = first ++ more;
    first = first_behind old mid limit first more begins.consumed begins.within are;
    reads = subst (λ (p : Packed). ReadsIn b.format p (first ++ more) b.records left) (sym same) reads;
    order = subst (λ (p : Packed). (u : ℕ) × InOrder u (entry_of p)) (sym same) begins.order;
  }

-- a text with the header of the root isn't loaded where memory is refused alone
pub finish_ends : (text : List ℕ) (root : Packed) (rest : List ℕ) (f : LoadFault) → HasHeader text root rest → LoadGives root text (Err f) → ended_by_load f ≡ WantsMemory
finish_ends text root rest BadHeader header h = absurd (h.none root rest header)
finish_ends text root rest WrongRoot header h = absurd (h.3 (one_header text h.0 root h.1 rest h.2 header))
finish_ends text root rest NoMemory header h = refl

-- Texts that are taken into a board.

-- a text with a header which is loaded
pub load_taken : (text : List ℕ) (root : Packed) (loaded : Contents × Left) → ((other : Packed) × (rest : List ℕ) × HasHeader text other rest) → LoadGives root text (Ok loaded)
    → ReadsIn loaded.0.format root text loaded.0.records loaded.1
load_taken text root loaded header h = elim h.1 [
  | inl none ↦ absurd (line_has_newline header.2.line none.reads.torn.no_newline)
  | inr stands ↦ stands
]

-- A ledger that is read: its first bytes, and what is loaded behind its header.

-- a read behind the first bytes of a buffer
read_more : (at count : ℕ) (buffer buf filled : List ℕ) → at ≤ length buffer → count ≤ length buf → take (at + length buf) filled ≡ take at buffer ++ buf
    → take (at + count) filled ≡ take at buffer ++ take count buf
read_more at count buffer buf filled within fits is =
    let size : at ≡ length (take at buffer) = sym (length-take-le at buffer within) in
    sym (take-take (at + count) (at + length buf) filled (omega (arith, fits)))
    ∙ (ap (take (at + count)) is
    ∙ (ap (λ (n : ℕ). take (n + count) (take at buffer ++ buf)) size ∙ take-append-add (take at buffer) buf count))

pub read_stands : {E : Type 0} (old new : Option (List ℕ)) (at : ℕ) (buffer buf filled : List ℕ) (r : Result ℕ E) → at ≤ length buffer → take (at + length buf) filled ≡ take at buffer ++ buf
    → ReadsAtMost r buf → ReadConsumes old new r buf → IfOk r (λ count. (more : List ℕ) × Consumes old new more × (take (at + count) filled ≡ take at buffer ++ more))
read_stands old new at buffer buf filled (Ok count) within is bound bytes = (take count buf, bytes.0, read_more at count buffer buf filled within bound.0 is)
read_stands old new at buffer buf filled (Err e) within is bound bytes = tt

-- the first bytes are fed, and then all that is read
pub fed_all : (old mid new : Loading) (read new_read : Option (List ℕ)) (limit : ℕ) (first : List ℕ) → IsFed old first mid → FeedsAll mid read limit new new_read
    → (more : List ℕ) × AreFirstBytes read limit more × IsFed old (first ++ more) new
fed_all old mid new read new_read limit first fed all =
    let (more, is, behind) = all in
    (more, all_first read new_read limit more is.is_read.consumed is.is_read.within is.whole, fed_more old mid new first more fed behind)

-- what a loader gives that was fed a text from its beginning
pub behind_loads : (old new : Loading) (root : Packed) (text : List ℕ) (result : Result (Contents × Left) LoadFault) → old.root ≡ root → StandsAfter old [] → IsFed old text new
    → ((all : List ℕ) → StandsAfter new all → LoadGives new.root all result) → LoadGives root text result
behind_loads old new root text result same stands fed gives =
    subst (λ (p : Packed). LoadGives p text result) (fed.root ∙ same) (gives text (fed.stands [] stands))

pub behind_stands : (has : Option (List ℕ)) (limit : ℕ) (root : Packed) (first more rest : List ℕ) (loaded : Contents × Left) → HasHeader first root rest → AreFirstBytes has limit more
    → LoadGives root (first ++ more) (Ok loaded) → (loaded.0.root ≡ root) × ((text : List ℕ) × AreFirstBytes has limit text × ReadsIn loaded.0.format root (first ++ text) loaded.0.records loaded.1)
behind_stands has limit root first more rest loaded header are gives =
    (gives.0, (more, are, load_taken (first ++ more) root loaded (root, rest ++ more, header_more first more root rest header) gives))

-- with the first bytes it is all that was read
pub if_loaded : {E : Type 0} (old mid : Option (List ℕ)) (limit left : ℕ) (first : List ℕ) (root : Packed) (r : Result (Contents × Left) E) → BeginsWithRoot old mid limit first root → left ≡ limit - length first
    → IfOk r (λ l. (l.0.root ≡ root) × ((more : List ℕ) × AreFirstBytes mid left more × ReadsIn l.0.format root (first ++ more) l.0.records l.1))
    → IfOk r (λ l. (l.0.root ≡ root) × IsLoadedFrom old limit l.0 l.1)
if_loaded old mid limit left first root (Ok l) begins is h =
    (h.0, is_loaded old mid limit first root begins l.0 l.1 h.1.0 h.0 (subst (λ (n : ℕ). AreFirstBytes mid n h.1.0) is h.1.1) h.1.2)
if_loaded old mid limit left first root (Err e) begins is h = tt

pub loaded_alone : {E : Type 0} (has : Option (List ℕ)) (limit : ℕ) (root : Packed) (r : Result (Contents × Left) E)
    → IfOk r (λ l. (l.0.root ≡ root) × IsLoadedFrom has limit l.0 l.1) → IfOk r (λ l. IsLoadedFrom has limit l.0 l.1)
loaded_alone has limit root (Ok l) h = h.1
loaded_alone has limit root (Err e) h = tt

-- so many bytes of a limit are left behind the first ones of a buffer
pub left_behind : (limit len : ℕ) (buffer : List ℕ) → len ≤ length buffer → limit - len ≡ limit - length (take len buffer)
left_behind limit len buffer within = ap (λ (n : ℕ). limit - n) (sym (length-take-le len buffer within))

-- a test that finds no difference
pub no_difference : (a b : Packed) (r : Bool) → r ≡ not (same_table a b) → r ≡ false → a ≡ b
no_difference a b r is none =
    elim (same_table a b) as (λ v. same_table a b ≡ v → r ≡ not v → a ≡ b) [
      | true ↦ λ same e. same_is a b same
      | false ↦ λ other e. absurd (cc)
    ] refl is

-- A ledger that was read and gone on with where it stands.

-- what is put at a path by what is told later is put there by what was told before
pub put_told : (tells later : SameFile) (path : List ℕ) (text : Option (List ℕ)) (old opened new : Shelf) → IsKeptBut tells path old opened → IsToldStill tells later → IsPut later path text opened new
    → IsPut tells path text old new
put_told tells later path text old opened new kept still put = record {
  at = put.at;
  others = λ other apart. put.others other (still path other false apart) ∙ kept other apart;
}

-- it is read, opened, and closed again
pub gone_on : (Does : Option (List ℕ) → ℕ → Option (List ℕ) → Option (List ℕ) → Type 0) (tells later : SameFile) (path : List ℕ) (old opened new : Shelf) (has : Option (List ℕ)) (size : ℕ) (before after : Option (List ℕ))
    → IsOpenedOn (old path) has size → IsLedgerAt (old path) before → IsKeptBut tells path old opened → IsToldStill tells later → IsPut later path after opened new → Does has size before after → GoesOnAt Does tells path old new
gone_on Does tells later path old opened new has size before after read ledger kept still put does = record {
  has = has;
  size = size;
  is_read = read;
  before = before;
  is_before = ledger;
  after = after;
  does = does;
  is_put = put_told tells later path after old opened new kept still put;
}

-- where the bytes that stand there are known, all of them are read, and they are the ledger
pub whole_read : (known : Known) (bytes text : List ℕ) (has : Option (List ℕ)) (size : ℕ) (before : Option (List ℕ)) → known ≡ Bytes bytes → IsOpenedOn known has size → IsLedgerAt known before → AreFirstBytes has size text
    → before ≡ Some text
whole_read known bytes text has size before is read ledger first =
    let on : IsOpenedOn (Bytes bytes) has size = subst (λ (k : Known). IsOpenedOn k has size) is read in
    let there : IsLedgerAt (Bytes bytes) before = subst (λ (k : Known). IsLedgerAt k before) is ledger in
    let all : AreFirstBytes (Some bytes) (length bytes) text = subst (λ (n : ℕ). AreFirstBytes (Some bytes) n text) on.1 (subst (λ (h : Option (List ℕ)). AreFirstBytes h size text) on.0 first) in
    there ∙ ap (λ (l : List ℕ). Some l) (sym (all ∙ take_all (length bytes) bytes (omega arith)))

-- what is left of a ledger that was loaded
pub leaves_loaded : (Leaves : Contents → Option (List ℕ) → Contents → Option (List ℕ) → Type 0) (has : Option (List ℕ)) (limit : ℕ) (before after : Option (List ℕ)) (loaded : Contents) (left : Left)
    → IsLoadedFrom has limit loaded left → (MayBeCut left before after ⊎ ((new : Contents) × Leaves loaded (kept_part left before) new after)) → LeavesLedger Leaves has limit before after
leaves_loaded Leaves has limit before after loaded left loads (inl cut) = inr (loaded, loaded, left, loads, inl cut)
leaves_loaded Leaves has limit before after loaded left loads (inr (new, leaves)) = inr (loaded, new, left, loads, inr leaves)

-- A ledger that was retried where it stands.
module _ {K : Type 0} (Answers : Packed → Recorded → Type 0) (Locks : Result (Option K) Ended → Type 0) (tells later : SameFile) (path : List ℕ) (old opened new : Shelf) (has : Option (List ℕ)) (size : ℕ)
    (before after said new_said : Option (List ℕ)) where
  pub retried_at : (lock : K) (r : Result Outcome Ended) → Locks (Ok (Some lock)) → IsOpenedOn (old path) has size → IsLedgerAt (old path) before → IsKeptBut tells path old opened → IsToldStill tells later
      → IsPut later path after opened new → IfOk r (RetriesLedger Answers has size before after said new_said) → IfErr r (λ e. PrintsNothing e said new_said)
      → OnErr r (LeavesLedger (LeavesRetried Answers) has size before after) → RetriesAt Answers Locks tells path old new said new_said r
  retried_at lock (Ok o) locked read ledger kept still put retries silent leaves = (
    lock,
    locked,
    record {
      goes_on = record {
        has = has;
        size = size;
        is_read = read;
        before = before;
        is_before = ledger;
        after = after;
        does = retries;
        is_put = put_told tells later path after old opened new kept still put;
      };
      in_step = λ bytes is. retries.retries.step
          (subst (λ (o : Option (List ℕ)). IfSome o (λ text. ReadsIn retries.loaded.format retries.loaded.root text retries.loaded.records retries.left))
          (sym (whole_read (old path) bytes retries.loads.text has size before is read ledger retries.loads.first)) retries.loads.reads);
    },
  )
  retried_at lock (Err e) locked read ledger kept still put retries silent leaves =
      (silent, inr (gone_on (LeavesLedger (LeavesRetried Answers)) tells later path old opened new has size before after read ledger kept still put leaves))
