-- The stages of a text that is loaded in pieces, as they are read.
use Rattle.std.proofs.Common.{◌≡◌, ℕ, ◌≤◌, ◌⊎◌, List, ◌++◌, length, take, inl, inr, refl, sym, ap, ◌∙◌, subst, arith, get_or, ◌≢◌, ◌+◌, [], ◌∷◌, Some, None, Ok, Err, append_assoc, append-nil, length-append, length-take-le, Result, IfErr, ◌<◌, Option}
use Rattle.std.proofs.lemmas.List.{take-append-le, get_or_at, get_or_append_left}
use Rattle.std.proofs.lemmas.Bool.{cases_lt}
use Rattle.std.proofs.Math.Seq.{take-append-add}
use Rattle.std.proofs.KnownBytes.{Consumes-nil, Consumes-trans}
use Rattle.std.specs.Io.KnownBytes.{Consumes}
use Rattle.text.specs.Terms.{HasNoNewline, BeginsWithLine}
use Rattle.text.proofs.Cuts.{cases_line, line_has_newline}
use Rattle.ledger.specs.LedgerText.{BeginsAsHeader, IsTornHeader, HasNoHeader, IsTornLeft, LoadGives}
use Rattle.ledger.specs.Loading.{header_start, NamesRoot, IsBodyOf, IsStageOf, Loading, StandsAfter, IsFed, IsStopped}
use Rattle.ledger.proofs.HeaderLaws.{header_limit, header_short, begun_whole, begun_start, none_begun, none_named, is_named, start_more, named_whole, named_start, torn_left}
use Rattle.ledger.proofs.Feeding.{longer_text, headed_more, no_newline_more, line_ends, is_all_taken, start_within}
use Rattle.machine_text.specs.Terms.{Packed}
use Rattle.ledger.specs.Records.{Contents}
use Rattle.ledger.specs.declared.header.Format.{Format}
use Rattle.ledger.specs.declared.header.Format.TheVariants.{Two}
use Rattle.ledger.specs.declared.loading.Left.{Left}
use Rattle.ledger.specs.declared.faults.LoadFault.{LoadFault}
use Rattle.ledger.specs.declared.faults.LoadFault.TheVariants.{BadHeader, WrongRoot}
use Rattle.ledger.specs.declared.body.Body.{Body}
use Rattle.ledger.specs.declared.loading.Stage.{Stage}
use Rattle.ledger.specs.declared.loading.Stage.TheVariants.{Header, Records, Refused}
use Rattle.ledger.specs.declared.loading.FeedStop.{FeedStop}
use Rattle.ledger.specs.inside.Taking.{IsHeaded, BodyStops, StageStops}
use Rattle.ledger.specs.Reading.{StopsReading}
use Rattle.ledger.specs.declared.loading.ReadStop.TheVariants.{NoMemory}

-- A text whose first bytes show that it has no header.

-- a first line that is no header
no_header_line : (first more line rest : List ℕ) → BeginsWithLine first line rest → HasNoHeader first → HasNoHeader (first ++ more)
no_header_line first more line rest begins none =
    none_named (first ++ more) line (rest ++ more) (longer_text more begins)
    (λ format root named. none.none root rest (is_named first line rest begins format root named))

-- a line behind bytes without a newline is no shorter than they are
line_long : (first more line rest : List ℕ) → HasNoNewline first → BeginsWithLine (first ++ more) line rest → length first ≤ length line
line_long first more line rest none begins = elim (cases_lt (length line) (length first)) [
  | inl short ↦
      let at : get_or first (length line) 0 ≡ 10 =
      sym (get_or_append_left first more 0 (length line) short) ∙ (ap (λ (l : List ℕ). get_or l (length line) 0) begins.is ∙ get_or_at line 10 rest 0 (length line) refl) in
      absurd (none (length line) 0 short at)
  | inr long ↦ long
]

-- no text that begins so has a header: a newline is among the bytes, or they are too many
abbrev pub IsBad : List ℕ → Type 0
IsBad text = IsTornHeader text ⊎ HasNoHeader text

module _ (first more : List ℕ) (none : HasNoNewline first) (long : 64 ≤ length first) where
  same_start : header_start (first ++ more) ≡ header_start first
  same_start = take-append-le 64 first more long

  begun_behind : BeginsAsHeader first → BeginsAsHeader (first ++ more)
  begun_behind begun = begun_whole (first ++ more) (subst BeginsAsHeader (sym same_start) (begun_start first begun))

  begun_before : BeginsAsHeader (first ++ more) → BeginsAsHeader first
  begun_before begun = begun_whole first (subst BeginsAsHeader same_start (begun_start (first ++ more) begun))

  bad_without : HasNoNewline (first ++ more) → IsBad first → IsBad (first ++ more)
  bad_without no_newline (inl torn) = inl (record { no_newline = no_newline; begun = begun_behind torn.begun })
  bad_without no_newline (inr bad) = inr (none_begun (first ++ more) no_newline (λ begun. bad.whole (record { no_newline = none; begun = begun_before begun })))

  bad_with : (line rest : List ℕ) → BeginsWithLine (first ++ more) line rest → IsBad (first ++ more)
  bad_with line rest begins = inr (none_named (first ++ more) line rest begins (λ format root named.
      let size : length line ≤ header_limit = header_short format line root named in
      let reach : length first ≤ length line = line_long first more line rest none begins in
      absurd (omega (arith, size, reach, long))))

  bad_long : IsBad first → IsBad (first ++ more)
  bad_long bad = elim (cases_line (first ++ more)) [
    | inl no_newline ↦ bad_without no_newline bad
    | inr w ↦ bad_with w.0 w.1 w.2
  ]

bad_line : (first more line rest : List ℕ) → BeginsWithLine first line rest → IsBad first → IsBad (first ++ more)
bad_line first more line rest begins (inl torn) = absurd (line_has_newline begins torn.no_newline)
bad_line first more line rest begins (inr bad) = inr (no_header_line first more line rest begins bad)

pub bad_behind : (first more : List ℕ) → (HasNoNewline first → ⊥) ⊎ (64 ≤ length first) → IsBad first → IsBad (first ++ more)
bad_behind first more enough bad = elim (cases_line first) [
  | inr w ↦ bad_line first more w.0 w.1 w.2 bad
  | inl none ↦ elim enough [
    | inl some ↦ absurd (some none)
    | inr long ↦ bad_long first more none long bad
  ]
]

-- The stages of a text that is loaded in pieces.

-- more bytes of the first line
pub header_grows : (root : Packed) (text part start new : List ℕ) → HasNoNewline part → new ≡ take 64 (start ++ part) → IsStageOf root text (Header start)
    → IsStageOf root (text ++ part) (Header new)
header_grows root text part start new one_line added is = (
  no_newline_more text part is.0 one_line,
  added ∙ (ap (λ (l : List ℕ). take 64 (l ++ part)) is.1 ∙ start_more 64 text part),
)

-- what is no ledger of the root stays so
pub refused_grows : (root : Packed) (text more : List ℕ) (fault : LoadFault) → IsStageOf root text (Refused fault) → IsStageOf root (text ++ more) (Refused fault)
refused_grows root text more fault is =
    (is.0, λ tail. subst (λ (l : List ℕ). LoadGives root l (Err fault)) (sym (append_assoc text more tail)) (is.1 (more ++ tail)))

-- a new board, in another version
versioned : Format → Contents → Contents
versioned format b = record { root = b.root; records = b.records; format = format }

pub new_versioned : (root : Packed) (format : Format) (old new : Contents) → old ≡ record { root = root; records = []; format = Two }
    → new ≡ record { root = old.root; records = old.records; format = format } → new ≡ record { root = root; records = []; format = format }
unfolding versioned
new_versioned root format old new was is = is ∙ ap (versioned format) was

-- the first line has ended: it is no header, or that of another root, or that of the root
module _ (root : Packed) (text line : List ℕ) (one_line : HasNoNewline text) (kept : line ≡ header_start text) where
  abbrev of_whole : (format : Format) (other : Packed) → NamesRoot format line other → NamesRoot format text other
  of_whole format other named = named_whole format text other (subst (λ (l : List ℕ). NamesRoot format l other) kept named)

  pub has_no_header : ((format : Format) (other : Packed) → NamesRoot format line other → ⊥) → IsStageOf root (text ++ (10 ∷ [])) (Refused BadHeader)
  has_no_header apart = (
    λ e. cc,
    λ more. none_named ((text ++ (10 ∷ [])) ++ more) text more (line_ends text more one_line)
        (λ format other named. apart format other (subst (λ (l : List ℕ). NamesRoot format l other) (sym kept) (named_start format text other named))),
  )

  pub has_other_root : (format : Format) (other : Packed) → NamesRoot format line other → other ≢ root → IsStageOf root (text ++ (10 ∷ [])) (Refused WrongRoot)
  has_other_root format other named apart = (
    λ e. cc,
    λ more. (other, more, is_named ((text ++ (10 ∷ [])) ++ more) text more (line_ends text more one_line) format other (of_whole format other named), apart),
  )

  abbrev pub headed : (format : Format) → NamesRoot format line root → IsHeaded root (text ++ (10 ∷ []))
  headed format named =
      ([], is_named (text ++ (10 ∷ [])) text [] (record { is = refl; one_line = one_line }) format root (of_whole format root named))

  pub begins_body : (format : Format) (after : ℕ) (body : Body) → length text + 1 ≡ after → NamesRoot format line root
      → body.board ≡ record { root = root; records = []; format = format } → body.number ≡ 2
      → body.before ≡ after → body.line ≡ Some [] → body.left ≡ None → IsStageOf root (text ++ (10 ∷ [])) (Records body)
  begins_body format after body size named board number before empty none =
      is_all_taken root (text ++ (10 ∷ [])) body none (ap (λ (b : Contents). b.root) board) (record {
        behind = [];
        header = (headed format named).1;
        lines = [];
        line = [];
        is = refl;
        version = sym (ap (λ (b : Contents). b.format) board);
        taken = ap (λ (b : Contents). b.records) board;
        number = number;
        before = omega (arith, before, size, length-append text (10 ∷ []));
        unfinished = λ k d below. absurd (omega arith);
        kept = empty ∙ start_within [] (omega arith);
      })

  -- the text ends within it
  pub is_torn : BeginsAsHeader line → IsTornHeader text
  is_torn begun = record { no_newline = one_line; begun = begun_whole text (subst BeginsAsHeader kept begun) }

  pub torn_loaded : (board : Contents) (left : Left) → board ≡ record { root = root; records = []; format = Two } → BeginsAsHeader line → IsTornLeft line left
      → LoadGives root text (Ok (board, left))
  torn_loaded board left empty begun ends = (
    ap (λ (b : Contents). b.root) empty,
    inl (record {
      reads = record {
        torn = is_torn begun;
        none = ap (λ (b : Contents). b.records) empty;
        ends = torn_left text left (subst (λ (l : List ℕ). IsTornLeft l left) kept ends);
      };
      version = ap (λ (b : Contents). b.format) empty;
    }),
  )

  pub is_bad : (BeginsAsHeader line → ⊥) → HasNoHeader text
  is_bad apart = none_begun text one_line (λ begun. apart (subst BeginsAsHeader (sym kept) (begun_start text begun)))

-- what was refused, where the text ends
pub refused_ends : (root : Packed) (text : List ℕ) (fault : LoadFault) → IsStageOf root text (Refused fault) → LoadGives root text (Err fault)
refused_ends root text fault is = subst (λ (l : List ℕ). LoadGives root l (Err fault)) (append-nil text) (is.1 [])

-- pieces one after another
pub fed_more : (old mid new : Loading) (done part : List ℕ) → IsFed old done mid → IsFed mid part new → IsFed old (done ++ part) new
fed_more old mid new done part first then = record {
  root = then.root ∙ first.root;
  bytes = omega (arith, first.bytes, then.bytes, length-append done part);
  stands = λ text stands. subst (λ (t : List ℕ). StandsAfter new t) (append_assoc text done part) (then.stands (text ++ done) (first.stands text stands));
}

stop_later : (old mid new : Loading) (done part tail : List ℕ) (stop : FeedStop) (taken : ℕ) → IsFed old done mid → IsStopped mid part stop new
    → taken ≡ length done + stop.taken → IsStopped old (done ++ (part ++ tail)) (record { taken = taken }) new
stop_later old mid new done part tail stop taken first stopped is =
    let same : take taken (done ++ (part ++ tail)) ≡ done ++ take stop.taken part =
    ap (λ (k : ℕ). take k (done ++ (part ++ tail))) is
    ∙ (take-append-add done (part ++ tail) stop.taken ∙ ap (λ (l : List ℕ). done ++ l) (take-append-le stop.taken part tail stopped.within)) in
    record {
      within = omega (arith, is, stopped.within, length-append done (part ++ tail), length-append part tail);
      fed = subst (λ (l : List ℕ). IsFed old l new) (sym same) (fed_more old mid new done (take stop.taken part) first stopped.fed);
      header = λ text stands.
          let found = headed_more mid.root ((text ++ done) ++ part) tail (stopped.header (text ++ done) (first.stands text stands)) in
          let all : ((text ++ done) ++ part) ++ tail ≡ text ++ (done ++ (part ++ tail)) =
          append_assoc (text ++ done) part tail ∙ append_assoc text done (part ++ tail) in
          subst (λ (p : Packed). IsHeaded p (text ++ (done ++ (part ++ tail)))) first.root (subst (λ (l : List ℕ). IsHeaded mid.root l) all found);
    }

-- it stopped in a later part of a piece
pub stop_at : (old mid new : Loading) (piece done rest part tail : List ℕ) (stop : FeedStop) (taken : ℕ) → piece ≡ done ++ rest → rest ≡ part ++ tail
    → IsFed old done mid → IsStopped mid part stop new → taken ≡ length done + stop.taken → IsStopped old piece (record { taken = taken }) new
stop_at old mid new piece done rest part tail stop taken whole cut first stopped is =
    subst (λ (l : List ℕ). IsStopped old l (record { taken = taken }) new) (sym (whole ∙ ap (λ (l : List ℕ). done ++ l) cut))
    (stop_later old mid new done part tail stop taken first stopped is)

-- it took nothing
pub stop_none : (old new : Loading) (part : List ℕ) → new.root ≡ old.root → new.bytes ≡ old.bytes → new.stage ≡ old.stage
    → ((text : List ℕ) → IsStageOf old.root text old.stage → IsHeaded old.root text) → IsStopped old part (record { taken = 0 }) new
stop_none old new part root bytes stage headed = record {
  within = omega arith;
  fed = record {
    root = root;
    bytes = omega (arith, bytes);
    stands = λ text stands. subst (λ (t : List ℕ). StandsAfter new t) (sym (append-nil text)) (record {
      bytes = bytes ∙ stands.bytes;
      stage = subst (λ (p : Packed). IsStageOf p text new.stage) (sym root) (subst (λ (s : Stage). IsStageOf old.root text s) (sym stage) stands.stage);
    });
  };
  header = λ text stands. headed_more old.root text part (headed text stands.stage);
}

-- a stage that goes on, in a loader
pub loader_grows : (old new : Loading) (part : List ℕ) → new.root ≡ old.root → new.bytes ≡ old.bytes + length part
    → ((text : List ℕ) → old.bytes ≡ length text → IsStageOf old.root text old.stage → IsStageOf old.root (text ++ part) new.stage) → IsFed old part new
loader_grows old new part root bytes grows = record {
  root = root;
  bytes = bytes;
  stands = λ text stands. record {
    bytes = omega (arith, bytes, stands.bytes, length-append text part);
    stage = subst (λ (p : Packed). IsStageOf p (text ++ part) new.stage) (sym root) (grows text stands.bytes stands.stage);
  };
}

pub loader_stops : (old new : Loading) (part : List ℕ) (stop : FeedStop) → new.root ≡ old.root → new.bytes ≡ old.bytes + stop.taken
    → StageStops old.root old.stage part stop.taken new.stage → IsStopped old (part ++ (10 ∷ [])) stop new
loader_stops old new part stop root bytes stops = record {
  within = omega (arith, stops.within, length-append part (10 ∷ []));
  fed = subst (λ (l : List ℕ). IsFed old l new) (sym (take-append-le stop.taken part (10 ∷ []) stops.within))
      (loader_grows old new (take stop.taken part) root (omega (arith, bytes, length-take-le stop.taken part stops.within)) (λ text size is. stops.grows text is));
  header = λ text stands. stops.headed text stands.stage;
}

-- a body that stops, in its stage
pub records_stop : (root : Packed) (stage : Stage) (old new : Body) (part : List ℕ) (taken : ℕ) → stage ≡ Records old → BodyStops old part taken new
    → StageStops root stage part taken (Records new)
records_stop root stage old new part taken same stops =
    let was : (text : List ℕ) → IsStageOf root text stage → IsBodyOf root text old = λ text is. subst (λ (s : Stage). IsStageOf root text s) same is in
    record {
      within = stops.within;
      grows = λ text is. stops.grows root text (was text is);
      headed = λ text is. headed_more root text (part ++ (10 ∷ [])) (stops.headed root text (was text is));
    }

pub if_err : {A E : Type 0} {P Q : E → Type 0} (r : Result A E) → ((e : E) → P e → Q e) → IfErr r P → IfErr r Q
if_err (Ok x) weaker is = tt
if_err (Err e) weaker is = weaker e is

-- Pieces that are read from a reader and fed to a loader, one after another.

-- nothing was fed yet
fed_none : (l : Loading) → IsFed l [] l
fed_none l = record {
  root = refl;
  bytes = omega arith;
  stands = λ text stands. subst (λ (t : List ℕ). StandsAfter l t) (sym (append-nil text)) stands;
}

-- so much was read and fed, and so many bytes are left to read
pub record IsGoingOn (old : Loading) (read : Option (List ℕ)) (limit : ℕ) (new : Loading) (new_read : Option (List ℕ)) (left : ℕ) : Type 0 where
  pub text : List ℕ
  pub consumed : Consumes read new_read text
  pub fed : IsFed old text new
  pub size : length text + left ≡ limit

pub begins : (l : Loading) (read : Option (List ℕ)) (limit : ℕ) → IsGoingOn l read limit l read limit
begins l read limit = record { text = []; consumed = Consumes-nil read; fed = fed_none l; size = omega arith }

module _ (old : Loading) (read : Option (List ℕ)) (limit : ℕ) (mid : Loading) (mid_read : Option (List ℕ)) (left : ℕ) (going : IsGoingOn old read limit mid mid_read left) where
  module _ (new : Loading) (new_read : Option (List ℕ)) (part : List ℕ) (more : Consumes mid_read new_read part) where
    -- a piece is read and fed
    pub goes_on : (after : ℕ) → IsFed mid part new → length part + after ≡ left → IsGoingOn old read limit new new_read after
    goes_on after fed size = record {
      text = going.text ++ part;
      consumed = Consumes-trans read mid_read new_read going.text part going.consumed more;
      fed = fed_more old mid new going.text part going.fed fed;
      size = omega (arith, going.size, size, length-append going.text part);
    }

    -- or memory is refused for it
    pub stops : (stop : FeedStop) → IsStopped mid part stop new → length part ≤ left → StopsReading old read limit NoMemory new new_read
    stops stop stopped room = (
      going.text ++ part,
      record { taken = length going.text + stop.taken },
      record {
        consumed = Consumes-trans read mid_read new_read going.text part going.consumed more;
        within = omega (arith, going.size, room, length-append going.text part);
      },
      stop_at old mid new (going.text ++ part) going.text part part [] stop (length going.text + stop.taken) refl (sym (append-nil part)) going.fed stopped refl,
    )
