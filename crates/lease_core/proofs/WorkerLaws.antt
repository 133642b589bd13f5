-- What a worker's answers do to its board and its ledger, and what it sends.
use Rattle.std.proofs.Common.{◌≡◌, ℕ, suc, Bool, true, List, ◌∷◌, ◌++◌, Option, Some, Ok, Err, inl, inr, refl, sym, ◌∙◌, ap, subst, arith, false, [], ◌⊎◌, None, Result, take, append-nil, map, drop}
use Rattle.std.proofs.lemmas.List.{append_cancel_left, take-append-drop, map-append}
use Rattle.std.specs.List.{All, AllPairs, Contains, list_any}
use Rattle.std.specs.Ordering.{nat_cmp}
use Rattle.std.specs.declared.cmp.Ordering.TheVariants.{Less}
use Rattle.std.specs.Cmp.Lexicographic.{slice_cmp}
use Rattle.std.proofs.lemmas.List.Elements.{All-contains, Contains-append_left, Contains-append_right}
use Rattle.std.specs.Prelude.{IfOk, not}
use Rattle.machine_text.specs.Terms.{Packed, entry_of, table_of, text_of}
use Rattle.law_tree.specs.Terms.{InOrder}
use Rattle.ledger.specs.Terms.{Contents, IsBoard, IsOpenOn, same_table, AreAll, header_words, HasHeader, ReadsIn, LoadGives, PeekGives, ledger_text, IsLedgerOf}
use Rattle.ledger.specs.declared.header.Format.{Format}
use Rattle.ledger.specs.declared.loading.Left.{Left}
use Rattle.ledger.specs.declared.faults.LoadFault.{LoadFault}
use Rattle.ledger.specs.declared.faults.LoadFault.TheVariants.{BadHeader, WrongRoot, NoMemory as NoLoadMemory}
use Rattle.ledger.proofs.HeldLaws.{first_member, first_or_later, chosen_from}
use Rattle.ledger.proofs.Claims.{same_is, same_at}
use Rattle.ledger.proofs.HeaderLaws.{one_format}
use Rattle.text.proofs.Cuts.{same_line, line_has_newline}
use Rattle.lease_core.specs.Starts.{start_fault_of, cut_of}
use Rattle.lease_core.specs.WorkerState.{HasRoot, IsInOrder, IsNoStart, ReadsAsBoard, WorkerState, empty_board, IsOwnLedger, IsInStep, records_on, unacknowledged, Starts, SendsOwn, IsGained, Gains, gained_lines}
use Rattle.lease_core.specs.WorkerRules.{IsFirstOpen, Notes, GrantRow, AckRow, FrameRow, Makes, WorkRow, TickBy, Row, Answers, done_with}
use Rattle.cert.specs.Terms.{Recorded, with_score}
use Rattle.ledger.specs.declared.loading.Left.TheVariants.{Nothing, From}
use Rattle.ledger.proofs.LedgerTexts.{grows, cut_to_kept, whole_ledger}
use Rattle.wire.specs.Terms.{cut_by, text_after, Happening, Came, Ticked, Worked, Message, Ask, Grant, Rec, Ack, Later, Done, Stop, message_of, frames_of}
use Rattle.wire.specs.declared.messages.MsgFault.{MsgFault}
use Rattle.wire.specs.declared.node.Note.{Note}
use Rattle.wire.specs.declared.node.Note.TheVariants.{Quiet, Strange, Stale, Refused}
use Rattle.wire.specs.declared.node.NodeFault.{NodeFault}
use Rattle.wire.specs.declared.node.Out.{Out}
use Rattle.lease_core.specs.declared.starting.StartFault.{StartFault}
use Rattle.lease_core.specs.declared.worker_answers.LeaseName.{LeaseName}
use Rattle.lease_core.specs.Says.{lines_of}
use Rattle.lease_core.specs.Limits.{tick_record_limit}

-- What a worker's board says of tables and of texts.
first_before : {X : Type 0} (R : X → X → Type 0) (x : X) (xs : List X) → AllPairs R (x ∷ xs) → All (R x) xs
first_before R x xs all = λ i d below. all 0 (suc i) d (omega arith) (omega arith)

-- the first of all open tables in the order of texts
pub first_open : (b : Contents) (tables : List Packed) (t : Packed) (rest : List Packed) → AreAll (IsOpenOn b) tables → tables ≡ t ∷ rest → IsFirstOpen b t
first_open b tables t rest all is =
    let there : AreAll (IsOpenOn b) (t ∷ rest) = subst (AreAll (IsOpenOn b)) is all in (
      (there.exact t).0 (first_member t t rest refl),
      λ q is_open. elim (first_or_later t rest q ((there.exact q).1 is_open)) [
        | inl same ↦ inl (sym same)
        | inr later ↦ inr (All-contains (λ (x : Packed). slice_cmp nat_cmp (text_of t) (text_of x) ≡ Less) rest q (first_before (λ (x y : Packed). slice_cmp nat_cmp (text_of x) (text_of y) ≡ Less) t rest there.rising) later)
      ],
    )

-- a text names one root
same_root : (text : List ℕ) (root other : Packed) (rest rest' : List ℕ) → HasHeader text root rest → HasHeader text other rest' → root ≡ other
same_root text root other rest rest' header header' =
    let line = same_line header.line header'.line in
    let format : header.format ≡ header'.format = one_format header.format header'.format header.name header'.name line.0 in
    let name : header.name ≡ header'.name =
    append_cancel_left (header_words header.format) header.name header'.name (line.0 ∙ ap (λ (f : Format). header_words f ++ header'.name) (sym format)) in
    let reads = header.reads in
    let reads' = header'.reads in
    let same = ap table_of name in
    cc

-- what a text with a root is loaded as
pub reads_as_board : (root : Packed) (text : List ℕ) (board : Contents) (left : Left) → PeekGives text (Ok (Some root)) → LoadGives root text (Ok (board, left))
    → ReadsAsBoard text (Some board) left
reads_as_board root text board left peek loads =
    let reads : ReadsIn board.format root text board.records left = elim loads.1 [
      | inl none ↦ absurd (line_has_newline peek.0.1.line none.reads.torn.no_newline)
      | inr there ↦ there
    ] in
    (subst IsInOrder (sym loads.0) peek.1, subst (λ (p : Packed). ReadsIn board.format p text board.records left) (sym loads.0) reads)

-- why it isn't
pub no_start : (root : Packed) (text : List ℕ) (f : LoadFault) → PeekGives text (Ok (Some root)) → LoadGives root text (Err f) → IsNoStart text (start_fault_of f)
no_start root text BadHeader peek loads = loads
no_start root text WrongRoot peek loads = absurd (loads.3 (same_root text loads.0 root loads.1 peek.0.0 loads.2 peek.0.1))
no_start root text NoLoadMemory peek loads = (root, peek.0.0, peek.0.1)

-- a text names this root, as it was found
pub peeked : (text : List ℕ) (o : Option Packed) (root : Packed) → PeekGives text (Ok o) → o ≡ Some root → PeekGives text (Ok (Some root))
peeked text o root gives is = subst (λ (p : Option Packed). PeekGives text (Ok p)) is gives

-- the test of a board's root
pub root_test : (o : Option Contents) (b : Contents) (root t : Packed) (r : Bool) → o ≡ Some b → root ≡ b.root → r ≡ same_table root t
    → (r ≡ true → HasRoot o t) × (HasRoot o t → r ≡ true)
root_test o b root t r is root_is r_is = (
  λ h. subst (λ (p : Option Contents). HasRoot p t) (sym is) (sym root_is ∙ same_is root t (sym r_is ∙ h)),
  λ h. r_is ∙ same_at root t (root_is ∙ subst (λ (p : Option Contents). HasRoot p t) is h),
)

-- and that it is in order
pub root_order : (b : Contents) (root t : Packed) (r : Bool) → IsBoard b → root ≡ b.root → r ≡ same_table root t → r ≡ true → (u : ℕ) × InOrder u (entry_of t)
root_order b root t r board root_is r_is h =
    subst (λ (p : Packed). (u : ℕ) × InOrder u (entry_of p)) (sym root_is ∙ same_is root t (sym r_is ∙ h)) board.in_order

-- What each answer of a worker does to its board and its ledger.
pub same_board : {D : Type 0} {old new : WorkerState D} → new ≡ old → new.board ≡ old.board
same_board {D} is = ap (λ (w : WorkerState D). w.board) is

-- the board and the ledger stay
abbrev Stays : {D : Type 0} → WorkerState D → Out → WorkerState D → Type 0
Stays old out new = (new.board ≡ old.board) × (out.cut ≡ None) × (out.append.items ≡ [])

-- a board is begun
abbrev Begins : {D : Type 0} → Out → WorkerState D → Type 0
Begins out new = (t : Packed) × IsBoard (empty_board t) × (new.board ≡ Some (empty_board t)) × (out.cut ≡ Some 0) × (out.append.items ≡ ledger_text t [])

-- the board gains a record
abbrev GainsBy : {D : Type 0} → WorkerState D → Out → WorkerState D → Type 0
GainsBy old out new = (b : Contents) × (r : Recorded) × (old.board ≡ Some b) × Makes b r out new.board

abbrev pub Steps : {D : Type 0} → WorkerState D → Out → WorkerState D → Type 0
Steps old out new = Stays old out new ⊎ (Begins out new ⊎ GainsBy old out new)

noted : {D : Type 0} (note : Note) (old : WorkerState D) (out : Out) (new : WorkerState D) → Notes note old out new → Steps old out new
noted note old out new row = inl (same_board row.1, row.0.cut_is, row.0.append_is)

grant_steps : {D : Type 0} (old : WorkerState D) (name : LeaseName) (t : Packed) (out : Out) (new : WorkerState D) → GrantRow old name t out new → Steps old out new
grant_steps old name t out new row = elim row [
  | inl refused ↦ noted (Refused 401) old out new refused.1
  | inr others ↦ elim others [
    | inl same ↦ inl (same_board same.3, same.2.cut_is, same.2.append_is)
    | inr begun ↦ inr (inl (t, begun.0, same_board begun.3, begun.2.cut_is, begun.2.append_is))
  ]
]

ack_steps : {D : Type 0} (old : WorkerState D) (t : Packed) (out : Out) (new : WorkerState D) → AckRow old t out new → Steps old out new
ack_steps old t out new row = elim row [
  | inl held ↦ inl (same_board held.2, held.1.cut_is, held.1.append_is)
  | inr stale ↦ noted Stale old out new stale.1
]

frame_steps : {D : Type 0} (old : WorkerState D) (m : Result Message MsgFault) (out : Out) (new : WorkerState D) → FrameRow old m out new → Steps old out new
frame_steps old (Ok (Grant era number t)) out new row = grant_steps old (record { era = era; number = number }) t out new row
frame_steps old (Ok (Ack t)) out new row = ack_steps old t out new row
frame_steps old (Ok (Later t)) out new row = noted Quiet old out new row
frame_steps old (Ok Stop) out new row = inl (same_board row.1, row.0.cut_is, row.0.append_is)
frame_steps old (Ok (Ask id)) out new row = noted Strange old out new row
frame_steps old (Ok (Rec r)) out new row = noted Strange old out new row
frame_steps old (Ok (Done era number)) out new row = noted Strange old out new row
frame_steps old (Err f) out new row = noted Strange old out new row

tick_steps : {D : Type 0} (old : WorkerState D) (rests : Bool) (rs : List Recorded) (out : Out) (new : WorkerState D) → TickBy rests rs old out new → Steps old out new
tick_steps old true rs out new row = noted Quiet old out new row
tick_steps old false (r ∷ rs) out new row = inl (same_board row.1, row.0.cut_is, row.0.append_is)
tick_steps old false [] out new row = elim row [
  | inl works ↦ noted Quiet old out new works.1
  | inr asks ↦ inl (same_board asks.2, asks.1.cut_is, asks.1.append_is)
]

work_steps : {D : Type 0} (asked : D → Packed → Recorded → Type 0) (old : WorkerState D) (out : Out) (new : WorkerState D) → WorkRow asked old out new → Steps old out new
work_steps asked old out new row = elim row [
  | inl none ↦ noted Quiet old out new none.1
  | inr made ↦ inr (inr (made.0, made.1, made.2, made.4))
]

pub steps_of : {D : Type 0} (asked : D → Packed → Recorded → Type 0) (old : WorkerState D) (e : Happening) (out : Out) (new : WorkerState D) → Row asked old e out new → Steps old out new
steps_of asked old (Came frame) out new row = frame_steps old (message_of frame) out new row
steps_of asked old (Ticked t) out new row = tick_steps old old.rests (unacknowledged old.acknowledged (records_on old.board)) out new row
steps_of asked old Worked out new row = work_steps asked old out new row

-- an answer keeps a ledger in step
pub stays_in_step : {D : Type 0} (old : WorkerState D) (out : Out) (new : WorkerState D) → Steps old out new → (text : List ℕ) → IsInStep old text → IsInStep new (text_after out text)
stays_in_step old out new steps text stands = elim steps [
  | inl same ↦
      let after : text_after out text ≡ text =
      ap (λ (c : Option ℕ). cut_by c text ++ out.append.items) same.1 ∙ (ap (λ (l : List ℕ). text ++ l) same.2 ∙ append-nil text) in
      subst (λ (l : List ℕ). IsInStep new l) (sym after) (subst (λ (o : Option Contents). IsOwnLedger o text) (sym same.0) stands)
  | inr others ↦ elim others [
    | inl begun ↦
        let after : text_after out text ≡ ledger_text begun.0 [] =
        ap (λ (c : Option ℕ). cut_by c text ++ out.append.items) begun.3 ∙ begun.4 in
        subst (λ (l : List ℕ). IsInStep new l) (sym after)
        (subst (λ (o : Option Contents). IsOwnLedger o (ledger_text begun.0 [])) (sym begun.2) (whole_ledger begun.0 [] begun.1))
    | inr made ↦
        let b = made.0 in
        let r = made.1 in
        let makes = made.3 in
        let line = lines_of b.format (with_score r ∷ []) in
        let reads : IsLedgerOf b text = subst (λ (o : Option Contents). IsOwnLedger o text) made.2 stands in
        let after : text_after out text ≡ text ++ line =
        ap (λ (c : Option ℕ). cut_by c text ++ out.append.items) makes.says.cut_is ∙ ap (λ (l : List ℕ). text ++ l) makes.says.append_is in
        subst (λ (l : List ℕ). IsInStep new l) (sym after)
        (subst (λ (o : Option Contents). IsOwnLedger o (text ++ line)) (sym makes.taken) (grows b text r (b.records ++ (with_score r ∷ [])) makes.is_board reads (inl (makes.fit, refl))))
  ]
]

-- what is kept of a ledger that is loaded
kept_reads : (format : Format) (root : Packed) (text : List ℕ) (rs : List Recorded) (left : Left) → ReadsIn format root text rs left → ReadsIn format root (cut_by (cut_of left) text) rs Nothing
kept_reads format root text rs Nothing reads = reads
kept_reads format root text rs (From line kept why) reads =
    subst (λ (f : Format). ReadsIn f root (take kept text) rs Nothing) reads.version (cut_to_kept root text rs line kept why reads.reads)

torn_empty : (text : List ℕ) (left : Left) → ReadsAsBoard text None left → cut_by (cut_of left) text ≡ []
torn_empty text Nothing reads = reads.ends
torn_empty text (From line kept why) reads = ap (λ (n : ℕ). take n text) reads.ends.2

-- what is kept of a ledger from which a worker starts is in step with it
pub starts_in_step : (board : Option Contents) (text : List ℕ) (left : Left) → ReadsAsBoard text board left → IsOwnLedger board (cut_by (cut_of left) text)
starts_in_step None text left reads = torn_empty text left reads
starts_in_step (Some b) text left reads = kept_reads b.format b.root text b.records left reads.1

pub keeps_step : {D : Type 0} (asked : D → Packed → Recorded → Type 0) (old : WorkerState D) (e : Happening) (r : Result Out NodeFault) (new : WorkerState D) → Answers asked old e r new
    → IfOk r (λ (out : Out). (text : List ℕ) → IsInStep old text → IsInStep new (text_after out text))
keeps_step asked old e (Ok out) new gives = λ text stands. stays_in_step old out new (steps_of asked old e out new gives.1) text stands
keeps_step asked old e (Err f) new gives = tt

-- what a worker's start makes of its ledger
pub starts_step : {D : Type 0} (id : ℕ) (decider : D) (text : List ℕ) (new : WorkerState D) (r : Result Out StartFault) → Starts id decider text new r → IfOk r (λ (out : Out). IsInStep new (text_after out text))
starts_step id decider text new (Ok out) starts =
    let left = starts.1 in
    let says = starts.3 in
    let board = same_board starts.4 in
    let after : text_after out text ≡ cut_by (cut_of left) text =
    ap (λ (c : Option ℕ). cut_by c text ++ out.append.items) says.cut_is
    ∙ (ap (λ (l : List ℕ). cut_by (cut_of left) text ++ l) says.append_is ∙ append-nil (cut_by (cut_of left) text)) in
    subst (λ (l : List ℕ). IsInStep new l) (sym after)
    (subst (λ (o : Option Contents). IsOwnLedger o (cut_by (cut_of left) text)) (sym board) (starts_in_step starts.0 text left starts.2))
starts_step id decider text new (Err f) starts = tt

-- What workers send, and what they append.
no_member : {X : Type 0} {y : X} → Contains [] y → ⊥
no_member (k, below, is) = omega arith

none_sent : (out : Out) (board : Option Contents) → out.frames.items ≡ frames_of [] → SendsOwn out board
none_sent out board is = ([], is, λ r there. absurd (no_member there))

grant_sends : {D : Type 0} (old : WorkerState D) (name : LeaseName) (t : Packed) (out : Out) (new : WorkerState D) → GrantRow old name t out new → SendsOwn out new.board
grant_sends old name t out new row = elim row [
  | inl refused ↦ none_sent out new.board refused.1.0.frames_are
  | inr others ↦ elim others [ inl same ↦ none_sent out new.board same.2.frames_are | inr begun ↦ none_sent out new.board begun.2.frames_are ]
]

ack_sends : {D : Type 0} (old : WorkerState D) (t : Packed) (out : Out) (new : WorkerState D) → AckRow old t out new → SendsOwn out new.board
ack_sends old t out new row = elim row [ inl held ↦ none_sent out new.board held.1.frames_are | inr stale ↦ none_sent out new.board stale.1.0.frames_are ]

frame_sends : {D : Type 0} (old : WorkerState D) (m : Result Message MsgFault) (out : Out) (new : WorkerState D) → FrameRow old m out new → SendsOwn out new.board
frame_sends old (Ok (Grant era number t)) out new row = grant_sends old (record { era = era; number = number }) t out new row
frame_sends old (Ok (Ack t)) out new row = ack_sends old t out new row
frame_sends old (Ok (Later t)) out new row = none_sent out new.board row.0.frames_are
frame_sends old (Ok Stop) out new row = none_sent out new.board row.0.frames_are
frame_sends old (Ok (Ask id)) out new row = none_sent out new.board row.0.frames_are
frame_sends old (Ok (Rec r)) out new row = none_sent out new.board row.0.frames_are
frame_sends old (Ok (Done era number)) out new row = none_sent out new.board row.0.frames_are
frame_sends old (Err f) out new row = none_sent out new.board row.0.frames_are

-- what is among the first of some is among them
among_all : (k : ℕ) (rs : List Recorded) (m : Message) → Contains (map Rec (take k rs)) m → Contains (map Rec rs) m
among_all k rs m there =
    subst (λ (l : List Recorded). Contains (map Rec l) m) (take-append-drop k rs)
    (subst (λ (l : List Message). Contains l m) (sym (map-append Rec (take k rs) (drop k rs))) (Contains-append_left (map Rec (take k rs)) (map Rec (drop k rs)) m there))

due_own : (k : ℕ) (tables : List Packed) (rs : List Recorded) (r : Recorded) → Contains (map Rec (take k (unacknowledged tables rs))) (Rec r) → Contains rs r
due_own k tables rs r there =
    let found = chosen_from Rec (λ (q : Recorded). not (list_any (same_table q.table) tables)) rs (Rec r) (among_all k (unacknowledged tables rs) (Rec r) there) in
    let one = found.3 in
    let same : found.0 ≡ r = cc in
    subst (λ (q : Recorded). Contains rs q) same found.1

ask_only : (id : ℕ) (r : Recorded) → Contains (Ask id ∷ []) (Rec r) → ⊥
ask_only id r there = elim (first_or_later (Ask id) [] (Rec r) there) [ inl same ↦ cc | inr later ↦ no_member later ]

asks_only : (lease : Option LeaseName) (id : ℕ) (r : Recorded) → Contains (done_with lease ++ (Ask id ∷ [])) (Rec r) → ⊥
asks_only None id r there = ask_only id r there
asks_only (Some name) id r there =
    elim (first_or_later (Done name.era name.number) (Ask id ∷ []) (Rec r) there) [ inl same ↦ cc | inr later ↦ ask_only id r later ]

tick_sends : {D : Type 0} (old : WorkerState D) (rests : Bool) (rs : List Recorded) (out : Out) (new : WorkerState D)
    → ((r : Recorded) → Contains (map Rec (take tick_record_limit rs)) (Rec r) → Contains (records_on old.board) r) → TickBy rests rs old out new → SendsOwn out new.board
tick_sends old true rs out new own row = none_sent out new.board row.0.frames_are
tick_sends old false (q ∷ rs) out new own row = (
  map Rec (take tick_record_limit (q ∷ rs)),
  row.0.frames_are,
  λ r there. subst (λ (o : Option Contents). Contains (records_on o) r) (sym (same_board row.1)) (own r there),
)
tick_sends old false [] out new own row = elim row [
  | inl works ↦ none_sent out new.board works.1.0.frames_are
  | inr asks ↦ (done_with old.lease ++ (Ask old.id ∷ []), asks.1.frames_are, λ r there. absurd (asks_only old.lease old.id r there))
]

work_sends : {D : Type 0} (asked : D → Packed → Recorded → Type 0) (old : WorkerState D) (out : Out) (new : WorkerState D) → WorkRow asked old out new → SendsOwn out new.board
work_sends asked old out new row = elim row [
  | inl none ↦ none_sent out new.board none.1.0.frames_are
  | inr made ↦
      let b = made.0 in
      let r = made.1 in
      let makes = made.4 in (
        Rec (with_score r) ∷ [],
        makes.says.frames_are,
        λ q there. subst (λ (o : Option Contents). Contains (records_on o) q) (sym makes.taken) (elim (first_or_later (Rec (with_score r)) [] (Rec q) there) [
          | inl one ↦ let same : with_score r ≡ q = cc in Contains-append_right b.records (with_score r ∷ []) q (first_member (with_score r) q [] same)
          | inr later ↦ absurd (no_member later)
        ]),
      )
]

pub sends_own : {D : Type 0} (asked : D → Packed → Recorded → Type 0) (old new : WorkerState D) (e : Happening) (out : Out) → Row asked old e out new → SendsOwn out new.board
sends_own asked old new (Came frame) out row = frame_sends old (message_of frame) out new row
sends_own asked old new (Ticked t) out row =
    tick_sends old old.rests (unacknowledged old.acknowledged (records_on old.board)) out new (due_own tick_record_limit old.acknowledged (records_on old.board)) row
sends_own asked old new Worked out row = work_sends asked old out new row

none_gained : (old new : Option Contents) → new ≡ old → IsGained old [] new
none_gained None new is = (refl, is)
none_gained (Some b) new is = is ∙ ap (λ (rs : List Recorded). Some (record { root = b.root; records = rs; format = b.format })) (sym (append-nil b.records))

none_lines : (o : Option Contents) → gained_lines o [] ≡ []
none_lines None = refl
none_lines (Some b) = refl

by_steps : {D : Type 0} (old : WorkerState D) (out : Out) (new : WorkerState D) → Steps old out new → Gains old.board out new.board
by_steps old out new steps = elim steps [
  | inl same ↦ inl ([], none_gained old.board new.board same.0, same.1, same.2 ∙ sym (none_lines old.board))
  | inr others ↦ elim others [
    | inl begun ↦ inr (begun.0, begun.2, begun.3, begun.4)
    | inr made ↦
        let makes = made.3 in
        let held = with_score made.1 in inl (
          held ∷ [],
          subst (λ (o : Option Contents). IsGained o (held ∷ []) new.board) (sym made.2) makes.taken,
          makes.says.cut_is,
          subst (λ (o : Option Contents). out.append.items ≡ gained_lines o (held ∷ [])) (sym made.2) makes.says.append_is,
        )
  ]
]

pub gains : {D : Type 0} (asked : D → Packed → Recorded → Type 0) (old new : WorkerState D) (e : Happening) (out : Out) → Row asked old e out new → Gains old.board out new.board
gains asked old new e out row = by_steps old out new (steps_of asked old e out new row)
