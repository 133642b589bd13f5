-- A coordinator's ledger stays in step with it from its start, and has what it acknowledged.
use Rattle.std.specs.Prelude.{ℕ, [], Option, Some, None}
use Rattle.std.proofs.Common.{◌≡◌, ◌+◌, ◌≤◌, cond, List, ◌∷◌, ◌++◌, length, take, Bool, true, false, nat_eq, Result, Ok, Err, IfOk, inl, inr, refl, sym, ap, ◌∙◌, subst, append-nil, length-append, arith, IsSome}
use Rattle.std.proofs.lemmas.Bool.{ne_eqb}
use Rattle.std.specs.List.{Contains}
use Rattle.wire.specs.declared.node.Note.TheVariants.{Refused}
use Rattle.wire.specs.declared.node.Out.{Out}
use Rattle.lease_core.specs.Says.{Says, NotesRefusal, lines_of, AcknowledgesRecorded, HasRecordOn, board_of}
use Rattle.machine_text.specs.Terms.{state_limit, Packed, empty_table}
use Rattle.law_tree.proofs.TableLaws.{empty_table_in_order, empty_is_table}
use Rattle.cert.specs.Terms.{Recorded, with_score}
use Rattle.ledger.specs.Terms.{Contents, IsBoard, claim_in, header_words, ledger_line, ledger_text, ReadsAs, ReadsAsNone, ReadsIn, IsLedgerOf, HasHeader, LoadGives, Loading, StandsAfter, IsAllRead, StopsReading}
use Rattle.text.specs.Terms.{joined}
use Rattle.ledger.specs.declared.header.Format.{Format}
use Rattle.ledger.specs.declared.header.Format.TheVariants.{Two}
use Rattle.ledger.specs.declared.loading.Left.{Left}
use Rattle.ledger.specs.declared.loading.Left.TheVariants.{Nothing, From}
use Rattle.ledger.specs.declared.faults.Taken.TheVariants.{New, Known, Settled}
use Rattle.ledger.specs.declared.faults.OfferFault.TheVariants.{WrongSize, NotOpen, Refused as NotStanding, NoMemory as OfferNoMemory}
use Rattle.ledger.proofs.LedgerTexts.{grows, cut_to_kept, whole_ledger}
use Rattle.ledger.proofs.OpenLaws.{board_starts}
use Rattle.wire.specs.Terms.{text_after, cut_by, Happening, Came, Ticked, Worked, message_of, Message, Ask, Grant, Rec, Ack, Later, Done, Stop, frames_of}
use Rattle.wire.specs.declared.messages.MsgFault.{MsgFault}
use Rattle.wire.specs.declared.node.Note.{Note}
use Rattle.wire.specs.declared.node.NodeFault.{NodeFault}
use Rattle.wire.specs.declared.node.NodeFault.TheVariants.{Stopped, NoMemory as NodeMemory}
use Rattle.leases.specs.Terms.{Leased, no_leases}
use Rattle.lease_core.specs.Starts.{cut_of, kept_bytes, Begins, HeldInStep, InStep, header_line, header_due, start_fault_of, start_fault_of_stop, Starts, StartsFrom}
use Rattle.kind_evidence.specs.Terms.{refused_number}
use Rattle.kind_evidence.specs.declared.verdicts.Refused.TheVariants.{TooLong}
use Rattle.lease_core.specs.inside.Begun.{BeginsSo, HoldsBoard, BeginsFrom, coordinator_of, answer_of}
use Rattle.lease_core.specs.CoordinatorRules.{Coordinating, HeldGives, On, OfferRow, RecordRow, DoneRow, MessageRow, FrameRow, Row, reply_of}
use Rattle.ledger.specs.declared.faults.LoadFault.{LoadFault}
use Rattle.ledger.specs.declared.faults.LoadFault.TheVariants.{BadHeader as BadLedgerHeader, WrongRoot as OtherRoot, NoMemory as NoLedgerMemory}
use Rattle.ledger.specs.declared.loading.ReadStop.{ReadStop}
use Rattle.ledger.specs.declared.loading.ReadStop.TheVariants.{Failed, NoMemory as NoReadMemory}
use Rattle.lease_core.specs.declared.starting.StartFault.{StartFault}
use Rattle.lease_core.specs.declared.starting.StartFault.TheVariants.{BadHeader, WrongRoot, LedgerFault, NoMemory}
use Rattle.ledger.proofs.Claims.{answered}
use Rattle.ledger.proofs.HeldLaws.{first_or_later}
use Rattle.leases.specs.declared.held_leases.Reply.{Reply}
use Rattle.leases.specs.declared.held_leases.Reply.TheVariants.{Stop as ToStop, Later as ToWait, Grant as ToGrant}
use Rattle.lease_core.specs.CoordinatorRules as coordinating

-- What the note of a refusal says.
pub refusal_says : (number : Option ℕ) (out : Out) → NotesRefusal number out → (n : ℕ) × Says out None [] [] (Refused n)
refusal_says None out row = absurd row
refusal_says (Some n) out row = (n, row)

-- A ledger stays in step with a coordinator.
abbrev Stands : Contents → List ℕ → Type 0
Stands board text = IsLedgerOf board text

-- what a ledger holds after an answer
text_with : (out : Out) (added : List ℕ) (sent : List Message) (note : Note) (text : List ℕ) → Says out None added sent note → text_after out text ≡ text ++ added
text_with out added sent note text says = ap (λ c. cut_by c text ++ out.append.items) says.cut_is ∙ ap (λ l. text ++ l) says.append_is

-- no line is gained
same_text : (old new : Contents) (out : Out) (sent : List Message) (note : Note) (text : List ℕ) → Says out None [] sent note → new ≡ old → Stands old text → Stands new (text_after out text)
same_text old new out sent note text says same stands =
    subst (λ (b : Contents). Stands b (text_after out text)) (sym same) (subst (Stands old) (sym (text_with out [] sent note text says ∙ append-nil text)) stands)

-- the line of a record is
more_text : (old new : Contents) (r : Recorded) (out : Out) (sent : List Message) (note : Note) (text : List ℕ) → Says out None (lines_of old.format (with_score r ∷ [])) sent note
    → ReadsIn old.format old.root (text ++ (ledger_line old.format (with_score r) ++ (10 ∷ []))) new.records Nothing → new.root ≡ old.root → new.format ≡ old.format → Stands new (text_after out text)
more_text old new r out sent note text says reads root format =
    subst (λ (f : Format). ReadsIn f new.root (text_after out text) new.records Nothing) (sym format)
    (subst (λ (p : Packed). ReadsIn old.format p (text_after out text) new.records Nothing) (sym root)
    (subst (λ (l : List ℕ). ReadsIn old.format old.root l new.records Nothing) (sym (text_with out (lines_of old.format (with_score r ∷ [])) sent note text says)) reads))

same_board : (old new : Contents) → new.root ≡ old.root → new.records ≡ old.records → new.format ≡ old.format → new ≡ old
same_board old new root records format = λ i. record { root = root i; records = records i; format = format i }

module _ (old new : Leased) (board : IsBoard old.board) (out : Out) (text : List ℕ) (stands : Stands old.board text) where
  offer_step : (r : Recorded) → OfferRow old r out new → Stands new.board (text_after out text)
  offer_step r (Ok New, gives, kept, leases, row) = more_text old.board new.board r out _ _ text row (grows old.board text r new.board.records board stands (inl gives)) kept.root kept.format
  offer_step r (Ok Settled, gives, kept, leases, row) = more_text old.board new.board r out _ _ text row (grows old.board text r new.board.records board stands (inr gives)) kept.root kept.format
  offer_step r (Ok Known, gives, kept, leases, row) = same_text old.board new.board out _ _ text row (same_board old.board new.board kept.root gives.1 kept.format) stands
  offer_step r (Err NotOpen, gives, kept, leases, row) = same_text old.board new.board out _ _ text row (same_board old.board new.board kept.root gives.2 kept.format) stands
  offer_step r (Err WrongSize, gives, kept, leases, row) = same_text old.board new.board out _ _ text row (same_board old.board new.board kept.root gives.1 kept.format) stands
  offer_step r (Err (NotStanding f), gives, kept, leases, row) =
      same_text old.board new.board out _ _ text (refusal_says (refused_number f) out row).1 (same_board old.board new.board kept.root gives.2 kept.format) stands
  offer_step r (Err OfferNoMemory, gives, kept, leases, row) = absurd row

  noted_step : (note : Note) → Says out None [] [] note × (new ≡ old) → Stands new.board (text_after out text)
  noted_step note row = same_text old.board new.board out [] note text row.0 (ap (λ (l : Leased). l.board) row.1) stands

  record_step : (r : Recorded) → RecordRow old r out new → Stands new.board (text_after out text)
  record_step r row = elim row [
    | inl late ↦ same_text old.board new.board out _ _ text (refusal_says (refused_number TooLong) out late.1).1 (ap (λ (l : Leased). l.board) late.2) stands
    | inr offered ↦ offer_step r offered.1
  ]

  done_step : (is_own : Bool) (number : ℕ) → DoneRow is_own number old out new → Stands new.board (text_after out text)
  done_step true number row = same_text old.board new.board out [] _ text row.3 row.2 stands
  done_step false number row = noted_step _ row

  message_step : (era : ℕ) (m : Message) → MessageRow era old m out new → Stands new.board (text_after out text)
  message_step era (Ask id) row = same_text old.board new.board out _ _ text row.3 row.2 stands
  message_step era (Rec r) row = record_step r row
  message_step era (Done named number) row = done_step (nat_eq named era) number row
  message_step era (Grant named number table) row = noted_step _ row
  message_step era (Ack table) row = noted_step _ row
  message_step era (Later table) row = noted_step _ row
  message_step era Stop row = noted_step _ row

  frame_step : (era : ℕ) (m : Result Message MsgFault) → FrameRow era old m out new → Stands new.board (text_after out text)
  frame_step era (Ok m) row = message_step era m row
  frame_step era (Err fault) row = noted_step _ row

  pub row_step : (era : ℕ) (e : Happening) → Row era old e out new → Stands new.board (text_after out text)
  row_step era (Came frame) row = frame_step era (message_of frame) row
  row_step era (Ticked t) row = same_text old.board new.board out [] _ text row.0 (ap (λ (l : Leased). l.board) row.1) stands
  row_step era Worked row = noted_step _ row

-- after an answer of a coordinator
held_step : (era : ℕ) (e : Happening) (out : Out) (old new : Option Leased) (text : List ℕ) → HoldsBoard old → HeldGives era old e (Ok out) new → HeldInStep old text → HeldInStep new (text_after out text)
held_step era e out None new text board gives stands = absurd gives
held_step era e out (Some old) None text board gives stands = absurd gives
held_step era e out (Some old) (Some new) text board gives stands = row_step old new board out text stands era e gives

pub on_step : (old new : Coordinating) (e : Happening) (result : Result Out NodeFault) → HoldsBoard old.held → On old e result new
    → IfOk result (λ out. (text : List ℕ) → InStep old text → InStep new (text_after out text))
on_step old new e (Ok out) board on = λ text stands. held_step old.era e out old.held new.held text board on.3 stands
on_step old new e (Err Stopped) board on = tt
on_step old new e (Err NodeMemory) board on = tt

-- after a start: what is kept, or a header alone
ledger_of_none : (root : Packed) → ledger_text root [] ≡ header_line root
unfolding ledger_text
ledger_of_none root = refl

fresh : (n : ℕ) → 1 ≤ n → n ≤ state_limit → ReadsIn Two (empty_table n) (header_line (empty_table n)) [] Nothing
fresh n some limit =
    let whole = whole_ledger (empty_table n) [] (board_starts (empty_table n) (empty_is_table n some limit) (1, empty_table_in_order n some limit)) in
    subst (λ (l : List ℕ). ReadsIn Two (empty_table n) l [] Nothing) (ledger_of_none (empty_table n)) whole

-- some bytes of a ledger with a header are kept
some_kept : (root : Packed) (text : List ℕ) (rs : List Recorded) (left : Left) → ReadsAs root text rs left → 1 ≤ kept_bytes text left
some_kept root text rs Nothing reads =
    let line = header_words reads.header.format ++ reads.header.name in
    omega (arith, ap length reads.header.line.is, length-append line (10 ∷ reads.body))
some_kept root text rs (From number kept why) reads =
    let line = header_words reads.header.format ++ reads.header.name in
    let all : kept + length reads.keeps.rest ≡ length text = reads.keeps.ends.1 in
    omega (arith, all, ap length reads.header.line.is, length-append line (10 ∷ reads.body), ap length reads.keeps.is, length-append (joined reads.keeps.lines) reads.keeps.rest)

not_due : (root : Packed) (kept : ℕ) → 1 ≤ kept → header_due root kept ≡ []
not_due root kept some = ap (λ b. cond b (header_line root) []) (ne_eqb kept 0 (λ none. omega arith))

due : (root : Packed) (kept : ℕ) → kept ≡ 0 → header_due root kept ≡ header_line root
due root kept none = ap (header_due root) none

after_start : (root : Packed) (text : List ℕ) (left : Left) (out : Out) → Begins root text left out → text_after out text ≡ cut_by (cut_of left) text ++ header_due root (kept_bytes text left)
after_start root text left out begins = ap (λ c. cut_by c text ++ out.append.items) begins.cut_is ∙ ap (λ l. cut_by (cut_of left) text ++ l) begins.append_is

module _ (n : ℕ) (some : 1 ≤ n) (limit : n ≤ state_limit) (text : List ℕ) (out : Out) (rs : List Recorded) where
  with_header : (format : Format) (left : Left) → Begins (empty_table n) text left out → ReadsIn format (empty_table n) text rs left → ReadsIn format (empty_table n) (text_after out text) rs Nothing
  with_header format Nothing begins reads =
      subst (λ (l : List ℕ). ReadsIn format (empty_table n) l rs Nothing)
      (sym (after_start (empty_table n) text Nothing out begins ∙ ap (λ l. text ++ l) (not_due (empty_table n) (length text) (some_kept (empty_table n) text rs Nothing reads.reads)) ∙ append-nil text)) reads
  with_header format (From line kept why) begins reads =
      subst (λ (l : List ℕ). ReadsIn format (empty_table n) l rs Nothing)
      (sym (after_start (empty_table n) text (From line kept why) out begins
      ∙ ap (λ l. take kept text ++ l) (not_due (empty_table n) kept (some_kept (empty_table n) text rs (From line kept why) reads.reads)) ∙ append-nil (take kept text)))
      (subst (λ (f : Format). ReadsIn f (empty_table n) (take kept text) rs Nothing) reads.version (cut_to_kept (empty_table n) text rs line kept why reads.reads))

  without : (left : Left) → Begins (empty_table n) text left out → ReadsAsNone text rs left → ReadsIn Two (empty_table n) (text_after out text) rs Nothing
  without Nothing begins torn =
      subst (λ (l : List ℕ). ReadsIn Two (empty_table n) l rs Nothing)
      (sym (after_start (empty_table n) text Nothing out begins ∙ ap (λ l. l ++ header_due (empty_table n) (length l)) torn.ends))
      (subst (λ (l : List Recorded). ReadsIn Two (empty_table n) (header_line (empty_table n)) l Nothing) (sym torn.none) (fresh n some limit))
  without (From line kept why) begins torn =
      subst (λ (l : List ℕ). ReadsIn Two (empty_table n) l rs Nothing)
      (sym (after_start (empty_table n) text (From line kept why) out begins ∙ ap (λ k. take k text ++ header_due (empty_table n) k) torn.ends.2))
      (subst (λ (l : List Recorded). ReadsIn Two (empty_table n) (header_line (empty_table n)) l Nothing) (sym torn.none) (fresh n some limit))

pub start_step : (n : ℕ) (text : List ℕ) (held : Leased) (out : Out) → 1 ≤ n → n ≤ state_limit → BeginsSo n text (Ok (held, out)) → IsLedgerOf held.board (text_after out text)
start_step n text held out some limit (leases, (left, (root, inl begun), begins)) =
    subst (λ (f : Format). ReadsIn f held.board.root (text_after out text) held.board.records Nothing) (sym begun.version)
    (subst (λ (p : Packed). ReadsIn Two p (text_after out text) held.board.records Nothing) (sym root) (without n some limit text out held.board.records left begins begun.reads))
start_step n text held out some limit (leases, (left, (root, inr reads), begins)) =
    subst (λ (p : Packed). ReadsIn held.board.format p (text_after out text) held.board.records Nothing) (sym root) (with_header n some limit text out held.board.records held.board.format left begins reads)

-- What a start gives, from bytes and from a reader, and the coordinator that is made of it.
module _ (root : Packed) (n : ℕ) (is : root ≡ empty_table n) (text : List ℕ) where
  -- a text that is loaded has the header, or is torn off within it
  pub refused_so : (board : Contents) (left : Left) → LoadGives root text (Ok (board, left)) → BeginsSo n text (Err NoMemory)
  refused_so board left (same, inl none) = inl none.reads.torn
  refused_so board left (same, inr reads) = inr (reads.reads.body, subst (λ (p : Packed). HasHeader text p reads.reads.body) is reads.reads.header)

  cant_load : (fault : LoadFault) → LoadGives (empty_table n) text (Err fault) → BeginsSo n text (Err (start_fault_of fault))
  cant_load BadLedgerHeader gives = gives
  cant_load OtherRoot gives = gives
  cant_load NoLedgerMemory gives = gives

  pub cant_so : (fault : LoadFault) (refused : StartFault) → refused ≡ start_fault_of fault → LoadGives root text (Err fault) → BeginsSo n text (Err refused)
  cant_so fault refused of gives = subst (λ (f : StartFault). BeginsSo n text (Err f)) (sym of)
      (cant_load fault (subst (λ (p : Packed). LoadGives p text (Err fault)) is gives))

pub begins_so : (root : Packed) (text : List ℕ) (board : Contents) (left : Left) (own : Packed) (held : Leased) (out : Out) (n : ℕ) → root ≡ empty_table n
    → LoadGives root text (Ok (board, left)) → own ≡ board.root → Begins own text left out → held ≡ record { board = board; leases = no_leases } → BeginsSo n text (Ok (held, out))
begins_so root text board left own held out n is gives own_is begins same = (
  ap (λ (h : Leased). h.leases) same,
  (
    left,
    subst (λ (p : Packed). LoadGives p text (Ok (held.board, left))) is
        (subst (λ (b : Contents). LoadGives root text (Ok (b, left))) (sym (ap (λ (h : Leased). h.board) same)) gives),
    subst (λ (p : Packed). Begins p text left out) (own_is ∙ (gives.0 ∙ is)) begins,
  ),
)

-- all that was read was fed
pub begins_all : (n : ℕ) (read : Option (List ℕ)) (limit : ℕ) (new_read : Option (List ℕ)) (text : List ℕ) (b : Result (Leased × Out) StartFault) → IsAllRead read limit text new_read
    → BeginsSo n text b → BeginsFrom n read limit new_read b
begins_all n read limit new_read text (Ok begun) all so = (text, all, so)
begins_all n read limit new_read text (Err BadHeader) all so = (text, all, so)
begins_all n read limit new_read text (Err WrongRoot) all so = (text, all, so)
begins_all n read limit new_read text (Err NoMemory) all so = (text, all.is_read, so)
begins_all n read limit new_read text (Err LedgerFault) all so = absurd so

-- or reading stopped
pub stops_from : (n : ℕ) (read : Option (List ℕ)) (limit : ℕ) (new_read : Option (List ℕ)) (old new : Loading) (stop : ReadStop) → old.root ≡ empty_table n → StandsAfter old []
    → StopsReading old read limit stop new new_read → BeginsFrom n read limit new_read (Err (start_fault_of_stop stop))
stops_from n read limit new_read old new (Failed fault) root stands (text, is_read, fed) = (text, is_read)
stops_from n read limit new_read old new NoReadMemory root stands (text, stop, is_read, stopped) =
    let (rest, header) = stopped.header [] stands in
    (text, is_read, inr (rest, subst (λ (p : Packed). HasHeader text p rest) root header))

module _ (n era : ℕ) where
  starts_so : (text : List ℕ) (b : Result (Leased × Out) StartFault) → BeginsSo n text b → Starts n era text (coordinator_of era b) (answer_of b)
  starts_so text (Ok begun) (none, (left, gives, begins)) = (
    begun.0.board,
    left,
    gives,
    ap (λ l. let made : Coordinating = record { era = era; held = Some (record { board = begun.0.board; leases = l }); stopped = false } in made) none,
    begins,
  )
  starts_so text (Err fault) cant = (cant, refl)

  pub starts : (text : List ℕ) (b : Result (Leased × Out) StartFault) (new : Coordinating) (said : Result Out StartFault) → new ≡ coordinator_of era b → said ≡ answer_of b → BeginsSo n text b
      → Starts n era text new said
  starts text b new said made answer so = subst (λ (s : Coordinating). Starts n era text s said) (sym made)
      (subst (λ (r : Result Out StartFault). Starts n era text (coordinator_of era b) r) (sym answer) (starts_so text b so))

  module _ (some : 1 ≤ n) (limit : n ≤ state_limit) where
    step_so : (text : List ℕ) (b : Result (Leased × Out) StartFault) → BeginsSo n text b → IfOk (answer_of b) (λ out. InStep (coordinator_of era b) (text_after out text))
    step_so text (Ok begun) so = start_step n text begun.0 begun.1 some limit so
    step_so text (Err fault) so = tt

    pub in_step : (text : List ℕ) (b : Result (Leased × Out) StartFault) (new : Coordinating) (said : Result Out StartFault) → new ≡ coordinator_of era b → said ≡ answer_of b → BeginsSo n text b
        → IfOk said (λ out. InStep new (text_after out text))
    in_step text b new said made answer so = subst (λ (s : Coordinating). IfOk said (λ out. InStep s (text_after out text))) (sym made)
        (subst (λ (r : Result Out StartFault). IfOk r (λ out. InStep (coordinator_of era b) (text_after out text))) (sym answer) (step_so text b so))

    starts_from_so : (read : Option (List ℕ)) (most : ℕ) (new_read : Option (List ℕ)) (b : Result (Leased × Out) StartFault) → BeginsFrom n read most new_read b
        → StartsFrom n era read most new_read (coordinator_of era b) (answer_of b)
    starts_from_so read most new_read (Ok begun) (text, all, so) = (text, all, starts_so text (Ok begun) so, step_so text (Ok begun) so)
    starts_from_so read most new_read (Err BadHeader) (text, all, so) = (text, all, starts_so text (Err BadHeader) so)
    starts_from_so read most new_read (Err WrongRoot) (text, all, so) = (text, all, starts_so text (Err WrongRoot) so)
    starts_from_so read most new_read (Err NoMemory) (text, is_read, so) = (text, is_read, starts_so text (Err NoMemory) so)
    starts_from_so read most new_read (Err LedgerFault) (text, is_read) = (text, is_read, refl)

    pub starts_from : (read : Option (List ℕ)) (most : ℕ) (new_read : Option (List ℕ)) (b : Result (Leased × Out) StartFault) (new : Coordinating) (said : Result Out StartFault)
        → new ≡ coordinator_of era b → said ≡ answer_of b → BeginsFrom n read most new_read b → StartsFrom n era read most new_read new said
    starts_from read most new_read b new said made answer so = subst (λ (s : Coordinating). StartsFrom n era read most new_read s said) (sym made)
        (subst (λ (r : Result Out StartFault). StartsFrom n era read most new_read (coordinator_of era b) r) (sym answer) (starts_from_so read most new_read b so))

-- Tables that are acknowledged are recorded.
no_member : {X : Type 0} (x : X) → Contains [] x → ⊥
no_member x h = omega (arith, h.1)

-- where nothing is sent, or no ACK
none_sent : (out : Out) (board : Option Contents) → out.frames.items ≡ frames_of [] → AcknowledgesRecorded out board
none_sent out board frames = ([], frames, λ t there. absurd (no_member (Ack t) there))

one_sent : (out : Out) (board : Option Contents) (m : Message) → out.frames.items ≡ frames_of (m ∷ []) → ((t : Packed) → m ≡ Ack t → HasRecordOn board t) → AcknowledgesRecorded out board
one_sent out board m frames own = (
  m ∷ [],
  frames,
  λ t there. elim (first_or_later m [] (Ack t) there) [ inl same ↦ own t same | inr later ↦ absurd (no_member (Ack t) later) ],
)

-- a record that is answered so
acknowledged : (new : Leased) (r : Recorded) (out : Out) → out.frames.items ≡ frames_of (Ack r.table ∷ []) → IsSome (claim_in new.board.records r.table) → AcknowledgesRecorded out (Some new.board)
acknowledged new r out frames recorded = one_sent out (Some new.board) (Ack r.table) frames (λ t same. let one : r.table ≡ t = cc in subst (λ (t : Packed). IsSome (claim_in new.board.records t)) one recorded)

offer_sends : (old new : Leased) (r : Recorded) (out : Out) → OfferRow old r out new → AcknowledgesRecorded out (Some new.board)
offer_sends old new r out (Ok New, gives, kept, leases, row) = acknowledged new r out row.frames_are (answered old.board.root old.board.records new.board.records r New gives)
offer_sends old new r out (Ok Settled, gives, kept, leases, row) = acknowledged new r out row.frames_are (answered old.board.root old.board.records new.board.records r Settled gives)
offer_sends old new r out (Ok Known, gives, kept, leases, row) = acknowledged new r out row.frames_are (answered old.board.root old.board.records new.board.records r Known gives)
offer_sends old new r out (Err NotOpen, gives, kept, leases, row) = one_sent out (Some new.board) (Later (Some r.table)) row.frames_are (λ t other. cc)
offer_sends old new r out (Err WrongSize, gives, kept, leases, row) = none_sent out (Some new.board) row.frames_are
offer_sends old new r out (Err (NotStanding f), gives, kept, leases, row) = none_sent out (Some new.board) (refusal_says (refused_number f) out row).1.frames_are
offer_sends old new r out (Err OfferNoMemory, gives, kept, leases, row) = absurd row

record_sends : (old new : Leased) (r : Recorded) (out : Out) → RecordRow old r out new → AcknowledgesRecorded out (Some new.board)
record_sends old new r out row = elim row [
  | inl late ↦ none_sent out (Some new.board) (refusal_says (refused_number TooLong) out late.1).1.frames_are
  | inr offered ↦ offer_sends old new r out offered.1
]

reply_sends : (era : ℕ) (reply : Reply) (out : Out) (board : Option Contents) → out.frames.items ≡ frames_of (reply_of era reply ∷ []) → AcknowledgesRecorded out board
reply_sends era ToStop out board frames = one_sent out board Stop frames (λ t other. cc)
reply_sends era ToWait out board frames = one_sent out board (Later None) frames (λ t other. cc)
reply_sends era (ToGrant number table) out board frames = one_sent out board (Grant era number table) frames (λ t other. cc)

done_sends : (own : Bool) (number : ℕ) (old new : Leased) (out : Out) → DoneRow own number old out new → AcknowledgesRecorded out (Some new.board)
done_sends true number old new out row = none_sent out (Some new.board) row.3.frames_are
done_sends false number old new out row = none_sent out (Some new.board) row.0.frames_are

message_sends : (era : ℕ) (old new : Leased) (m : Message) (out : Out) → MessageRow era old m out new → AcknowledgesRecorded out (Some new.board)
message_sends era old new (Ask id) out row = reply_sends era row.0 out (Some new.board) row.3.frames_are
message_sends era old new (Rec r) out row = record_sends old new r out row
message_sends era old new (Done named number) out row = done_sends (nat_eq named era) number old new out row
message_sends era old new (Grant named number table) out row = none_sent out (Some new.board) row.0.frames_are
message_sends era old new (Ack table) out row = none_sent out (Some new.board) row.0.frames_are
message_sends era old new (Later table) out row = none_sent out (Some new.board) row.0.frames_are
message_sends era old new Stop out row = none_sent out (Some new.board) row.0.frames_are

frame_sends : (era : ℕ) (old new : Leased) (m : Result Message MsgFault) (out : Out) → coordinating.FrameRow era old m out new → AcknowledgesRecorded out (Some new.board)
frame_sends era old new (Ok m) out row = message_sends era old new m out row
frame_sends era old new (Err fault) out row = none_sent out (Some new.board) row.0.frames_are

row_sends : (era : ℕ) (old new : Leased) (e : Happening) (out : Out) → coordinating.Row era old e out new → AcknowledgesRecorded out (Some new.board)
row_sends era old new (Came frame) out row = frame_sends era old new (message_of frame) out row
row_sends era old new (Ticked t) out row = none_sent out (Some new.board) row.0.frames_are
row_sends era old new Worked out row = none_sent out (Some new.board) row.0.frames_are

held_sends : (era : ℕ) (old new : Option Leased) (e : Happening) (out : Out) → HeldGives era old e (Ok out) new → AcknowledgesRecorded out (board_of new)
held_sends era (Some old) (Some new) e out gives = row_sends era old new e out gives
held_sends era (Some old) None e out gives = absurd gives
held_sends era None new e out gives = absurd gives

pub acknowledges : (old new : Coordinating) (e : Happening) (out : Out) → On old e (Ok out) new → AcknowledgesRecorded out (board_of new.held)
acknowledges old new e out on = held_sends old.era old.held new.held e out on.3
