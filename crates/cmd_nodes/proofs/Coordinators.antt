-- A coordinator that is begun and served: its root, the ledger in step with it, and its report.
use Rattle.std.proofs.Common.{◌≡◌, ℕ, Bool, true, false, List, [], ◌∷◌, inl, inr, Option, Some, None, Result, Ok, Err, refl, ◌∙◌, ap, sym, subst, ◌==◌, ◌⊎◌, ◌+◌, ◌++◌, length, IfSome, append-nil, length-append, arith, IfErr, IfOk, take_all, ◌≤◌, ◌<◌}
use Rattle.std.specs.declared.io.Error.{Error}
use Rattle.std.specs.List.{Contains}
use Rattle.machine_text.specs.Terms.{Packed, empty_table, state_limit}
use Rattle.cert.specs.Terms.{Recorded}
use Rattle.wire.specs.Terms.{Reply, Happening, Came, Ticked, Worked, kept_text, text_after, message_of, Message, Ask, Grant, Rec, Ack, Later, Done, Stop}
use Rattle.wire.specs.declared.messages.MsgFault.{MsgFault}
use Rattle.wire.specs.declared.node.Out.{Out}
use Rattle.leases.specs.Terms.{Leased, no_leases}
use Rattle.lease_core.specs.Terms.{Coordinating, DoneRow, HeldGives, MessageRow, On, RecordRow, board_of, HeldInStep, InStep, StartsFrom, started}
use Rattle.lease_core.specs.CoordinatorRules.{FrameRow, Row}
use Rattle.cmd_nodes.specs.Served.{Becomes, BecomesBy, HasListened, Traffic, IsBegunFrom, IsBegunWith, NoneOpen}
use Rattle.ledger.specs.Terms.{IsAllRead, Contents, IsBoard, IsLedgerOf, ReadsIn, IsStatus, AreSoMany}
use Rattle.lease_core.specs.declared.starting.StartFault.{StartFault}
use Rattle.files.specs.declared.opened.Opened.{Opened}
use Rattle.peers.specs.declared.guarded.Conduct.{Conduct}
use Rattle.peers.specs.Terms.{Taking}
use Rattle.cmd_nodes.specs.Settled.{IsOfLedger, IsServedBoard, IsSettledBoard, KeepsLedger, ReportsPart, SettlesPart, CoordinatesTree}
use Rattle.cmd_nodes.specs.inside.{IsServed, IsSettled, KeepsStep, StartsInStep, ReportsBoard, StartsPart}
use Rattle.cmd_nodes.proofs.NodeRounds.{became_more, became_none}
use Rattle.ledger.specs.declared.loading.Left.{Left}
use Rattle.cmd_ledgers.specs.Terms.{kept_part, AreFirstBytes, IsLoadedFrom, outcome_by, FormText, ReportsTree, SettlesTree}
use Rattle.cmd_ledgers.proofs.RetriedLedgers.{cut_reads}
use Rattle.cmd_options.specs.declared.ended.Outcome.{Outcome}
use Rattle.cmd_options.specs.declared.ended.Ended.{Ended}
use Rattle.cmd_options.specs.declared.ended.Ended.TheVariants.{Stream}
use Rattle.ledger.specs.declared.loading.Left.TheVariants.{Nothing}
use Rattle.ledger.specs.declared.faults.Status.{Status}
use Rattle.cmd_ledgers.proofs.TreeReports.{by_status}

-- A coordinator's answers keep the root of its board.

-- the board of a coordinator has this root
abbrev pub IsOfRoot : Packed → Coordinating → Type 0
IsOfRoot root c = (held : Leased) × (c.held ≡ Some held) × (held.board.root ≡ root)

root_of : Leased → Packed
root_of l = l.board.root

abbrev pub KeepsRoot : Coordinating → Coordinating → Type 0
KeepsRoot old new = (root : Packed) → IsOfRoot root old → IsOfRoot root new

done_root : (b : Bool) (number : ℕ) (old : Leased) (out : Out) (new : Leased) → DoneRow b number old out new → root_of new ≡ root_of old
unfolding root_of
done_root true number old out new row = ap (λ b. b.root) row.2
done_root false number old out new row = ap (λ l. l.board.root) row.1

record_root : (r : Recorded) (old : Leased) (out : Out) (new : Leased) → RecordRow old r out new → root_of new ≡ root_of old
unfolding root_of
record_root r old out new row = elim row [
  | inl late ↦ ap (λ l. l.board.root) late.2
  | inr offered ↦ offered.1.2.root
]

message_root : (era : ℕ) (old : Leased) (m : Message) (out : Out) (new : Leased) → MessageRow era old m out new → root_of new ≡ root_of old
unfolding root_of
message_root era old (Ask id) out new row = ap (λ b. b.root) row.2
message_root era old (Rec r) out new row = record_root r old out new row
message_root era old (Done named number) out new row = done_root (named == era) number old out new row
message_root era old (Grant named number table) out new row = ap (λ l. l.board.root) row.1
message_root era old (Ack table) out new row = ap (λ l. l.board.root) row.1
message_root era old (Later table) out new row = ap (λ l. l.board.root) row.1
message_root era old Stop out new row = ap (λ l. l.board.root) row.1

frame_root : (era : ℕ) (old : Leased) (m : Result Message MsgFault) (out : Out) (new : Leased) → FrameRow era old m out new → root_of new ≡ root_of old
unfolding root_of
frame_root era old (Ok m) out new row = message_root era old m out new row
frame_root era old (Err fault) out new row = ap (λ l. l.board.root) row.1

row_root : (era : ℕ) (old : Leased) (e : Happening) (out : Out) (new : Leased) → Row era old e out new → root_of new ≡ root_of old
unfolding root_of
row_root era old (Came frame) out new row = frame_root era old (message_of frame) out new row
row_root era old (Ticked t) out new row = ap (λ l. l.board.root) row.1
row_root era old Worked out new row = ap (λ l. l.board.root) row.1

held_root : (era : ℕ) (old new : Option Leased) (e : Happening) (out : Out) (root : Packed) → HeldGives era old e (Ok out) new
    → ((l : Leased) × (old ≡ Some l) × (root_of l ≡ root)) → ((l : Leased) × (new ≡ Some l) × (root_of l ≡ root))
held_root era (Some old) (Some new) e out root gives has =
    let same : old ≡ has.0 = cc in
    (new, refl, row_root era old e out new gives ∙ (ap root_of same ∙ has.2))
held_root era (Some old) None e out root gives has = absurd gives
held_root era None new e out root gives has = absurd gives

on_keeps : (old new : Coordinating) (e : Happening) (out : Out) → On old e (Ok out) new → KeepsRoot old new
unfolding root_of
on_keeps old new e out on root has = held_root old.era old.held new.held e out root on.3 has

becomes_keep : (old new : Coordinating) (replies : List Reply) → BecomesBy On old replies new → KeepsRoot old new
becomes_keep old new [] is root has = subst (IsOfRoot root) (sym is) has
becomes_keep old new (reply ∷ replies) is root has = becomes_keep is.0 new replies is.2 root (on_keeps old is.0 reply.to reply.out is.1 root has)

pub became_keep : (old new : Coordinating) → Becomes On old new → KeepsRoot old new
became_keep old new is = becomes_keep old new is.0 is.1

-- A coordinator that was begun and served, and a ledger that stays in step with it.
pub nothing_yet : (c : Coordinating) (text : Option (List ℕ)) → IsServed c c text text
nothing_yet c text = record { became = became_none On c; step = λ known. known }

pub one_by_one : (a b c : Coordinating) (first then last : Option (List ℕ)) → IsServed a b first then → IsServed b c then last → IsServed a c first last
one_by_one a b c first then last x y = record { became = became_more On a b c x.became y.became; step = λ known. y.step (x.step known) }

-- the ledger's part of an answer is fulfilled
step_kept : (out : Out) (old new : Coordinating) (before after : Option (List ℕ)) → ((text : List ℕ) → InStep old text → InStep new (text_after out text)) → after ≡ kept_text out before
    → KeepsStep (λ c text. InStep c text) old new before after
step_kept out old new None after step is = λ known. subst (λ (o : Option (List ℕ)). IfSome o (InStep new)) (sym is) tt
step_kept out old new (Some text) after step is = λ known. subst (λ (o : Option (List ℕ)). IfSome o (InStep new)) (sym is) (step text known)

pub answer_serves : (old new : Coordinating) (e : Happening) (out : Out) (before after : Option (List ℕ)) → On old e (Ok out) new → ((text : List ℕ) → InStep old text → InStep new (text_after out text))
    → after ≡ kept_text out before → IsServed old new before after
answer_serves old new e out before after on step is = record { became = (record { to = e; out = out } ∷ [], (new, on, refl)); step = step_kept out old new before after step is }

-- all that a reader has was read
no_more : (ys : List ℕ) → length ys ≡ 0 → ys ≡ []
no_more [] is = refl
no_more (y ∷ ys) is = absurd (let none : ⊥ = omega (arith, is) in none)

all_read : (bytes text : List ℕ) (len : ℕ) (left : Option (List ℕ)) → IsAllRead (Some bytes) len text left → len ≡ length bytes → text ≡ bytes
all_read bytes text len None all is = absurd all.is_read.consumed
all_read bytes text len (Some ys) all is =
    let consumed : bytes ≡ text ++ ys = all.is_read.consumed in
    let sum : length bytes ≡ length text + length ys = ap length consumed ∙ length-append text ys in
    let none : ys ≡ [] = elim all.whole [
      | inl whole ↦ no_more ys (omega (arith, sum, whole, is))
      | inr end ↦ end
    ] in
    sym (consumed ∙ (ap (λ (l : List ℕ). text ++ l) none ∙ append-nil text))

-- a coordinator has started, and its first answer is fulfilled
module _ (n era : ℕ) (has : Option (List ℕ)) (len : ℕ) (left : Option (List ℕ)) (c : Coordinating) (first : Result Out StartFault) (out : Out)
    (starts : StartsFrom n era has len left c first) (is : first ≡ Ok out) where
  pub begins_with : IsBegunWith n era has len c
  begins_with = (left, out, subst (λ (r : Result Out StartFault). StartsFrom n era has len left c r) is starts)

  pub start_step : (before after : Option (List ℕ)) → after ≡ kept_text out before → IsOfLedger has len before → IfSome after (InStep c)
  start_step before after kept was =
      let (text, all, begun, step) = subst (λ (r : Result Out StartFault). StartsFrom n era has len left c r) is starts in
      let same : text ≡ was.bytes = all_read was.bytes text len left (subst (λ (h : Option (List ℕ)). IsAllRead h len text left) was.is_read all) was.is_all in
      subst (λ (o : Option (List ℕ)). IfSome o (InStep c)) (sym (kept ∙ ap (kept_text out) was.is_held)) (subst (λ (t : List ℕ). InStep c (text_after out t)) same step)

-- the board of one that was begun so has the root of the tree
begun_with : (n era : ℕ) (has : Option (List ℕ)) (len : ℕ) (c : Coordinating) → IsBegunWith n era has len c → IsOfRoot (empty_table n) c
begun_with n era has len c begins =
    let (text, all, (board, rest, loads, so, first), step) = begins.2 in
    (record { board = board; leases = no_leases }, ap (λ (s : Coordinating). s.held) so, loads.0)

module _ {F : Type 0} (n era : ℕ) (remaining : F → Option (List ℕ)) where
  begun_root : (held : Result (Opened F) Error) (c : Coordinating) → IsBegunFrom n era remaining held c → IsOfRoot (empty_table n) c
  begun_root (Ok opened) c begins = begun_with n era (remaining opened.reader) opened.length c begins
  begun_root (Err fault) c begins = absurd begins

  -- the ledger is that of the board in the end
  ledger_kept : (held : Result (Opened F) Error) (old then new : Option (List ℕ)) (first last : Coordinating) (leased : Leased) → last.held ≡ Some leased → StartsInStep remaining held old then first
      → KeepsStep (λ c text. InStep c text) first last then new → KeepsLedger remaining held old new leased.board
  ledger_kept (Ok opened) old then new first last leased is starts step = λ was. subst (λ (o : Option Leased). IfSome new (HeldInStep o)) is (step (starts was))
  ledger_kept (Err fault) old then new first last leased is starts step = tt

  module _ (held : Result (Opened F) Error) (old then new : Option (List ℕ)) (first last : Coordinating) (begins : IsBegunFrom n era remaining held first) (starts : StartsInStep remaining held old then first)
      (serves : IsServed first last then new) where
    -- the board that it came to has the root of the tree
    pub served_root : IsOfRoot (empty_table n) last
    served_root = became_keep first last serves.became (empty_table n) (begun_root held first begins)

    -- it is that of a coordinator that was served
    pub served_board : (leased : Leased) → last.held ≡ Some leased → IsServedBoard n era remaining held old new leased.board
    served_board leased is = record {
      first = first;
      begins = begins;
      comes = record { last = last; became = serves.became; holds = ap board_of is };
      kept = ledger_kept held old then new first last leased is starts serves.step;
    }

    none_open : IsSettled last → (leased : Leased) → last.held ≡ Some leased → NoneOpen leased.board
    none_open settled leased is = subst (λ (o : Option Leased). IfSome (board_of o) NoneOpen) is settled

    -- and of a settled one, which listened
    pub settled_board : (conduct : Conduct) (takes : Taking) (before after : Traffic) → IsSettled last → HasListened conduct takes first last new before after → (leased : Leased)
        → last.held ≡ Some leased → IsSettledBoard n era remaining held conduct takes old new before after leased.board
    settled_board conduct takes before after settled listened leased is = (
      record {
        first = first;
        begins = begins;
        comes = record { last = last; became = serves.became; holds = ap board_of is };
        kept = ledger_kept held old then new first last leased is starts serves.step;
      },
      none_open settled leased is,
      listened,
    )

    -- or of one whose workers have taken all rounds
    pub run_board : (AreTaken : Type 0) → IsSettled last ⊎ AreTaken → (leased : Leased) → last.held ≡ Some leased → IsServedBoard n era remaining held old new leased.board × (NoneOpen leased.board ⊎ AreTaken)
    run_board AreTaken (inl settled) leased is = (served_board leased is, inl (none_open settled leased is))
    run_board AreTaken (inr taken) leased is = (served_board leased is, inr taken)

-- A coordinator that goes on with the ledger of a part, and the report of its board.
module _ (has : Option (List ℕ)) (limit : ℕ) (before : Option (List ℕ)) where
  -- what was loaded is the whole ledger, where that held no more
  whole : (text : List ℕ) → AreFirstBytes has limit text → IsOfLedger has limit before → before ≡ Some text
  whole text first was =
      let of : AreFirstBytes (Some was.bytes) (length was.bytes) text = subst (λ (n : ℕ). AreFirstBytes (Some was.bytes) n text) was.is_all (subst (λ (h : Option (List ℕ)). AreFirstBytes h limit text) was.is_read first) in
      was.is_held ∙ ap (λ (l : List ℕ). Some l) (sym (of ∙ take_all (length was.bytes) was.bytes (omega arith)))

  -- it has started
  pub part_starts : (after : Option (List ℕ)) (era : ℕ) (b : Contents) (left : Left) (c : Coordinating) → IsLoadedFrom has limit b left → after ≡ kept_part left before → c ≡ started era b → StartsPart era has limit before after c
  part_starts after era b left c loads cut made = record {
    loaded = b;
    left = left;
    loads = loads;
    is = made;
    step = λ was.
        let reads : IfSome before (λ t. ReadsIn b.format b.root t b.records left) = subst (λ (o : Option (List ℕ)). IfSome o (λ t. ReadsIn b.format b.root t b.records left)) (sym (whole loads.text loads.first was)) loads.reads in
        subst (λ (s : Coordinating). IfSome after (InStep s)) (sym made) (subst (λ (o : Option (List ℕ)). IfSome o (IsLedgerOf b)) (sym cut) (cut_reads b left before reads));
  }

  -- and was served
  module _ (IsText : FormText) (era : ℕ) (mid after said new_said : Option (List ℕ)) (first last : Coordinating) (starts : StartsPart era has limit before mid first) (serves : IsServed first last mid after) (settled : IsSettled last)
      (conduct : Conduct) (takes : Taking) (come gone : Traffic) (listened : HasListened conduct takes first last after come gone) where
    part_reports : (o : Outcome) → IfSome last.held (λ leased. ReportsBoard IsText leased.board said new_said o) → ReportsPart IsText era has limit conduct takes come gone before after said new_said o
    part_reports o reported =
        let (leased, is, root) = became_keep first last serves.became starts.loaded.root (record { board = starts.loaded; leases = no_leases }, ap (λ (s : Coordinating). s.held) starts.is, refl) in
        let reports : ReportsBoard IsText leased.board said new_said o = subst (λ (h : Option Leased). IfSome h (λ leased. ReportsBoard IsText leased.board said new_said o)) is reported in
        record {
          loaded = starts.loaded;
          left = starts.left;
          loads = starts.loads;
          board = leased.board;
          comes = record { last = last; became = subst (λ (s : Coordinating). Becomes On s last) starts.is serves.became; holds = ap board_of is };
          listened = subst (λ (s : Coordinating). HasListened conduct takes s last after come gone) starts.is listened;
          none_open = subst (λ (o : Option Leased). IfSome (board_of o) NoneOpen) is settled;
          reports = record {
            is_board = reports.is_board;
            is_root = root;
            written = reports.written;
            is_text = reports.is_text;
            appends = reports.appends;
            kept = λ was. subst (λ (h : Option Leased). IfSome after (HeldInStep h)) is (serves.step (starts.step was));
          };
          status = reports.status;
          stands = reports.stands;
          ends = reports.ends;
        }

    pub part_settles : (r : Result Outcome Ended) → IfOk r (λ o. IfSome last.held (λ leased. ReportsBoard IsText leased.board said new_said o)) → IfErr r (λ e. (new_said ≡ said) ⊎ (e ≡ Stream))
        → SettlesPart IsText era has limit conduct takes come gone before after said new_said r
    part_settles (Ok o) ok err = part_reports o ok
    part_settles (Err e) ok err = err

-- What the report of a coordinator's board tells of its tree.
module _ (IsText : FormText) (n : ℕ) (IsKept : Contents → Type 0) (held new_held : Option (List ℕ)) where
  -- the report of a coordinator's board
  pub settles : (c : Coordinating) (o : Outcome) → 1 ≤ n → n ≤ state_limit → IsOfRoot (empty_table n) c → ((leased : Leased) → c.held ≡ Some leased → IsKept leased.board)
      → IfSome c.held (λ leased. ReportsBoard IsText leased.board held new_held o) → SettlesTree IsText n IsKept held new_held (Ok o)
  settles c o some limit has kept reported =
      let b = has.0.board in
      let reports : ReportsBoard IsText b held new_held o = subst (λ (h : Option Leased). IfSome h (λ leased. ReportsBoard IsText leased.board held new_held o)) has.1 reported in
      let of_tree : ReportsTree IsText (empty_table n) IsKept held new_held b = record {
        is_board = reports.is_board;
        is_root = has.2;
        written = reports.written;
        is_text = reports.is_text;
        appends = reports.appends;
        kept = kept has.0 has.1;
      } in
      subst (λ (x : Outcome). SettlesTree IsText n IsKept held new_held (Ok x)) (sym reports.ends) (by_status IsText n IsKept held new_held b reports.status some limit of_tree reports.stands)

  -- or why there is none
  pub reported : (c : Coordinating) (r : Result Outcome Ended) → 1 ≤ n → n ≤ state_limit → IsOfRoot (empty_table n) c → ((leased : Leased) → c.held ≡ Some leased → IsKept leased.board)
      → IfOk r (λ o. IfSome c.held (λ leased. ReportsBoard IsText leased.board held new_held o)) → IfErr r (λ e. (new_held ≡ held) ⊎ (e ≡ Stream)) → SettlesTree IsText n IsKept held new_held r
  reported c (Ok o) some limit has kept ok err = settles c o some limit has kept ok
  reported c (Err e) some limit has kept ok err = err

-- what a coordinator holds in the end
pub holds_tree : (n : ℕ) (IsKept : Contents → Type 0) (c : Coordinating) (o : Outcome) → IsOfRoot (empty_table n) c → ((leased : Leased) → c.held ≡ Some leased → IsKept leased.board)
    → IfSome c.held (λ leased. IsBoard leased.board) → IfSome c.held (λ leased. (status : Status) × IsStatus leased.board.root leased.board.records status × (o ≡ outcome_by status Nothing))
    → CoordinatesTree n IsKept o
holds_tree n IsKept c o has kept board stands =
    let s = subst (λ (h : Option Leased). IfSome h (λ leased. (status : Status) × IsStatus leased.board.root leased.board.records status × (o ≡ outcome_by status Nothing))) has.1 stands in
    record {
      board = has.0.board;
      is_board = subst (λ (h : Option Leased). IfSome h (λ leased. IsBoard leased.board)) has.1 board;
      root = has.2;
      kept = kept has.0 has.1;
      status = s.0;
      stands = s.1;
      ends = s.2;
    }

-- Where tables are counted, and there are some, one is open.
one_of : {IsOfKind : Packed → Type 0} (tables : List Packed) (count : ℕ) → count ≡ length tables → 0 < count → ((t : Packed) → Contains tables t → IsOfKind t) → ((t : Packed) → IsOfKind t → ⊥) → ⊥
one_of [] count is some each none = omega (arith, is, some)
one_of (t ∷ tables) count is some each none = none t (each t (0, omega arith, refl))

pub not_none : {IsOfKind : Packed → Type 0} (count : ℕ) → 0 < count → AreSoMany IsOfKind count → ((t : Packed) → IsOfKind t → ⊥) → ⊥
not_none count some many none = one_of many.tables count many.is some (λ t at. (many.exact t).0 at) none
