-- What a worker is, how it starts from its ledger, and what holds of all its answers.
use Rattle.std.specs.Prelude.{◌≡◌, ℕ, ◌<◌, Bool, not, List, [], ◌∷◌, ◌++◌, if◌then◌else◌, Option, Some, None, IsSome, length, filter, ◌⊎◌, Contains, true, false, Result, Ok, Err}
use Rattle.std.specs.List.{list_any}
use Rattle.machine_text.specs.Terms.{Packed, entry_of}
use Rattle.cert.specs.Terms.{Recorded, with_score}
use Rattle.ledger.specs.Terms.{Contents, IsOpenOn, same_table, claim_in, IsLedgerOf, ledger_text, HasHeader, HasNoHeader, ReadsAsNone, ReadsIn}
use Rattle.ledger.specs.declared.header.Format.TheVariants.{Two}
use Rattle.lease_core.specs.Limits.{work_record_limit}
use Rattle.lease_core.specs.declared.worker_answers.LeaseName.{LeaseName}
use Rattle.wire.specs.declared.node.Out.{Out}
use Rattle.wire.specs.Terms.{Message, Rec, frames_of}
use Rattle.lease_core.specs.Says.{lines_of, Says}
use Rattle.law_tree.specs.Terms.{InOrder}
use Rattle.ledger.specs.declared.loading.Left.{Left}
use Rattle.wire.specs.declared.node.Note.TheVariants.{Quiet}
use Rattle.lease_core.specs.declared.starting.StartFault.{StartFault}
use Rattle.lease_core.specs.declared.starting.StartFault.TheVariants.{BadHeader, WrongRoot, LedgerFault, NoMemory}
use Rattle.lease_core.specs.Starts.{cut_of}

-- What a worker is, apart from how that is kept, and which ledgers are in step with it.

-- a worker, with a decider of any type
pub record WorkerState (D : Type 0) : Type 0 where
  pub id : ℕ
  -- what answers its tables
  pub decider : D
  pub board : Option Contents
  -- the name of the lease under which it works
  pub lease : Option LeaseName
  -- the tables whose records were acknowledged since the last grant, each once
  pub acknowledged : List Packed
  -- a coordinator said `STOP` since the last grant
  pub rests : Bool
  -- it answers nothing more
  pub stopped : Bool

-- a board without records; its ledger is of version 2
abbrev pub empty_board : Packed → Contents
empty_board root = record { root = root; records = []; format = Two }

-- a board with one more record, which it holds with its score
abbrev pub with_record : Contents → Recorded → Contents
with_record b r = record { root = b.root; records = b.records ++ (with_score r ∷ []); format = b.format }

abbrev pub HasRoot : Option Contents → Packed → Type 0
HasRoot None t = ⊥
HasRoot (Some b) t = b.root ≡ t

-- the table has a record on the board
abbrev pub IsRecordedOn : Option Contents → Packed → Type 0
IsRecordedOn None t = ⊥
IsRecordedOn (Some b) t = IsSome (claim_in b.records t)

-- the board has an open table, and fewer records than work turns may make
abbrev pub MayWork : Option Contents → Type 0
MayWork None = ⊥
MayWork (Some b) = ((t : Packed) × IsOpenOn b t) × (length b.records < work_record_limit)

abbrev pub records_on : Option Contents → List Recorded
records_on None = []
records_on (Some b) = b.records

-- tables with one more, unless it is among them
abbrev pub with_table : List Packed → Packed → List Packed
with_table tables t = if list_any (same_table t) tables then tables else tables ++ (t ∷ [])

-- the records whose tables aren't among these, in their order
abbrev pub unacknowledged : List Packed → List Recorded → List Recorded
unacknowledged tables rs = filter (λ r. not (list_any (same_table r.table) tables)) rs

-- the text is the board's ledger; without a board it is empty
abbrev pub IsOwnLedger : Option Contents → List ℕ → Type 0
IsOwnLedger None text = text ≡ []
IsOwnLedger (Some b) text = IsLedgerOf b text

abbrev pub IsInStep : {D : Type 0} → WorkerState D → List ℕ → Type 0
IsInStep w text = IsOwnLedger w.board text

-- What holds of all answers of workers.

-- each record that is sent is a record of the board
abbrev pub SendsOwn : Out → Option Contents → Type 0
SendsOwn out board =
    (sent : List Message) × (out.frames.items ≡ frames_of sent)
    × ((r : Recorded) → Contains sent (Rec r) → Contains (records_on board) r)

-- the board gained these records; without a board there are none
abbrev pub IsGained : Option Contents → List Recorded → Option Contents → Type 0
IsGained None rs new = (rs ≡ []) × (new ≡ None)
IsGained (Some b) rs new = new ≡ Some (record { root = b.root; records = b.records ++ rs; format = b.format })

-- their lines, in the version of the board's ledger
abbrev pub gained_lines : Option Contents → List Recorded → List ℕ
gained_lines None rs = []
gained_lines (Some b) rs = lines_of b.format rs

-- the ledger gains exactly the lines of the records gained; or a board is begun, and its header comes after a cut to nothing
abbrev pub Gains : Option Contents → Out → Option Contents → Type 0
Gains old out new =
    ((rs : List Recorded) × IsGained old rs new × (out.cut ≡ None) × (out.append.items ≡ gained_lines old rs))
    ⊎ ((root : Packed) × (new ≡ Some (empty_board root)) × (out.cut ≡ Some 0)
    × (out.append.items ≡ ledger_text root []))

-- How a worker starts from the text of its ledger.
abbrev pub IsInOrder : Packed → Type 0
IsInOrder t = (u : ℕ) × InOrder u (entry_of t)

-- a text as a board, and what of it isn't kept: no board where it is torn off within its header
abbrev pub ReadsAsBoard : List ℕ → Option Contents → Left → Type 0
ReadsAsBoard text None left = ReadsAsNone text [] left
ReadsAsBoard text (Some b) left = IsInOrder b.root × ReadsIn b.format b.root text b.records left

-- why a worker doesn't start; its ledger's bytes are there, so nothing is read that could fail
abbrev pub IsNoStart : List ℕ → StartFault → Type 0
IsNoStart text BadHeader = HasNoHeader text
IsNoStart text WrongRoot = (root : Packed) × (rest : List ℕ) × HasHeader text root rest × (IsInOrder root → ⊥)
IsNoStart text LedgerFault = ⊥
IsNoStart text NoMemory = (root : Packed) × (rest : List ℕ) × HasHeader text root rest

abbrev pub Loads : List ℕ → Result (Option Contents × Left) StartFault → Type 0
Loads text (Ok loaded) = ReadsAsBoard text loaded.0 loaded.1
Loads text (Err fault) = IsNoStart text fault

module _ {D : Type 0} where
  -- at first it has no lease, and all records count as not acknowledged
  abbrev pub at_first : ℕ → D → Option Contents → Bool → WorkerState D
  at_first id decider board stopped = record
      { id = id; decider = decider; board = board; lease = None; acknowledged = []; rests = false; stopped = stopped }

  -- its board is as which its ledger reads, and what of that isn't kept is cut off; or it can't start, and is stopped
  abbrev pub Starts : ℕ → D → List ℕ → WorkerState D → Result Out StartFault → Type 0
  Starts id decider text new (Ok out) =
      (board : Option Contents) × (left : Left) × ReadsAsBoard text board left × Says out (cut_of left) [] [] Quiet
      × (new ≡ at_first id decider board false)
  Starts id decider text new (Err fault) = IsNoStart text fault × (new ≡ at_first id decider None true)
