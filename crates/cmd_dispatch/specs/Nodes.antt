-- The ledger of a command, and commands that settle a tree, walk it, or serve or work for one.
use Rattle.std.specs.Prelude.{◌≡◌, ◌⊎◌, ℕ, List, [], Option, Some, None, IfOk, Result, Ok, Err, ◌≤◌, IfNone, IfSome, length, true, false, OnErr}
use Rattle.std.specs.declared.io.Error.{Error}
use Rattle.std.specs.declared.vec.Vec.{Vec}
use Rattle.std.specs.Borrow.{Bor}
use Rattle.files.specs.Terms.{IsLedgerOn, SameFile, Shelf, IsFileAt, IsKept, IsKeptBut, IsLedgerAt, IsOpenedOn}
use Rattle.files.specs.declared.opened.Opened.{Opened}
use Rattle.cmd_options.specs.declared.writing.LedgerFile.{LedgerFile}
use Rattle.cmd_options.specs.declared.options.Saving.{Saving}
use Rattle.cmd_parts.specs.Terms.{IsCreated, IsWalkedBoard, WalksTree}
use Rattle.machine_text.specs.Terms.{Packed, empty_table, table_of}
use Rattle.cert.specs.Terms.{Recorded}
use Rattle.wire.specs.Terms.{Answering}
use Rattle.cmd_options.specs.declared.ended.Ended.{Ended}
use Rattle.cmd_options.specs.declared.options.Beginning.{Beginning}
use Rattle.cmd_options.specs.declared.options.Settling.{Settling}
use Rattle.cmd_options.specs.declared.options.Walking.{Walking}
use Rattle.cmd_options.specs.declared.ended.Outcome.{Outcome}
use Rattle.cmd_options.specs.declared.ended.Outcome.TheVariants.{Accepted}
use Rattle.cmd_json.specs.Terms.{IsText, form_of}
use Rattle.cmd_ledgers.specs.Terms.{SettlesTree, TellsTree}
use Rattle.cmd_nodes.specs.Terms.{CoordinatesTree, IsRunBoard, IsServedBoard, IsBegunOfPart, IsSettledBoard, SettlesPart, ListensUntil, Traffic, IsBegunFrom, EndsTalk, GivesUp, HasCalled}
use Rattle.cmd_dispatch.specs.Lines.{Said, EndsLate, ToldApart, ToldBehind, Input}
use Rattle.peers.specs.Terms.{Taking}
use Rattle.peers.specs.declared.guarded.Conduct.{Conduct}
use Rattle.cmd_options.specs.declared.options.Listening.{Listening}
use Rattle.cmd_options.specs.declared.options.PartCoordinating.{PartCoordinating}
use Rattle.cmd_options.specs.declared.options.Working.{Working}

-- The ledger of a command, from before it is opened until it is let go.

-- there is a file at a path, or nothing has changed at any
abbrev pub IsMadeSure : SameFile → List ℕ → Shelf → Shelf → Type 0
IsMadeSure tells path old new = IsKept old new ⊎ IsCreated tells path old new

-- what a command leaves that ends before it begins: nothing has changed at any path, except that its ledger may be there
abbrev pub LeavesUnbegun : SameFile → Shelf → Shelf → Option LedgerFile → Type 0
LeavesUnbegun tells old new None = IsKept old new
LeavesUnbegun tells old new (Some file) = IsMadeSure tells file.path.now old new

-- no file changes but the one to which records are saved
abbrev pub ChangesSaved : SameFile → Option Saving → Shelf → Shelf → Type 0
ChangesSaved tells None old new = IsKept old new
ChangesSaved tells (Some saving) old new = IsKeptBut tells saving.path.now old new

-- what is read of the ledger that a command line names
abbrev pub IsHeldIn : {F : Type 0} → (F → Option (List ℕ)) → Shelf → LedgerFile → Result (Opened F) Error → Type 0
IsHeldIn remaining shelf file held =
    IfOk held (λ opened. IsLedgerOn (shelf file.path.now) (remaining opened.reader) opened.length)

-- and where none is named
abbrev pub IsNothing : {F : Type 0} → (F → Option (List ℕ)) → Result (Opened F) Error → Type 0
IsNothing remaining (Ok opened) = (remaining opened.reader ≡ Some []) × (opened.length ≡ 0)
IsNothing remaining (Err fault) = ⊥

-- it is opened: there is a file, of which this is read, and this is its text; no other file changes
pub record IsOpenedIn {F : Type 0} (remaining : F → Option (List ℕ)) (tells : SameFile) (old new : Shelf)
    (file : LedgerFile) (held : Result (Opened F) Error) (text : Option (List ℕ)) : Type 0 where
  pub made : Shelf
  pub is_made : IsMadeSure tells file.path.now old made
  pub is_held : IsHeldIn remaining made file held
  pub holds : IsLedgerAt (made file.path.now) text
  pub others : IsKeptBut tells file.path.now old new

-- it was opened, and its file holds in the end what was written; no other file changes
pub record IsLedgerWritten {F : Type 0} (remaining : F → Option (List ℕ)) (tells : SameFile) (old new : Shelf)
    (file : LedgerFile) (held : Result (Opened F) Error) (before after : Option (List ℕ)) : Type 0 where
  pub made : Shelf
  pub is_made : IsMadeSure tells file.path.now old made
  pub is_held : IsHeldIn remaining made file held
  pub held_before : IsLedgerAt (made file.path.now) before
  pub holds_after : IsFileAt (new file.path.now) after
  pub others : IsKeptBut tells file.path.now old new

-- the ledger of a command, if one is named: of what was held before, and is held in the end
abbrev pub KeepsLedgerOf : {F : Type 0} → (F → Option (List ℕ)) → SameFile → Shelf → Shelf → Option LedgerFile
    → Result (Opened F) Error → Option (List ℕ) → Option (List ℕ) → Type 0
KeepsLedgerOf remaining tells old new None held before after = (new ≡ old) × IsNothing remaining held
KeepsLedgerOf remaining tells old new (Some file) held before after =
    IsLedgerWritten remaining tells old new file held before after

-- a ledger that is there: it is read, and its file holds in the end what was written
pub record IsContinued (tells : SameFile) (old new : Shelf) (file : LedgerFile) (has : Option (List ℕ)) (len : ℕ)
    (before after : Option (List ℕ)) : Type 0 where
  pub is_read : IsOpenedOn (old file.path.now) has len
  pub held_before : IsLedgerAt (old file.path.now) before
  pub holds_after : IsFileAt (new file.path.now) after
  pub others : IsKeptBut tells file.path.now old new

-- Commands that settle a tree, walk it, or serve or work for one.

-- `bb coord`, over a ledger that held this, and its text before and behind
abbrev pub CoordinatesOver : {F : Type 0} → (F → Option (List ℕ)) → Beginning → Result (Opened F) Error
    → Option (List ℕ) → Option (List ℕ) → Said → Outcome → Type 0
CoordinatesOver remaining b held before after s o = ToldBehind (λ ended. IfOk ended
    (CoordinatesTree b.states (IsServedBoard b.states b.era remaining held before after))) s.faults s.new_faults o

abbrev pub Coordinates : {F : Type 0} → (F → Option (List ℕ)) → SameFile → Shelf → Shelf → Beginning
    → Option LedgerFile → Said → Outcome → Type 0
Coordinates {F} remaining tells old new b ledger s o = (held : Result (Opened F) Error) × (before after : Option
    (List ℕ))
    × KeepsLedgerOf remaining tells old new ledger held before after × CoordinatesOver remaining b held before after s o

-- `bb run` and `bb loop`, with so many workers
abbrev pub RunsOver : {F N : Type 0} → Answering N → (F → Option (List ℕ)) → Settling → List N
    → Result (Opened F) Error → Option (List ℕ) → Option (List ℕ) → Said → Outcome → Type 0
RunsOver replies remaining p workers held before after s o = EndsLate (ToldApart
    (SettlesTree (IsText (form_of p.json)) p.states (IsRunBoard replies p workers remaining held before after)
    s.held s.new_held)) o

pub record RunsWith {F N : Type 0} (replies : Answering N) (remaining : F → Option (List ℕ)) (tells : SameFile)
    (old new : Shelf) (p : Settling) (workers : List N) (ledger : Option LedgerFile) (s : Said) (o : Outcome) : Type 0
  where
    pub held : Result (Opened F) Error
    pub before : Option (List ℕ)
    pub after : Option (List ℕ)
    pub keeps : KeepsLedgerOf remaining tells old new ledger held before after
    pub runs : RunsOver replies remaining p workers held before after s o

abbrev pub Runs : {F N : Type 0} → Answering N → (F → Option (List ℕ)) → SameFile → Shelf → Shelf → Settling
    → Option LedgerFile → Said → Outcome → Type 0
Runs {F} {N} replies remaining tells old new p ledger s o = (workers : List N) × (length workers ≡ p.workers)
    × RunsWith replies remaining tells old new p workers ledger s o

-- the root of the tree that is walked: the table of a text, which has so many states; or the empty table
abbrev pub IsRootOf : Walking → Packed → Type 0
IsRootOf w root = IfNone w.root (root ≡ empty_table w.states)
    × IfSome w.root (λ text. (table_of text.now ≡ Ok root) × (root.states ≡ w.states))

-- `bb walk`: a whole tree is settled as `bb run` settles it, and so is what stands below a table
abbrev pub WalksBy : {D : Type 0} → (D → Packed → Recorded → Type 0) → Walking → Said → Outcome → Type 0
WalksBy {D} answers w s o = (root : Packed) × IsRootOf w root
    × EndsLate (λ last. ToldApart
    (WalksTree (IsText (form_of w.json)) root (IsWalkedBoard D answers) s.held s.new_held) last
    × IfNone w.root (TellsTree (IsText (form_of w.json)) w.states (IsWalkedBoard D answers) s.held s.new_held last)) o

-- there is one just where a file is named, and it has 16 bytes or more
abbrev pub IsTokenAt : {P Z : Type 0} → Option P → Option (Vec ℕ Z) → Type 0
IsTokenAt None token = token ≡ None
IsTokenAt (Some path) None = ⊥
IsTokenAt (Some path) (Some token) = 16 ≤ length token.items

-- who may hand in holdouts: anyone where that is asked for, and who has shown a token; nobody else
abbrev pub IsConductOf : Listening → Conduct → Type 0
IsConductOf l conduct = (l.accept_holdouts ≡ true → conduct.takes_holdouts ≡ true)
    × (l.accept_holdouts ≡ false → IfNone l.token (conduct.takes_holdouts ≡ false))
    × IfSome l.token (λ _. conduct.takes_holdouts ≡ true)

-- it can't listen, or not write its ledger: no answer is said, and this is left
abbrev pub ListensNever : Type 0 → Said → Result Outcome Ended → Type 0
ListensNever Leaves s ended = (e : Ended) × (ended ≡ Err e) × (s.new_held ≡ s.held) × Leaves

-- a coordinator of a tree listens to what comes over some connections, over a ledger that held this, and its text before
-- and behind
abbrev pub ServesOver : {F G : Type 0} → (F → Option (List ℕ)) → (G → Taking) → (G → Traffic) → Beginning → Listening
    → Conduct → G → G → Result (Opened F) Error → Option (List ℕ) → Option (List ℕ) → Said → Result Outcome Ended
    → Type 0
ServesOver remaining takes passed b l conduct old new held before after s ended =
    SettlesTree (IsText (form_of l.json)) b.states (IsSettledBoard b.states b.era remaining held conduct (takes old)
    before after (passed old) (passed new)) s.held s.new_held ended
    × OnErr ended (ListensUntil (IsBegunFrom b.states b.era remaining held) conduct (takes old) (passed old)
    (passed new))

pub record ServesKept {F G : Type 0} (remaining : F → Option (List ℕ)) (takes : G → Taking) (passed : G → Traffic)
    (tells : SameFile) (shelf new_shelf : Shelf) (b : Beginning) (ledger : Option LedgerFile) (l : Listening)
    (conduct : Conduct) (old new : G) (s : Said) (ended : Result Outcome Ended) : Type 0 where
  pub held : Result (Opened F) Error
  pub before : Option (List ℕ)
  pub after : Option (List ℕ)
  pub keeps : KeepsLedgerOf remaining tells shelf new_shelf ledger held before after
  pub serves : ServesOver remaining takes passed b l conduct old new held before after s ended

-- where it can be begun
abbrev pub ServesBegun : {F G : Type 0} → (F → Option (List ℕ)) → (G → Taking) → (G → Traffic) → SameFile → Shelf
    → Shelf → Beginning → Option LedgerFile → Listening → Conduct → G → G → Said → Result Outcome Ended → Type 0
ServesBegun remaining takes passed tells shelf new_shelf b ledger l conduct old new s ended =
    ListensNever (LeavesUnbegun tells shelf new_shelf ledger) s ended
    ⊎ ServesKept remaining takes passed tells shelf new_shelf b ledger l conduct old new s ended

-- and where it can listen
abbrev pub ServesTree : {F G : Type 0} → (F → Option (List ℕ)) → (G → Taking) → (G → Traffic) → SameFile → Shelf
    → Shelf → Beginning → Option LedgerFile → Listening → Said → Result Outcome Ended → Type 0
ServesTree {F} {G} remaining takes passed tells shelf new_shelf b ledger l s ended = (old new : G) × (conduct : Conduct)
    × IsConductOf l conduct
    × ServesKept remaining takes passed tells shelf new_shelf b ledger l conduct old new s ended

abbrev pub ServesAsked : {F G : Type 0} → (F → Option (List ℕ)) → (G → Taking) → (G → Traffic) → SameFile → Shelf
    → Shelf → Beginning → Option LedgerFile → Listening → Said → Result Outcome Ended → Type 0
ServesAsked remaining takes passed tells shelf new_shelf b ledger l s ended =
    ListensNever (LeavesUnbegun tells shelf new_shelf ledger) s ended
    ⊎ ServesTree remaining takes passed tells shelf new_shelf b ledger l s ended

-- and one of a part, whose ledger is there
abbrev pub ServesHeld : {G : Type 0} → (G → Taking) → (G → Traffic) → PartCoordinating → Conduct → G → G
    → Option (List ℕ) → ℕ → Option (List ℕ) → Option (List ℕ) → Said → Result Outcome Ended → Type 0
ServesHeld takes passed c conduct old new has len before after s ended =
    SettlesPart (IsText (form_of c.listening.json)) c.era has len conduct (takes old) (passed old) (passed new)
    before after s.held s.new_held ended
    × OnErr ended (ListensUntil (IsBegunOfPart c.era has len) conduct (takes old) (passed old) (passed new))

abbrev pub ServesLedger : {G : Type 0} → (G → Taking) → (G → Traffic) → SameFile → Shelf → Shelf → PartCoordinating
    → Said → Result Outcome Ended → Type 0
ServesLedger {G} takes passed tells shelf new_shelf c s ended = (old new : G) × (conduct : Conduct)
    × IsConductOf c.listening conduct × (has : Option (List ℕ)) × (len : ℕ) × (before after : Option (List ℕ))
    × IsContinued tells shelf new_shelf c.file has len before after
    × ServesHeld takes passed c conduct old new has len before after s ended

abbrev pub ServesPart : {G : Type 0} → (G → Taking) → (G → Traffic) → SameFile → Shelf → Shelf → PartCoordinating
    → Said → Result Outcome Ended → Type 0
ServesPart takes passed tells shelf new_shelf c s ended =
    ListensNever (IsKept shelf new_shelf) s ended ⊎ ServesLedger takes passed tells shelf new_shelf c s ended

-- nothing is read, and no answer is said
abbrev pub IsApart : Input → Said → Type 0
IsApart i s = (i.new_read ≡ i.read) × (s.new_held ≡ s.held)

-- workers for a coordinator that is called end well once it was called, or give it up by one who called it, as often as so many
-- tries ask
abbrev pub WorksAt : {K : Type 0} → (K → ℕ) → ℕ → Result Outcome Ended → Type 0
WorksAt {K} calls tries (Ok o) = (o ≡ Accepted) × (old new : K) × HasCalled (calls old) (calls new)
WorksAt {K} calls tries (Err e) = (old new : K) × GivesUp tries (calls old) (calls new) e

-- and those for one whose frames come on standard input
abbrev pub WorksBetween : Result Outcome Ended → Type 0
WorksBetween (Ok o) = o ≡ Accepted
WorksBetween (Err e) = EndsTalk e

abbrev pub WorksFor : {K : Type 0} → (K → ℕ) → Working → Option (Bor (List ℕ)) → Input → Said → Result Outcome Ended
    → Type 0
WorksFor calls w None i s ended = WorksBetween ended
WorksFor calls w (Some address) i s ended = IsApart i s × WorksAt calls w.tries ended

-- they can't begin, or work for the one that is asked for
abbrev pub Works : {K : Type 0} → (K → ℕ) → Working → Input → Said → Result Outcome Ended → Type 0
Works calls w i s ended = ((e : Ended) × (ended ≡ Err e) × IsApart i s) ⊎ WorksFor calls w w.connect i s ended
