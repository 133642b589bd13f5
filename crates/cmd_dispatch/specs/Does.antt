-- What is done that is asked for: of each command what the function says that is called for it.
use Rattle.std.specs.Prelude.{◌≡◌, ◌⊎◌, ℕ, List, Option, Some, None, Result}
use Rattle.machine_text.specs.Terms.{Packed}
use Rattle.cert.specs.Terms.{Recorded}
use Rattle.peers.specs.Terms.{Taking}
use Rattle.wire.specs.Terms.{Answering}
use Rattle.files.specs.Terms.{SameFile, Shelf}
use Rattle.cmd_options.specs.Terms.{EndsTold, IsTold}
use Rattle.cmd_options.specs.declared.ended.Ended.{Ended}
use Rattle.cmd_options.specs.declared.writing.LedgerFile.{LedgerFile}
use Rattle.cmd_options.specs.declared.options.Beginning.{Beginning}
use Rattle.cmd_options.specs.declared.options.Listening.{Listening}
use Rattle.cmd_options.specs.declared.options.Options.{Options}
use Rattle.cmd_options.specs.declared.options.Options.TheVariants.{Check, Decide, Explain, Show, Tables, Coord, CoordPart, Work, Run, Loop, Retry, Merge, Carry, Mend, Split, Settle, Walk, Join, Look, Draw, Page, Report}
use Rattle.cmd_options.specs.declared.ended.Outcome.{Outcome}
use Rattle.cmd_ledgers.specs.Terms.{AtSomeTime}
use Rattle.cmd_nodes.specs.Terms.{Traffic}
use Rattle.find_search.specs.Terms.{known_in}
use Rattle.cmd_dispatch.specs.declared.host.Host.{Host}
use Rattle.cmd_dispatch.specs.Lines.{Input, Said, Always, OnceKept, OnceLeaving, OnceSaved, DoesCheck, DoesDecide, DoesExplain, DoesShow, DoesList, Draws}
use Rattle.cmd_dispatch.specs.Nodes.{ChangesSaved, LeavesUnbegun, Coordinates, Runs, ServesAsked, ServesPart, WalksBy, Works}
use Rattle.cmd_dispatch.specs.Ledgers.{Locking, Carries, JoinsAsked, LooksUp, Mends, MergesAsked, ReportsAsked, Retries, Settles, Splits, Pages}

-- what commands meet: files, by what may be told of two paths, what stands at each, what may come of locking one, and how
-- what is read of one is known; what deciders may answer, one alone, one that is counted, and one whose answers are saved;
-- how workers answer; connections, by how they take what is sent, and what passed over them; and who calls a coordinator, by
-- how often he has
pub record Met (H K D C V N F G W : Type 0) : Type 1 where
  pub tells : H → SameFile
  pub holds : H → Shelf
  pub locks : Locking K
  pub remaining : F → Option (List ℕ)
  pub answers : D → Packed → Recorded → Type 0
  pub counted : C → Packed → Recorded → Type 0
  pub saved : V → Packed → Recorded → Type 0
  pub replies : Answering N
  pub takes : G → Taking
  pub passed : G → Traffic
  pub calls : W → ℕ

-- a command that leaves all files as they are
abbrev pub LeavesFiles : {H : Type 0} → H → H → Type 0 → Type 0
LeavesFiles old new Done = (new ≡ old) × Done

-- `bb coord` of a whole tree: over its input and output, or over connections
abbrev pub CoordinatesAsked : {F G : Type 0} → (F → Option (List ℕ)) → (G → Taking) → (G → Traffic) → SameFile → Shelf
    → Shelf → Beginning → Option LedgerFile → Option Listening → Said → Result Outcome Ended → Type 0
CoordinatesAsked remaining takes passed tells old new b ledger None s ended =
    OnceLeaving (Coordinates remaining tells old new b ledger s) (LeavesUnbegun tells old new ledger) s ended
CoordinatesAsked remaining takes passed tells old new b ledger (Some listening) s ended =
    ServesAsked remaining takes passed tells old new b ledger listening s ended

abbrev pub DoesCommand : {H K D C V N F G W : Type 0} → Met H K D C V N F G W → Options → H → H → Input → Said
    → Result Outcome Ended → Type 0
DoesCommand m (Check c) old new i s ended = LeavesFiles old new (DoesCheck c.json c.why i s ended)
DoesCommand m (Decide d) old new i s ended = LeavesFiles old new (DoesDecide m.counted d.json d.keep i s ended)
DoesCommand m (Explain explaining) old new i s ended = LeavesFiles old new (DoesExplain explaining i s ended)
DoesCommand m (Show showing) old new i s ended = LeavesFiles old new (DoesShow s ended)
DoesCommand m (Tables listing) old new i s ended = LeavesFiles old new (DoesList listing i s ended)
DoesCommand m (Draw drawing) old new i s ended = Always (Draws m.tells m.holds drawing old new i s) ended
DoesCommand m (Coord beginning ledger listening) old new i s ended =
    CoordinatesAsked m.remaining m.takes m.passed (m.tells old) (m.holds old) (m.holds new) beginning ledger listening
    s ended
DoesCommand m (CoordPart coordinating) old new i s ended =
    ServesPart m.takes m.passed (m.tells old) (m.holds old) (m.holds new) coordinating s ended
DoesCommand m (Work working) old new i s ended = Works m.calls working i s ended
DoesCommand m (Run settling ledger) old new i s ended =
    OnceLeaving (Runs m.replies m.remaining (m.tells old) (m.holds old) (m.holds new) settling ledger s)
    (LeavesUnbegun (m.tells old) (m.holds old) (m.holds new) ledger) s ended
DoesCommand m (Loop settling ledger) old new i s ended =
    OnceLeaving (Runs m.replies m.remaining (m.tells old) (m.holds old) (m.holds new) settling ledger s)
    (LeavesUnbegun (m.tells old) (m.holds old) (m.holds new) ledger) s ended
DoesCommand m (Retry retrying) old new i s ended = OnceKept (Retries (AtSomeTime _ m.answers) m.locks
    (m.tells old) retrying
    (m.holds old) (m.holds new) s) (m.holds old) (m.holds new) s ended
DoesCommand m (Merge merging) old new i s ended =
    OnceKept (MergesAsked (m.tells old) merging (m.holds old) (m.holds new) s) (m.holds old) (m.holds new) s ended
DoesCommand m (Carry carrying) old new i s ended =
    OnceKept (Carries (m.tells old) carrying (m.holds old) (m.holds new) s) (m.holds old) (m.holds new) s ended
DoesCommand m (Mend mending) old new i s ended =
    OnceKept (Mends (m.tells old) mending (m.holds old) (m.holds new) i s) (m.holds old) (m.holds new) s ended
DoesCommand m (Split splitting) old new i s ended = OnceKept (Splits (AtSomeTime _ m.answers) m.locks
    (m.tells old) splitting
    (m.holds old) (m.holds new) s) (m.holds old) (m.holds new) s ended
DoesCommand m (Settle settling) old new i s ended = Settles (AtSomeTime _ m.answers) m.locks (m.tells old) settling
    (m.holds old) (m.holds new) s ended
DoesCommand m (Walk walking) old new i s ended =
    ChangesSaved (m.tells old) walking.saving (m.holds old) (m.holds new)
    × OnceSaved (λ o. WalksBy m.answers walking s o ⊎ WalksBy m.saved walking s o) s ended
DoesCommand m (Join joining) old new i s ended = Always (JoinsAsked m.locks (m.tells old) joining (m.holds old)
    (m.holds new) i s) ended
DoesCommand m (Look looking) old new i s ended = LeavesFiles old new (LooksUp
    (m.holds old) looking looking.holdouts i s ended)
DoesCommand m (Page paging) old new i s ended = LeavesFiles old new (Pages (m.holds old) paging i s ended)
DoesCommand m (Report reporting) old new i s ended =
    LeavesFiles old new (Always (ReportsAsked (m.holds old) reporting i s) ended)

-- a command, from what it meets to what it leaves, and how it ends
abbrev pub Doing : Type 0 → Type 1
Doing M = Options → M → M → Result Outcome Ended → Type 0

-- what is asked for is done, and how it ends is told; what was refused of known records is said before
pub record DoesKnowing {S H R W E : Type 0} (does : Doing (Host S H R W E)) (contents : E → Option (List ℕ))
    (asked : Options) (old new : Host S H R W E) (o : Outcome) : Type 0 where
  pub ended : Result Outcome Ended
  pub faults : E
  pub lines : Option (List ℕ)
  pub done : does asked old (record new { faults = faults }) ended
  pub unsaid : known_in asked ≡ None → lines ≡ contents faults
  pub told : EndsTold ended lines (contents new.faults) o

-- where records that were found elsewhere are asked for and can't be read, nothing is done
pub record KnowsNothing {S H R W E : Type 0} (contents : E → Option (List ℕ)) (asked : Options)
    (old new : Host S H R W E) (o : Outcome) : Type 0 where
  pub wanted : known_in asked ≡ None → ⊥
  pub undone : new ≡ record old { faults = new.faults }
  pub ended : Ended
  pub told : IsTold ended (contents old.faults) (contents new.faults) o

abbrev pub DoesAsked : {S H R W E : Type 0} → Doing (Host S H R W E) → (E → Option (List ℕ)) → Options
    → Host S H R W E → Host S H R W E → Outcome → Type 0
DoesAsked does contents asked old new o =
    DoesKnowing does contents asked old new o ⊎ KnowsNothing contents asked old new o
