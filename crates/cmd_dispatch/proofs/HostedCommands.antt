-- What the host's commands do over a ledger, from its opening until it is let go, or over none.
use Rattle.std.proofs.Common.{◌∙◌, refl, subst, sym, ℕ, List, Option, Some, None, Result, false, inl, inr, ◌≡◌, Ok, Err, length, Bool, true, IfNone, IfSome, IfErr, IfOk, ◌⊎◌}
use Rattle.std.specs.declared.io.Error.{Error}
use Rattle.std.specs.declared.vec.Vec.{Vec}
use Rattle.std.specs.Prelude.{is_some}
use Rattle.std.specs.Borrow.{Bor}
use Rattle.files.specs.Terms.{Known, SameFile, Shelf, IsFileAt, IsKept, IsKeptBut, IsLedgerAt, IsOpenedOn, IsPut, IsToldStill}
use Rattle.files.specs.declared.opened.Opened.{Opened}
use Rattle.cmd_options.specs.declared.writing.LedgerFile.{LedgerFile}
use Rattle.cmd_options.specs.declared.options.Saving.{Saving}
use Rattle.cmd_dispatch.specs.Nodes.{IsContinued, IsHeldIn, IsMadeSure, IsOpenedIn, IsLedgerWritten, ChangesSaved, LeavesUnbegun, IsNothing, IsConductOf, Runs, RunsOver, RunsWith, ServesAsked, ServesBegun, ServesKept, ServesOver, IsTokenAt, WorksAt, WorksBetween}
use Rattle.wire.specs.Terms.{Answering}
use Rattle.peers.specs.Terms.{Taking}
use Rattle.peers.specs.declared.guarded.Conduct.{Conduct}
use Rattle.cmd_nodes.specs.Terms.{Traffic, EndsTalk, GivesUp, HasCalled}
use Rattle.cmd_options.specs.declared.ended.Ended.{Ended}
use Rattle.cmd_options.specs.declared.options.Beginning.{Beginning}
use Rattle.cmd_options.specs.declared.options.Listening.{Listening}
use Rattle.cmd_options.specs.declared.options.Settling.{Settling}
use Rattle.cmd_options.specs.declared.ended.Outcome.{Outcome}
use Rattle.cmd_dispatch.specs.Lines.{OnceLeaving, Said, Once, OnceSaved}
use Rattle.cmd_options.specs.declared.ended.Outcome.TheVariants.{Accepted}
use Rattle.cmd_options.specs.declared.options.Joining.{Joining}
use Rattle.cmd_dispatch.specs.Ledgers.{JoinsInto, Locking}

-- The ledger of a command, from before it is opened until it is let go.

-- where a file is made sure of, no other changes
made_alone : (tells : SameFile) (path : List ℕ) (old made : Shelf) → IsMadeSure tells path old made
    → IsKeptBut tells path old made
made_alone tells path old made (inl kept) = λ other apart. kept other
made_alone tells path old made (inr (text, held, put)) = put.others

-- nor where that is then changed, by what is told later
pub kept_then : (tells later : SameFile) (path : List ℕ) (old made new : Shelf) → IsKeptBut tells path old made
    → IsToldStill tells later → IsKeptBut later path made new → IsKeptBut tells path old new
kept_then tells later path old made new first still second = λ other apart.
    second other (still path other false apart) ∙ first other apart

-- what is made sure of stays so while nothing changes
pub made_still : (tells : SameFile) (path : List ℕ) (old made new : Shelf) → IsMadeSure tells path old made
    → IsKept made new → IsMadeSure tells path old new
made_still tells path old made new (inl kept) same = inl (λ other. same other ∙ kept other)
made_still tells path old made new (inr (text, held, put)) same = inr (
  text,
  held,
  record {
    at = subst (λ (known : Known). IsFileAt known text) (sym (same path)) put.at;
    others = λ other apart. same other ∙ put.others other apart;
  },
)

-- before a ledger is opened nothing has changed
pub not_begun : (tells : SameFile) (shelf : Shelf) (ledger : Option LedgerFile) → LeavesUnbegun tells shelf shelf ledger
not_begun tells shelf None = λ path. refl
not_begun tells shelf (Some file) = inl (λ path. refl)

-- before records are saved nothing has changed
pub not_saved : (tells : SameFile) (shelf : Shelf) (saving : Option Saving) → ChangesSaved tells saving shelf shelf
not_saved tells shelf None = λ path. refl
not_saved tells shelf (Some saving) = λ other apart. refl

pub opened_in : {F : Type 0} (remaining : F → Option (List ℕ)) (tells later : SameFile) (old made new : Shelf)
    (file : LedgerFile) (held : Result (Opened F) Error) (text : Option (List ℕ))
    → IsMadeSure tells file.path.now old made → IsToldStill tells later → IsHeldIn remaining made file held
    → IsLedgerAt (made file.path.now) text → IsKeptBut later file.path.now made new
    → IsOpenedIn remaining tells old new file held text
opened_in remaining tells later old made new file held text sure still read holds kept = record {
  made = made;
  is_made = sure;
  is_held = read;
  holds = holds;
  others = kept_then tells later file.path.now old made new (made_alone tells file.path.now old made sure) still kept;
}

pub written : {F : Type 0} (remaining : F → Option (List ℕ)) (tells later : SameFile) (old opened new : Shelf)
    (file : LedgerFile) (held : Result (Opened F) Error) (before after : Option (List ℕ))
    → IsOpenedIn remaining tells old opened file held before → IsToldStill tells later
    → IsPut later file.path.now after opened new → IsLedgerWritten remaining tells old new file held before after
written remaining tells later old opened new file held before after is still put = record {
  made = is.made;
  is_made = is.is_made;
  is_held = is.is_held;
  held_before = is.holds;
  holds_after = put.at;
  others = kept_then tells later file.path.now old opened new is.others still put.others;
}

pub continued : (tells later : SameFile) (old opened new : Shelf) (file : LedgerFile) (has : Option (List ℕ)) (len : ℕ)
    (before after : Option (List ℕ)) → IsOpenedOn (old file.path.now) has len → IsLedgerAt (old file.path.now) before
    → IsKeptBut tells file.path.now old opened → IsToldStill tells later → IsPut later file.path.now after opened new
    → IsContinued tells old new file has len before after
continued tells later old opened new file has len before after read holds kept still put = record {
  is_read = read;
  held_before = holds;
  holds_after = put.at;
  others = kept_then tells later file.path.now old opened new kept still put.others;
}

-- What runs and listens over a ledger, or over none.
pub ran_kept : {F N : Type 0} (replies : Answering N) (remaining : F → Option (List ℕ)) (tells later : SameFile)
    (old opened new : Shelf) (file : LedgerFile) (p : Settling) (workers : List N) (held : Result (Opened F) Error)
    (before after : Option (List ℕ)) (s : Said) (o : Outcome)
    → RunsOver replies remaining p workers held before after s o → IsToldStill tells later
    → IsPut later file.path.now after opened new → IsOpenedIn remaining tells old opened file held before
    → RunsWith replies remaining tells old new p workers (Some file) s o
ran_kept replies remaining tells later old opened new file p workers held before after s o runs still put is = record {
  held = held;
  before = before;
  after = after;
  keeps = written remaining tells later old opened new file held before after is still put;
  runs = runs;
}

pub ran_alone : {F N : Type 0} (replies : Answering N) (remaining : F → Option (List ℕ)) (tells : SameFile)
    (old new : Shelf) (p : Settling) (workers : List N) (held : Result (Opened F) Error)
    (before after : Option (List ℕ)) (s : Said) (o : Outcome) → new ≡ old → IsNothing remaining held
    → RunsOver replies remaining p workers held before after s o
    → RunsWith replies remaining tells old new p workers None s o
ran_alone replies remaining tells old new p workers held before after s o same is runs = record {
  held = held;
  before = before;
  after = after;
  keeps = (same, is);
  runs = runs;
}

pub with_workers : {F N : Type 0} (replies : Answering N) (remaining : F → Option (List ℕ)) (tells : SameFile)
    (old new : Shelf) (p : Settling) (workers : List N) (given ledger : Option LedgerFile) (s : Said)
    (ended : Result Outcome Ended) → ledger ≡ given → length workers ≡ p.workers
    → OnceLeaving (RunsWith replies remaining tells old new p workers given s) (LeavesUnbegun tells old new given) s ended
    → OnceLeaving (Runs replies remaining tells old new p ledger s) (LeavesUnbegun tells old new ledger) s ended
with_workers replies remaining tells old new p workers given ledger s (Ok o) is count runs = (workers, count, rw is runs)
with_workers replies remaining tells old new p workers given ledger s (Err e) is count same = (same.0, rw is same.1)

pub served_kept : {F G : Type 0} (remaining : F → Option (List ℕ)) (takes : G → Taking) (passed : G → Traffic)
    (tells later : SameFile) (shelf opened new_shelf : Shelf) (file : LedgerFile) (b : Beginning) (l : Listening)
    (conduct : Conduct) (old new : G) (held : Result (Opened F) Error) (before after : Option (List ℕ)) (s : Said)
    (ended : Result Outcome Ended) → ServesOver remaining takes passed b l conduct old new held before after s ended
    → IsToldStill tells later → IsPut later file.path.now after opened new_shelf
    → IsOpenedIn remaining tells shelf opened file held before
    → ServesKept remaining takes passed tells shelf new_shelf b (Some file) l conduct old new s ended
served_kept remaining takes passed tells later shelf opened new_shelf file b l conduct old new held before after s ended serves still put is = record {
  held = held;
  before = before;
  after = after;
  keeps = written remaining tells later shelf opened new_shelf file held before after is still put;
  serves = serves;
}

pub served_alone : {F G : Type 0} (remaining : F → Option (List ℕ)) (takes : G → Taking) (passed : G → Traffic)
    (tells : SameFile) (shelf new_shelf : Shelf) (b : Beginning) (l : Listening) (conduct : Conduct) (old new : G)
    (held : Result (Opened F) Error) (before after : Option (List ℕ)) (s : Said) (ended : Result Outcome Ended)
    → new_shelf ≡ shelf → IsNothing remaining held
    → ServesOver remaining takes passed b l conduct old new held before after s ended
    → ServesKept remaining takes passed tells shelf new_shelf b None l conduct old new s ended
served_alone remaining takes passed tells shelf new_shelf b l conduct old new held before after s ended same is serves = record {
  held = held;
  before = before;
  after = after;
  keeps = (same, is);
  serves = serves;
}

pub served : {F G : Type 0} (remaining : F → Option (List ℕ)) (takes : G → Taking) (passed : G → Traffic)
    (tells : SameFile) (shelf new_shelf : Shelf) (b : Beginning) (ledger : Option LedgerFile) (l : Listening)
    (conduct : Conduct) (old new : G) (s : Said) (ended : Result Outcome Ended) → IsConductOf l conduct
    → ServesBegun remaining takes passed tells shelf new_shelf b ledger l conduct old new s ended
    → ServesAsked remaining takes passed tells shelf new_shelf b ledger l s ended
served remaining takes passed tells shelf new_shelf b ledger l conduct old new s ended is (inl never) = inl never
served remaining takes passed tells shelf new_shelf b ledger l conduct old new s ended is (inr serves) =
    inr (old, new, conduct, is, serves)

-- Who may hand in holdouts.
abbrev Admits : {P : Type 0} → Option P → Bool → Bool → Type 0
Admits path asked takes = (asked ≡ true → takes ≡ true) × (asked ≡ false → IfNone path (takes ≡ false))
    × IfSome path (λ _. takes ≡ true)

pub all_where_asked : {P : Type 0} (path : Option P) (asked takes : Bool) → asked ≡ true → takes ≡ true → Admits path asked takes
all_where_asked None asked takes is takes_is = (λ _. takes_is, λ other. cc, tt)
all_where_asked (Some path) asked takes is takes_is = (λ _. takes_is, λ other. tt, takes_is)

pub who_has_shown_it : {P Z : Type 0} (path : Option P) (token : Option (Vec ℕ Z)) (asked takes : Bool) → asked ≡ false
    → IsTokenAt path token → takes ≡ is_some token → Admits path asked takes
who_has_shown_it None token asked takes is at takes_is = (λ other. cc, λ _. cc, tt)
who_has_shown_it (Some path) None asked takes is at takes_is = elim at [ ]
who_has_shown_it (Some path) (Some token) asked takes is at takes_is = (λ _. takes_is, λ _. tt, takes_is)

-- How workers end.
pub worked_between : (ended : Result Outcome Ended) (Stopped : Type 0) → IfOk ended (λ o. (o ≡ Accepted) × Stopped)
    → IfErr ended EndsTalk → WorksBetween ended
worked_between (Ok o) Stopped well early = well.0
worked_between (Err e) Stopped well early = early

pub worked_at : {K : Type 0} (calls : K → ℕ) (tries : ℕ) (old new : K) (ended : Result Outcome Ended) (Stopped : Type 0)
    → IfOk ended (λ o. (o ≡ Accepted) × Stopped) → IfOk ended (λ _. HasCalled (calls old) (calls new))
    → IfErr ended (GivesUp tries (calls old) (calls new)) → WorksAt calls tries ended
worked_at calls tries old new (Ok o) Stopped well called early = (well.0, old, new, called)
worked_at calls tries old new (Err e) Stopped well called early = (old, new, early)

-- A folder's ledgers, joined into one or none.
pub joined : {K : Type 0} (locks : Locking K) (tells : SameFile) (j : Joining) (old new : Shelf) (s : Said)
    (lines new_lines : Option (List ℕ)) (out : Option (Bor (List ℕ))) (o : Outcome)
    → IfNone out (JoinsInto locks tells j old new s lines new_lines None o)
    → IfSome out (λ path. JoinsInto locks tells j old new s lines new_lines (Some path) o)
    → JoinsInto locks tells j old new s lines new_lines out o
joined locks tells j old new s lines new_lines None o alone into = alone
joined locks tells j old new s lines new_lines (Some path) o alone into = into

-- A walk by either decider.
pub found_or_saved : (Found Saved : Outcome → Type 0) (s : Said) (ended : Result Outcome Ended) → Once Found s ended
    → OnceSaved (λ o. Found o ⊎ Saved o) s ended
found_or_saved Found Saved s (Ok o) found = inl found
found_or_saved Found Saved s (Err e) same = inl same

pub saved : (Found Saved : Outcome → Type 0) (s : Said) (ended : Result Outcome Ended) → OnceSaved Saved s ended
    → OnceSaved (λ o. Found o ⊎ Saved o) s ended
saved Found Saved s (Ok o) walked = inr walked
saved Found Saved s (Err e) (inl same) = inl same
saved Found Saved s (Err e) (inr walked) = inr (walked.0, (walked.1.0, inr walked.1.1))
