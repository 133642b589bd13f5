-- Commands over ledgers and folders of them, and `bb page`.
use Rattle.std.specs.Prelude.{◌^◌, ◌-◌, ◌≡◌, ◌⊎◌, ℕ, Bool, true, false, List, Option, Some, None, IfOk, Result, Ok, Err, codes, ◌++◌}
use Rattle.std.specs.Borrow.{Bor}
use Rattle.std.specs.Str.Pattern.{RFindsChar, SplitsAroundMatch}
use Rattle.machine_text.specs.Terms.{Packed}
use Rattle.cert.specs.Terms.{Recorded}
use Rattle.files.specs.Terms.{SameFile, Shelf, IsKept, IsKeptBut, IsOpenedOn}
use Rattle.cmd_options.specs.Terms.{EndsTold, PrintsNothing}
use Rattle.cmd_options.specs.declared.ended.Ended.{Ended}
use Rattle.cmd_options.specs.declared.ended.Outcome.{Outcome}
use Rattle.cmd_options.specs.declared.ended.Outcome.TheVariants.{Accepted}
use Rattle.cmd_options.specs.declared.options.Carrying.{Carrying}
use Rattle.cmd_options.specs.declared.options.Joining.{Joining}
use Rattle.cmd_options.specs.declared.options.LedgerSettling.{LedgerSettling}
use Rattle.cmd_options.specs.declared.options.Looking.{Looking}
use Rattle.cmd_options.specs.declared.options.Mending.{Mending}
use Rattle.cmd_options.specs.declared.options.Merging.{Merging}
use Rattle.cmd_options.specs.declared.options.Reporting.{Reporting}
use Rattle.cmd_options.specs.declared.options.Retrying.{Retrying}
use Rattle.cmd_options.specs.declared.options.Splitting.{Splitting}
use Rattle.cmd_json.specs.Terms.{IsText, form_of}
use Rattle.cmd_lines.specs.Terms.{WritesFirst}
use Rattle.cmd_ledgers.specs.Terms.{CarriesAt, IsAt, MergesAt, MendsAt, Readings, ReportsFrom, SaysWhy, AreFirstBytes, WritesLedger, RetriesAt}
use Rattle.cmd_parts.specs.Terms.{CollectsAt, JoinsAt, SettlesAt, SplitsAt, finds_at, AnswersFirstBy, AnswersLines, PrintsAt, path_within, JoinsStream}
use Rattle.cmd_dispatch.specs.Lines.{Input, Said, EndsLate, ToldApart, ToldBehind, WantsRoom}
use Rattle.sha2.specs.Sha256.{sha256}
use Rattle.ledger.specs.declared.loading.Left.{Left}
use Rattle.cmd_options.specs.declared.ended.Ended.TheVariants.{NoMemory, Stream}
use Rattle.cmd_options.specs.declared.options.Paging.{Paging}
use Rattle.cmd_options.specs.declared.version.TheConstants.{VERSION}
use Rattle.cmd_page.specs.Terms.{TellsFolder, ledger_heading, IsPage, WritesRecords, records_heading}

-- Commands over ledgers and folders of them, by what stands at their paths.

-- what may come of locking the ledger at a path
abbrev pub Locking : Type 0 → Type 1
Locking K = List ℕ → Result (Option K) Ended → Type 0

-- a path that stands for standard input
abbrev pub IsStandardInput : List ℕ → Type 0
IsStandardInput path = path ≡ codes "-"

-- by whether a path stands for standard input
abbrev pub ByPath : List ℕ → Type 0 → Type 0 → Type 0
ByPath path IfStream IfFile = (IsStandardInput path × IfStream) ⊎ ((IsStandardInput path → ⊥) × IfFile)

-- `bb retry`
abbrev pub Retries : {K : Type 0} → (Packed → Recorded → Type 0) → Locking K → SameFile → Retrying → Shelf → Shelf
    → Said → Outcome → Type 0
Retries Answers locks tells r old new s o = EndsLate (ToldApart
    (RetriesAt Answers (locks r.file.path.now) tells r.file.path.now old new s.held s.new_held)) o

-- `bb merge`
abbrev pub MergesAsked : SameFile → Merging → Shelf → Shelf → Said → Outcome → Type 0
MergesAsked tells m old new s o = IsKeptBut tells m.out.now old new
    × ToldBehind (MergesAt tells m.first.now m.second.now m.out.now old new s.held s.new_held) s.faults s.new_faults o

-- `bb carry`
abbrev pub Carries : SameFile → Carrying → Shelf → Shelf → Said → Outcome → Type 0
Carries tells c old new s o = IsKeptBut tells c.out.now old new
    × ToldBehind (CarriesAt tells c.ledger.now c.out.now old new s.held s.new_held) s.faults s.new_faults o

-- `bb mend`, of what may be read so
abbrev pub MendsOf : Readings → SameFile → Mending → Shelf → Shelf → Said → Outcome → Type 0
MendsOf Reads tells m old new s o = IsKeptBut tells m.out.now old new
    × ToldBehind (MendsAt Reads tells m.out.now old new s.held s.new_held) s.faults s.new_faults o

abbrev pub Mends : SameFile → Mending → Shelf → Shelf → Input → Said → Outcome → Type 0
Mends tells m old new i s o = ByPath m.ledger.now
    (MendsOf (AreFirstBytes i.read (2 ^ 64 - 1)) tells m old new s o)
    (MendsOf (IsAt (old m.ledger.now)) tells m old new s o)

-- `bb report`, of what may be read so; what it is told on are lines of its own
abbrev pub ReportsOf : Readings → Reporting → Said → Outcome → Type 0
ReportsOf reads r s o = (ended : Result Outcome Ended) × (lines said new_said : Option (List ℕ))
    × ReportsFrom (IsText (form_of r.json)) reads s.held s.new_held ended
    × SaysWhy r.why ended lines said × EndsTold ended said new_said o

abbrev pub ReportsAsked : Shelf → Reporting → Input → Said → Outcome → Type 0
ReportsAsked shelf r i s o = ByPath r.file.now (ReportsOf (AreFirstBytes i.read (2 ^ 64 - 1)) r s o)
    (ReportsOf (IsAt (shelf r.file.now)) r s o)

-- `bb split`
abbrev pub Splits : {K : Type 0} → (Packed → Recorded → Type 0) → Locking K → SameFile → Splitting → Shelf → Shelf
    → Said → Outcome → Type 0
Splits Answers locks tells p old new s o = EndsLate (ToldApart
    (SplitsAt Answers (locks (path_within p.folder.now (codes "trunk"))) tells p.states p.filled p.folder.now old new
    s.held s.new_held)) o

-- `bb settle`
abbrev pub Settles : {K : Type 0} → (Packed → Recorded → Type 0) → Locking K → SameFile → LedgerSettling → Shelf → Shelf
    → Said → Result Outcome Ended → Type 0
Settles Answers locks tells p old new s (Ok o) = (o ≡ Accepted)
    × SettlesAt Answers (locks p.file.path.now) tells p.file.path.now old new s.held s.new_held (Ok tt)
Settles Answers locks tells p old new s (Err e) =
    SettlesAt Answers (locks p.file.path.now) tells p.file.path.now old new s.held s.new_held (Err e)
    ⊎ (WantsRoom s (Err e) × (new ≡ old))

-- `bb join`
abbrev pub JoinsRead : Joining → Input → Said → Outcome → Type 0
JoinsRead j i s o = (ended : Result Outcome Ended) × (warned : Option (List ℕ))
    × JoinsStream (IsText (form_of j.json)) i.read i.new_read s.held s.new_held s.faults warned ended
    × EndsTold ended warned s.new_faults o

-- of a folder: no ledger is written, or this one
abbrev pub JoinsInto : {K : Type 0} → Locking K → SameFile → Joining → Shelf → Shelf → Said → Option (List ℕ)
    → Option (List ℕ) → Option (Bor (List ℕ)) → Outcome → Type 0
JoinsInto locks tells j old new s lines new_lines None o = (ended : Result Outcome Ended) × (warned : Option (List ℕ))
    × JoinsAt (IsText (form_of j.json)) j.folder.now old new s.held s.new_held lines warned ended
    × EndsTold ended warned new_lines o
JoinsInto locks tells j old new s lines new_lines (Some out) o = (ended : Result Outcome Ended)
    × (warned : Option (List ℕ))
    × CollectsAt (IsText (form_of j.json)) (locks out.now) tells j.folder.now out.now old new s.held s.new_held lines
    warned ended
    × EndsTold ended warned new_lines o

abbrev pub JoinsFolder : {K : Type 0} → Locking K → SameFile → Joining → Shelf → Shelf → Said → Outcome → Type 0
JoinsFolder locks tells j old new s o = (lines new_lines : Option (List ℕ))
    × JoinsInto locks tells j old new s lines new_lines j.out o

abbrev pub JoinsAsked : {K : Type 0} → Locking K → SameFile → Joining → Shelf → Shelf → Input → Said → Outcome → Type 0
JoinsAsked locks tells j old new i s o =
    ByPath j.folder.now (JoinsRead j i s o × IsKept old new) (JoinsFolder locks tells j old new s o)

-- `bb look`
abbrev pub LooksUp : Shelf → Looking → Bool → Input → Said → Result Outcome Ended → Type 0
LooksUp shelf l true i s ended = IfOk ended (PrintsAt
    (finds_at shelf) l.path.now s.held s.new_held s.faults s.new_faults)
LooksUp shelf l false i s (Ok o) = AnswersLines (finds_at shelf) l.path.now i.read i.new_read s.held s.new_held o
LooksUp shelf l false i s (Err e) =
    WritesFirst (AnswersFirstBy (finds_at shelf) l.path.now i.read i.new_read) s.held s.new_held e

-- `bb page`.

-- what is behind the last slash of a path, or all of it where there is none
abbrev pub IsBehindSlash : List ℕ → List ℕ → Type 0
IsBehindSlash path name = (RFindsChar 47 path None × (name ≡ path))
    ⊎ ((folder : List ℕ) × SplitsAroundMatch (RFindsChar 47) path folder name)

-- a path without the slash that it ends in, if it does
abbrev pub IsWithoutSlash : List ℕ → List ℕ → Type 0
IsWithoutSlash path plain =
    (((front : List ℕ) → path ≡ front ++ codes "/" → ⊥) × (plain ≡ path)) ⊎ (path ≡ plain ++ codes "/")

-- the name of what stands at a path, which may end in a slash
abbrev pub IsNameAt : List ℕ → List ℕ → Type 0
IsNameAt path name = (plain : List ℕ) × IsWithoutSlash path plain × IsBehindSlash plain name

-- the title that is asked for, or else this
abbrev pub IsTitle : Option (Bor (List ℕ)) → List ℕ → List ℕ → Type 0
IsTitle None otherwise title = title ≡ otherwise
IsTitle (Some asked) otherwise title = title ≡ asked.now

-- the page of a ledger that may be read so, made by a version of the program; where that ends early, nothing is said, unless
-- a stream failed
abbrev pub PagesLedger : List ℕ → Readings → List ℕ → Option (List ℕ) → Option (List ℕ) → Result Outcome Ended → Type 0
PagesLedger version Reads title held new_held (Ok o) =
    (program : Option (List ℕ)) × (text : List ℕ) × (left : Left) × Reads text
    × WritesLedger (IsPage (ledger_heading title version program (sha256 text))) text o left held new_held
PagesLedger version Reads title held new_held (Err e) = (e ≡ Stream) ⊎ (new_held ≡ held)

-- of the file at a path, as it was opened
abbrev pub PagesFile : List ℕ → Shelf → List ℕ → List ℕ → Said → Result Outcome Ended → Type 0
PagesFile version shelf path title s ended = (has : Option (List ℕ)) × (len : ℕ) × IsOpenedOn (shelf path) has len
    × PagesLedger version (AreFirstBytes has len) title s.held s.new_held ended

-- of the folder at a path
abbrev pub PagesFolder : List ℕ → Shelf → List ℕ → List ℕ → Said → Result Outcome Ended → Type 0
PagesFolder version shelf path title s (Ok o) = (program : Option (List ℕ))
    × TellsFolder title version program (finds_at shelf) path s.held s.new_held s.faults s.new_faults o
PagesFolder version shelf path title s (Err e) = PrintsNothing e s.held s.new_held

-- of what stands at a path, if it can be opened
abbrev pub PagesAt : List ℕ → Shelf → List ℕ → List ℕ → Said → Result Outcome Ended → Type 0
PagesAt version shelf path title s ended = PagesFile version shelf path title s ended
    ⊎ (PagesFolder version shelf path title s ended ⊎ ((e : Ended) × (ended ≡ Err e) × (s.new_held ≡ s.held)))

-- of records, a line each
abbrev pub PagesRecords : List ℕ → List ℕ → Input → Said → Result Outcome Ended → Type 0
PagesRecords version title i s (Ok o) = (program : Option (List ℕ))
    × WritesRecords (records_heading title version program) i.read i.new_read s.held s.new_held o
PagesRecords version title i s (Err e) = (e ≡ NoMemory) ⊎ (e ≡ Stream)

-- of records on standard input, by the title that is asked for
abbrev pub PagesInput : Paging → Input → Said → Result Outcome Ended → Type 0
PagesInput p i s ended =
    (title : List ℕ) × IsTitle p.title (codes "Records") title × PagesRecords VERSION.now title i s ended

-- of a ledger on standard input
abbrev pub PagesStream : Paging → Input → Said → Result Outcome Ended → Type 0
PagesStream p i s ended = (title : List ℕ) × IsTitle p.title (codes "standard input") title
    × PagesLedger VERSION.now (AreFirstBytes i.read (2 ^ 64 - 1)) title s.held s.new_held ended

-- of what stands at a path, by its name
abbrev pub PagesPath : Shelf → Paging → List ℕ → Said → Result Outcome Ended → Type 0
PagesPath shelf p path s ended = (name title : List ℕ) × IsNameAt path name × IsTitle p.title name title
    × PagesAt VERSION.now shelf path title s ended

abbrev pub PagesRead : Shelf → Paging → List ℕ → Input → Said → Result Outcome Ended → Type 0
PagesRead shelf p path i s ended = ByPath path (PagesStream p i s ended) (PagesPath shelf p path s ended)

-- by this version of the program: of records, or of the ledger that is asked for
abbrev pub PagesOf : Option (Bor (List ℕ)) → Shelf → Paging → Input → Said → Result Outcome Ended → Type 0
PagesOf None shelf p i s ended = PagesInput p i s ended
PagesOf (Some path) shelf p i s ended = PagesRead shelf p path.now i s ended

abbrev pub Pages : Shelf → Paging → Input → Said → Result Outcome Ended → Type 0
Pages shelf p i s ended = PagesOf p.ledger shelf p i s ended
