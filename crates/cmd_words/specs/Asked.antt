-- What the words of a command line ask for, by what clap gives of each option, and how one ends that asks for nothing.
use Rattle.std.specs.Prelude.{◌≡◌, ◌⊎◌, ◌==◌, ◌&&◌, ◌*◌, ◌^◌, ℕ, Bool, true, false, not, if◌then◌else◌, List, [], ◌∷◌, ◌++◌, filter, Option, Some, None, codes, cond, option_map, unwrap_or, ⊤, map}
use Rattle.std.specs.Str.Parse.{AllDigits, IsNumeral as IsDigits, digits_value, digits_value_after, without_leading_plus}
use Rattle.std.specs.Borrow.{Bor}
use Rattle.clap.specs.Words.{Row, first_of, found_of, one_of, rows_of, kind_of, App, all_of, is_simple, subcommand_of}
use Rattle.clap.specs.declared.parser.matches.ArgMatches.{ArgMatches}
use Rattle.cmd_options.specs.declared.writing.LedgerFile.{LedgerFile}
use Rattle.cmd_options.specs.declared.writing.Durability.TheVariants.{Disk, System}
use Rattle.clap.specs.declared.error.Error.{Error}
use Rattle.clap.specs.declared.error.kind.ErrorKind.TheVariants.{DisplayHelp, DisplayVersion}
use Rattle.cmd_options.specs.declared.ended.Outcome.{Outcome}
use Rattle.cmd_options.specs.declared.ended.Outcome.TheVariants.{Accepted, BadLine, NoMemory, Failed}
use Rattle.cmd_words.specs.declared.line_fault.LineFault.{LineFault}
use Rattle.cmd_words.specs.declared.line_fault.LineFault.TheVariants.{Refused, PathForNumber, NoNumber, FileForInput, FileForLine, Unquoted, TwoSources, LedgerOfStream, OpenToAll, NoTree, SyncOfNothing, NotText, NoSuchCommand, OutOfRange, KnownFromInput, OutputToDash, NoMemory as WantsMemory}
use Rattle.cmd_options.specs.declared.options.Options.{Options}
use Rattle.cmd_options.specs.declared.options.Options.TheVariants.{Check, Decide, Explain, Show, Tables, Coord, CoordPart, Work, Run, Loop, Retry, Merge, Carry, Mend, Split, Settle, Walk, Join, Look, Draw, Page, Report}
use Rattle.cmd_options.specs.declared.options.Drawing.{Drawing}
use Rattle.cmd_options.specs.declared.options.Beginning.{Beginning}
use Rattle.cmd_options.specs.declared.options.Listening.{Listening}
use Rattle.cmd_options.specs.declared.options.PartCoordinating.{PartCoordinating}
use Rattle.cmd_options.specs.declared.options.Saving.{Saving}
use Rattle.cmd_options.specs.declared.options.Search.{Search}
use Rattle.cmd_options.specs.declared.options.Settling.{Settling}
use Rattle.cmd_options.specs.declared.options.Walking.{Walking}
use Rattle.cmd_options.specs.declared.options.Working.{Working}
use Rattle.cmd_words.specs.declared.words.Source.{Source}
use Rattle.cmd_words.specs.declared.words.Source.TheVariants.{Standard, File, Lines}

-- The words that are numbers: 1000000, 1_000_000 and 1e6.

-- the digits of a text, behind a plus or none, are this number
abbrev pub IsDecimal : List ℕ → ℕ → Type 0
IsDecimal text n = IsDigits 10 (without_leading_plus text) × (n ≡ digits_value 10 (without_leading_plus text))

-- a text without each `_`
abbrev pub ungrouped : List ℕ → List ℕ
ungrouped = filter (λ byte. not (byte == 95))

-- each `_` of a text stands between two digits; before the text stands a digit, or none
unfoldable pub are_between : Bool → List ℕ → Bool
are_between after_digit [] = after_digit
are_between after_digit (byte ∷ rest) =
    if byte == 95 then after_digit && are_between false rest else are_between true rest

-- with what was read before it, the number is this one
abbrev pub ReadsOn : ℕ → Bool → List ℕ → ℕ → Type 0
ReadsOn number after_digit text n =
    (are_between after_digit text ≡ true) × AllDigits 10 (ungrouped text)
    × (n ≡ digits_value_after 10 number (ungrouped text))

-- digits, with a `_` between some of them
abbrev pub IsGrouped : List ℕ → ℕ → Type 0
IsGrouped text n = (are_between false text ≡ true) × AllDigits 10 (ungrouped text)
    × (n ≡ digits_value 10 (ungrouped text))

-- digits, an `e` and digits
abbrev pub IsScaled : List ℕ → ℕ → Type 0
IsScaled text n =
    (front : List ℕ) × (back : List ℕ) × (text ≡ front ++ 101 ∷ back)
    × (a : ℕ) × IsDecimal front a × (e : ℕ) × IsDecimal back e × (n ≡ a * 10 ^ e)

abbrev pub IsNumeral : List ℕ → ℕ → Type 0
IsNumeral text n = IsDecimal text n ⊎ IsGrouped text n ⊎ IsScaled text n

-- What clap's matches give of an option or an argument, by its name.

-- what was found for each argument and option of a command
abbrev pub rows_found : ArgMatches → List Row
rows_found matches = rows_of (found_of matches)

-- a number of states in an argument that may be a path
abbrev pub IsStates : List Row → List ℕ → ℕ → Type 0
IsStates rows name n = (word : List ℕ) × (first_of name rows ≡ Some word) × IsDecimal word n

abbrev pub IsNumber : List Row → List ℕ → ℕ → Type 0
IsNumber rows name n = (text : List ℕ) × (first_of name rows ≡ Some text) × IsNumeral text n

-- of a number that may be left out
abbrev pub IsNumberIf : List Row → List ℕ → Option ℕ → Type 0
IsNumberIf rows name None = first_of name rows ≡ None
IsNumberIf rows name (Some n) = IsNumber rows name n

-- and of one that is this where it is left out
abbrev pub IsNumberOr : List Row → List ℕ → ℕ → ℕ → Type 0
IsNumberOr rows name other n = (given : Option ℕ) × IsNumberIf rows name given × (n ≡ unwrap_or given other)

abbrev pub IsTextIf : List Row → List ℕ → Option (Bor (List ℕ)) → Type 0
IsTextIf rows name given = option_map (λ text. text.now) given ≡ first_of name rows

-- of a text that has to be given
abbrev pub IsArgument : List Row → List ℕ → Bor (List ℕ) → Type 0
IsArgument rows name given = given.now ≡ unwrap_or (first_of name rows) []

pub record IsFlag (rows : List Row) (name : List ℕ) (given : Bool) : Type 0 where
  pub none : one_of name rows ≡ None → given ≡ false
  pub yes : one_of name rows ≡ Some (codes "true") → given ≡ true
  pub no : one_of name rows ≡ Some (codes "false") → given ≡ false

-- a ledger that is written at a path: on the disk, where that is asked for
pub record IsWrittenAt (rows : List Row) (at : Option (List ℕ)) (file : LedgerFile) : Type 0 where
  pub path : Some file.path.now ≡ at
  pub sync : Bool
  pub is_sync : IsFlag rows (codes "sync") sync
  pub durability : file.durability ≡ cond sync Disk System

-- the ledger of `--ledger`, where one is named
abbrev pub IsLedger : List Row → Option LedgerFile → Type 0
IsLedger rows None = first_of (codes "ledger") rows ≡ None
IsLedger rows (Some file) = IsWrittenAt rows (first_of (codes "ledger") rows) file

-- How a command line ends that asks for nothing.

-- memory was refused, or a stream failed when the fault was to be said
abbrev pub EndsGravely : Outcome → Type 0
EndsGravely o = (o ≡ NoMemory) ⊎ (o ≡ Failed)

-- what clap refuses because help or the version is asked for
abbrev pub IsAskedFor : Error → Type 0
IsAskedFor told = (kind_of told ≡ DisplayHelp) ⊎ (kind_of told ≡ DisplayVersion)

-- a wrong line ends as one; help and the version are answered
abbrev pub EndsUnread : LineFault → Outcome → Type 0
EndsUnread (Refused told) o = (IsAskedFor told × (o ≡ Accepted)) ⊎ ((IsAskedFor told → ⊥) × (o ≡ BadLine))
    ⊎ EndsGravely o
EndsUnread (PathForNumber text) o = (o ≡ BadLine) ⊎ EndsGravely o
EndsUnread (NoNumber text) o = (o ≡ BadLine) ⊎ EndsGravely o
EndsUnread (FileForInput told) o = (o ≡ BadLine) ⊎ EndsGravely o
EndsUnread FileForLine o = (o ≡ BadLine) ⊎ EndsGravely o
EndsUnread Unquoted o = (o ≡ BadLine) ⊎ EndsGravely o
EndsUnread TwoSources o = (o ≡ BadLine) ⊎ EndsGravely o
EndsUnread LedgerOfStream o = (o ≡ BadLine) ⊎ EndsGravely o
EndsUnread OpenToAll o = (o ≡ BadLine) ⊎ EndsGravely o
EndsUnread NoTree o = (o ≡ BadLine) ⊎ EndsGravely o
EndsUnread SyncOfNothing o = (o ≡ BadLine) ⊎ EndsGravely o
EndsUnread NotText o = (o ≡ BadLine) ⊎ EndsGravely o
EndsUnread NoSuchCommand o = (o ≡ BadLine) ⊎ EndsGravely o
EndsUnread (OutOfRange number) o = (o ≡ BadLine) ⊎ EndsGravely o
EndsUnread KnownFromInput o = (o ≡ BadLine) ⊎ EndsGravely o
EndsUnread OutputToDash o = (o ≡ BadLine) ⊎ EndsGravely o
EndsUnread WantsMemory o = EndsGravely o

-- What the words of a command line ask for: of each command, each option is what clap's matches give under its name.
pub record AsksSearch (rows : List Row) (s : Search) : Type 0 where
  pub known : IsTextIf rows (codes "known") s.known
  pub steps : IsNumber rows (codes "steps") s.steps
  pub depth : IsNumber rows (codes "depth") s.depth
  pub gram : IsNumber rows (codes "gram") s.gram
  pub far : IsNumber rows (codes "far") s.far
  pub words : IsNumber rows (codes "words") s.words
  pub count : IsNumber rows (codes "count") s.count
  pub rules : IsNumber rows (codes "rules") s.rules
  pub hard : IsFlag rows (codes "hard") s.hard
  pub long_run : IsNumberOr rows (codes "long-run") 100000000 s.long_run

-- except for the frames that are lost
pub record AsksSettling (rows : List Row) (s : Settling) : Type 0 where
  pub states : IsNumber rows (codes "N") s.states
  pub workers : IsNumber rows (codes "workers") s.workers
  pub rounds : IsNumber rows (codes "rounds") s.rounds
  pub search : AsksSearch rows s.search
  pub json : IsFlag rows (codes "json") s.json
  pub progress : IsFlag rows (codes "progress") s.progress

-- where it listens, if it does
pub record AsksListening (rows : List Row) (l : Listening) : Type 0 where
  pub address : IsTextIf rows (codes "listen") (Some l.address)
  pub token : IsTextIf rows (codes "token") l.token
  pub per_address : IsNumber rows (codes "per-address") l.per_address
  pub accept_holdouts : IsFlag rows (codes "accept-holdouts") l.accept_holdouts
  pub json : IsFlag rows (codes "json") l.json
  pub progress : IsFlag rows (codes "progress") l.progress

abbrev pub AsksListeningIf : List Row → Option Listening → Type 0
AsksListeningIf rows None = IsTextIf rows (codes "listen") None
AsksListeningIf rows (Some listening) = AsksListening rows listening

-- a whole tree: the argument is a number of states
pub record AsksCoord (rows : List Row) (b : Beginning) (kept : Option LedgerFile)
    (listens : Option Listening) : Type 0 where
  pub states : IsStates rows (codes "N|FILE") b.states
  pub era : IsNumber rows (codes "era") b.era
  pub ledger : IsLedger rows kept
  pub listening : AsksListeningIf rows listens

-- a part: the argument is the path of its ledger
pub record AsksCoordPart (rows : List Row) (c : PartCoordinating) : Type 0 where
  pub file : IsWrittenAt rows (first_of (codes "N|FILE") rows) c.file
  pub era : IsNumber rows (codes "era") c.era
  pub listening : AsksListening rows c.listening

pub record AsksWork (rows : List Row) (w : Working) : Type 0 where
  pub connect : IsTextIf rows (codes "connect") w.connect
  pub token : IsTextIf rows (codes "token") w.token
  pub tries : IsNumber rows (codes "tries") w.tries
  pub first_id : IsNumberIf rows (codes "id") w.first_id
  pub workers : IsNumber rows (codes "ids") w.workers
  pub ledger : IsLedger rows w.ledger
  pub search : AsksSearch rows w.search

-- where dear records are saved, if they are
abbrev pub AsksSaving : List Row → Option Saving → Type 0
AsksSaving rows None = IsTextIf rows (codes "save") None
AsksSaving rows (Some saving) = IsTextIf rows (codes "save") (Some saving.path) × IsNumber rows (codes "dear") saving.dear

pub record AsksWalk (rows : List Row) (w : Walking) : Type 0 where
  pub states : IsNumber rows (codes "N") w.states
  pub root : IsTextIf rows (codes "root") w.root
  pub saving : AsksSaving rows w.saving
  pub search : AsksSearch rows w.search
  pub json : IsFlag rows (codes "json") w.json
  pub progress : IsFlag rows (codes "progress") w.progress

pub record AsksDraw (given : List Row) (d : Drawing) : Type 0 where
  pub from : IsNumber given (codes "from") d.from
  pub steps : IsNumberIf given (codes "steps") d.steps
  pub rows : IsNumber given (codes "rows") d.rows
  pub width : IsNumber given (codes "width") d.width
  pub columns : IsNumber given (codes "columns") d.columns
  pub square : IsNumber given (codes "square") d.square
  pub height : IsNumberIf given (codes "height") d.height
  pub out : IsTextIf given (codes "out") d.out
  pub replace : IsFlag given (codes "replace") d.replace

-- the ledger that has to be named
abbrev pub AsksFile : List Row → LedgerFile → Type 0
AsksFile rows file = IsWrittenAt rows (Some (unwrap_or (first_of (codes "FILE") rows) [])) file

-- how a ledger is made of others
abbrev pub AsksMaking : List Row → Bool → Bool → Type 0
AsksMaking rows replace progress = IsFlag rows (codes "replace") replace × IsFlag rows (codes "progress") progress

-- the command of this name, with these matches, asks for that
abbrev pub AsksFor : List ℕ → List Row → Options → Type 0
AsksFor name rows (Check c) =
    (name ≡ codes "check") × IsFlag rows (codes "json") c.json × IsFlag rows (codes "why") c.why
AsksFor name rows (Decide d) =
    (name ≡ codes "decide") × AsksSearch rows d.search × IsFlag rows (codes "json") d.json
    × IsFlag rows (codes "keep") d.keep × IsNumberIf rows (codes "run") d.run
    × IsFlag rows (codes "progress") d.progress
AsksFor name rows (Explain e) =
    (name ≡ codes "explain") × IsFlag rows (codes "json") e.json × IsFlag rows (codes "dot") e.dot
    × IsNumberIf rows (codes "run") e.run
AsksFor name rows (Show s) =
    (name ≡ codes "show") × IsNumber rows (codes "from") s.from × IsNumber rows (codes "steps") s.steps
    × IsNumber rows (codes "every") s.every × IsFlag rows (codes "fold") s.fold
    × IsFlag rows (codes "align") s.align
AsksFor name rows (Tables l) =
    (name ≡ codes "tables") × IsFlag rows (codes "normal") l.normal × IsNumber rows (codes "steps") l.steps
    × IsFlag rows (codes "records") l.records
AsksFor name rows (Coord beginning ledger listening) = (name ≡ codes "coord") × AsksCoord rows beginning ledger listening
AsksFor name rows (CoordPart coordinating) = (name ≡ codes "coord") × AsksCoordPart rows coordinating
AsksFor name rows (Work working) = (name ≡ codes "work") × AsksWork rows working
AsksFor name rows (Run settling ledger) =
    (name ≡ codes "run") × AsksSettling rows settling × IsNumberIf rows (codes "lose") settling.lose
    × IsLedger rows ledger
AsksFor name rows (Loop settling ledger) =
    (name ≡ codes "loop") × AsksSettling rows settling × (settling.lose ≡ None) × IsLedger rows ledger
AsksFor name rows (Walk walking) = (name ≡ codes "walk") × AsksWalk rows walking
AsksFor name rows (Retry r) =
    (name ≡ codes "retry") × AsksFile rows r.file × AsksSearch rows r.search
    × IsFlag rows (codes "progress") r.progress
AsksFor name rows (Settle s) =
    (name ≡ codes "settle") × AsksFile rows s.file × AsksSearch rows s.search
    × IsFlag rows (codes "progress") s.progress
AsksFor name rows (Merge m) =
    (name ≡ codes "merge") × IsArgument rows (codes "A") m.first × IsArgument rows (codes "B") m.second
    × IsArgument rows (codes "OUT") m.out × AsksMaking rows m.replace m.progress
AsksFor name rows (Carry c) =
    (name ≡ codes "carry") × IsArgument rows (codes "IN") c.ledger × IsArgument rows (codes "OUT") c.out
    × AsksMaking rows c.replace c.progress
AsksFor name rows (Mend m) =
    (name ≡ codes "mend") × IsArgument rows (codes "IN") m.ledger × IsArgument rows (codes "OUT") m.out
    × AsksMaking rows m.replace m.progress
AsksFor name rows (Split s) =
    (name ≡ codes "split") × IsNumber rows (codes "N") s.states × IsArgument rows (codes "DIR") s.folder
    × IsNumber rows (codes "filled") s.filled × AsksSearch rows s.search
    × IsFlag rows (codes "progress") s.progress
AsksFor name rows (Join j) =
    (name ≡ codes "join") × IsArgument rows (codes "DIR") j.folder × IsTextIf rows (codes "ledger") j.out
    × IsFlag rows (codes "replace") j.replace × IsFlag rows (codes "json") j.json × IsFlag rows (codes "progress") j.progress
AsksFor name rows (Look l) =
    (name ≡ codes "look") × IsArgument rows (codes "PATH") l.path × IsFlag rows (codes "holdouts") l.holdouts
    × IsFlag rows (codes "progress") l.progress
AsksFor name rows (Draw drawing) = (name ≡ codes "draw") × AsksDraw rows drawing
AsksFor name rows (Page p) =
    (name ≡ codes "page") × IsTextIf rows (codes "FILE") p.ledger × IsTextIf rows (codes "title") p.title
    × IsFlag rows (codes "progress") p.progress
AsksFor name rows (Report r) =
    (name ≡ codes "report") × IsArgument rows (codes "FILE") r.file × IsFlag rows (codes "json") r.json
    × IsFlag rows (codes "why") r.why × IsFlag rows (codes "progress") r.progress

-- the command at which clap's parse stops asks for it
abbrev pub AreAsked : Option (List ℕ × List Row) → Options → Type 0
AreAsked None asked = ⊥
AreAsked (Some (name, rows)) asked = AsksFor name rows asked

-- so holds of the command at which clap's parse of the words stops, by some grammar. That this is the program's is tested
abbrev pub Parsed : List (List ℕ) → (Option (List ℕ × List Row) → Type 0) → Type 0
Parsed words holds = (app : App) × (is_simple app ≡ true → holds (subcommand_of app words))

-- the words of a command line ask for it
abbrev pub AskFor : List (List ℕ) → Options → Type 0
AskFor words asked = Parsed words (λ stop. AreAsked stop asked)

-- of the matches of that command, whichever it is
abbrev pub OfCommand : (List Row → Type 0) → Option (List ℕ × List Row) → Type 0
OfCommand holds None = ⊥
OfCommand holds (Some (name, rows)) = holds rows

-- the words of a command line give `--why`, or don't
abbrev pub AskWhy : List (List ℕ) → Bool → Type 0
AskWhy words why = Parsed words (OfCommand (λ rows. IsFlag rows (codes "why") why))

-- and `--lenient`
abbrev pub AskLenient : List (List ℕ) → Bool → Type 0
AskLenient words lenient = Parsed words (OfCommand (λ rows. IsFlag rows (codes "lenient") lenient))

-- a path, where it isn't the `-` of standard input
abbrev pub NamesNoFile : Option (List ℕ) → Type 0
NamesNoFile None = ⊤
NamesNoFile (Some path) = path ≡ codes "-"

-- where a command reads its lines: not two of the three at once
abbrev pub IsSource : List Row → Source → Type 0
IsSource rows Standard = NamesNoFile (first_of (codes "input") rows) × (all_of (codes "LINE") rows ≡ None)
IsSource rows (File path) =
    (first_of (codes "input") rows ≡ Some path.now) × ((path.now ≡ codes "-") → ⊥) × (all_of (codes "LINE") rows ≡ None)
IsSource rows (Lines lines) =
    (first_of (codes "input") rows ≡ None) × (all_of (codes "LINE") rows ≡ Some (map (λ line. line.now) lines.items))

-- the words of a command line give its lines, name their file behind `--input`, or do neither
abbrev pub AskSource : List (List ℕ) → Source → Type 0
AskSource words source = Parsed words (OfCommand (λ rows. IsSource rows source))
