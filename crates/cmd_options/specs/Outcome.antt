-- The exit status of each way in which a command ends.
use Rattle.std.specs.Prelude.{ℕ, List, [], ◌∷◌, ◌++◌, codes}
use Rattle.cmd_options.specs.declared.ended.Outcome.{Outcome}
use Rattle.cmd_options.specs.declared.ended.Outcome.TheVariants.{Accepted, Refused, BadLine, NoMemory, Failed}
use Rattle.cmd_options.specs.declared.ended.Ended.{Ended}
use Rattle.cmd_options.specs.declared.ended.Ended.TheVariants.{BadHeader, WrongRoot, HasPart, OutInFolder, Stream, Ledger, File, Locked, NoMemory as WantsMemory}

abbrev pub status_of : Outcome → ℕ
status_of Accepted = 0
status_of Refused = 1
status_of BadLine = 2
status_of NoMemory = 3
status_of Failed = 4

-- how a command ends by what ends it early
abbrev pub outcome_of : Ended → Outcome
outcome_of BadHeader = Refused
outcome_of WrongRoot = Refused
outcome_of HasPart = Refused
outcome_of OutInFolder = Refused
outcome_of Stream = Failed
outcome_of Ledger = Failed
outcome_of File = Failed
outcome_of Locked = Failed
outcome_of WantsMemory = NoMemory

-- the line that says what ended it
abbrev pub ended_line : Ended → List ℕ
ended_line BadHeader = codes "refused 404"
ended_line WrongRoot = codes "refused 405"
ended_line HasPart = codes "refused 407: a table that would be decided in the trunk has a part"
ended_line OutInFolder = codes "refused 408: OUT is a ledger of the folder"
ended_line Stream = codes "refused 603"
ended_line Ledger = codes "refused 604"
ended_line File = codes "refused 605"
ended_line Locked = codes "refused 606: another process writes the ledger"
ended_line WantsMemory = codes "refused memory"

-- with its newline
abbrev pub ended_text : Ended → List ℕ
ended_text e = ended_line e ++ 10 ∷ []
