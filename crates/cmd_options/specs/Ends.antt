-- What ends a command by an error of the system, and what is said of that.
use Rattle.std.specs.Prelude.{◌≡◌, ◌≢◌, ◌⊎◌, List, [], ◌++◌, ℕ, Option, Result, Ok, Err}
use Rattle.std.specs.Io.KnownBytes.{Appends}
use Rattle.std.specs.IoError.{error_kind}
use Rattle.std.specs.declared.io.Error.{Error}
use Rattle.std.specs.declared.io.ErrorKind.{ErrorKind}
use Rattle.std.specs.declared.io.ErrorKind.TheVariants.{OutOfMemory}
use Rattle.cmd_options.specs.Outcome.{ended_text, outcome_of}
use Rattle.cmd_options.specs.declared.ended.Outcome.{Outcome}
use Rattle.cmd_options.specs.declared.ended.Outcome.TheVariants.{Failed as HasFailed}
use Rattle.cmd_options.specs.declared.ended.Ended.{Ended}
use Rattle.cmd_options.specs.declared.ended.Ended.TheVariants.{NoMemory, Stream}
use Rattle.cmd_options.specs.declared.ended.Stopped.{Stopped}
use Rattle.cmd_options.specs.declared.ended.Stopped.TheVariants.{Failed, Ended as EndedBy}

-- refused memory, where that is its kind; else what it is said to be
abbrev pub end_of_kind : ErrorKind → Ended → Ended
end_of_kind OutOfMemory e = NoMemory
end_of_kind _ e = e

unfoldable pub end_by : Error → Ended → Ended
end_by fault e = end_of_kind (error_kind fault) e

-- of what stopped a reader: a read that failed is said to be this, where memory wasn't refused for it
abbrev pub end_when : Stopped → Ended → Ended
end_when (Failed fault) e = end_by fault e
end_when (EndedBy other) e = other

-- bytes of which some, from a place on, aren't written, for the stream failed
abbrev pub IsCutShort : List ℕ → Option (List ℕ) → Option (List ℕ) → Type 0
IsCutShort bytes said new_said = (written : List ℕ) × (unwritten : List ℕ) × (unwritten ≢ [])
    × (bytes ≡ written ++ unwritten) × Appends said new_said written

-- what ended a command early is said, on a line, and the command ends by it; where that can't be said, a stream has failed
abbrev pub IsTold : Ended → Option (List ℕ) → Option (List ℕ) → Outcome → Type 0
IsTold e said new_said outcome = ((outcome ≡ outcome_of e) × Appends said new_said (ended_text e))
    ⊎ ((outcome ≡ HasFailed) × IsCutShort (ended_text e) said new_said)

-- how a command ends; what ended it early is told
abbrev pub EndsTold : Result Outcome Ended → Option (List ℕ) → Option (List ℕ) → Outcome → Type 0
EndsTold (Ok o) said new_said outcome = (outcome ≡ o) × (new_said ≡ said)
EndsTold (Err e) said new_said outcome = IsTold e said new_said outcome

-- a command that this ended early has printed nothing, unless a stream failed
abbrev pub PrintsNothing : Ended → Option (List ℕ) → Option (List ℕ) → Type 0
PrintsNothing e said new_said = (new_said ≡ said) ⊎ (e ≡ Stream)
