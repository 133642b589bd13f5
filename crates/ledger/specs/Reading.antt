-- A ledger's text that a loader is fed from a reader, no more than so many bytes of it.
use Rattle.std.specs.Prelude.{◌≡◌, ◌⊎◌, ℕ, ◌<◌, ◌≤◌, List, length, Option}
use Rattle.std.specs.Io.KnownBytes.{Consumes, IsAtEnd}
use Rattle.ledger.specs.Loading.{Loading, IsFed, IsStopped}
use Rattle.ledger.specs.declared.loading.FeedStop.{FeedStop}
use Rattle.ledger.specs.declared.loading.ReadStop.{ReadStop}
use Rattle.ledger.specs.declared.loading.ReadStop.TheVariants.{Failed, NoMemory}

-- the reader gave this text
pub record IsRead (read : Option (List ℕ)) (limit : ℕ) (text : List ℕ) (new_read : Option (List ℕ)) : Type 0 where
  pub consumed : Consumes read new_read text
  pub within : length text ≤ limit

-- and that is all: so many bytes, or all that the reader has
pub record IsAllRead (read : Option (List ℕ)) (limit : ℕ) (text : List ℕ) (new_read : Option (List ℕ)) : Type 0 where
  pub is_read : IsRead read limit text new_read
  pub whole : (length text ≡ limit) ⊎ IsAtEnd new_read

-- and there should have been more: fewer bytes than were asked for
pub record IsBrokenOff (read : Option (List ℕ)) (limit : ℕ) (text : List ℕ) (new_read : Option (List ℕ)) : Type 0 where
  pub is_read : IsRead read limit text new_read
  pub short : length text < limit

-- all is read, and fed
abbrev pub FeedsAll : Loading → Option (List ℕ) → ℕ → Loading → Option (List ℕ) → Type 0
FeedsAll old read limit new new_read = (text : List ℕ) × IsAllRead read limit text new_read × IsFed old text new

-- a read failed, behind what was fed; or memory was refused for what was read
abbrev pub StopsReading : Loading → Option (List ℕ) → ℕ → ReadStop → Loading → Option (List ℕ) → Type 0
StopsReading old read limit (Failed fault) new new_read = (text : List ℕ) × IsBrokenOff read limit text new_read
    × IsFed old text new
StopsReading old read limit NoMemory new new_read =
    (text : List ℕ) × (stop : FeedStop) × IsRead read limit text new_read × IsStopped old text stop new
