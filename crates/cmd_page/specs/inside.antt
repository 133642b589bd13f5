-- For the code: numbers that are counted, and a ledger that is loaded and summed up.
use Rattle.std.specs.Prelude.{◌≡◌, ℕ, ◌<◌, List, ◌++◌, slice_index}
use Rattle.cert.specs.Terms.{Recorded}
use Rattle.ledger.specs.Terms.{IsFed, Loading}
use Rattle.sha2.specs.Hashers.{Holds256}
use Rattle.sha2.specs.declared.Sha256.{Sha256}
use Rattle.cmd_page.specs.Census.{halting_from, of_kind, with_entries}
use Rattle.cmd_page.specs.declared.census.Census.{Census}

-- what is counted of records
pub record IsCensus (rs : List Recorded) (census : Census) : Type 0 where
  pub kinds : (letter : ℕ) → letter < 256 → slice_index census.kinds letter ≡ of_kind rs letter
  pub entries : (k : ℕ) → k < 15 → slice_index census.entries k ≡ with_entries rs k
  pub steps : (k : ℕ) → k < 64 → slice_index census.steps k ≡ halting_from rs k

-- a loader and a hasher were fed a piece
pub record FeedsBoth (loader : Loading) (hasher : Sha256) (piece : List ℕ) (new : Loading) (new_hasher : Sha256)
    : Type 0 where
  pub fed : IsFed loader piece new
  pub summed : (text : List ℕ) → Holds256 hasher text → Holds256 new_hasher (text ++ piece)
