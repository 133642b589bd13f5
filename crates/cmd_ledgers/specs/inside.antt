-- For the code: the first bytes of a ledger, and what a line does to a board that is mended.
use Rattle.std.specs.Prelude.{◌≡◌, ℕ, ◌≤◌, ◌⊎◌, List, Option, length, ◌+◌, Result, Ok, Err}
use Rattle.std.specs.Io.KnownBytes.{Consumes, IsAtEnd}
use Rattle.text.specs.Terms.{HasNoNewline, BoundedLine}
use Rattle.ledger.specs.Terms.{header_byte_limit, OfferGives}
use Rattle.machine_text.specs.Terms.{Packed}
use Rattle.cert.specs.Terms.{Recorded}
use Rattle.cert.specs.declared.record.RecordFault.{RecordFault}
use Rattle.ledger.specs.declared.faults.Taken.{Taken}
use Rattle.ledger.specs.declared.faults.Taken.TheVariants.{New, Known, Settled}
use Rattle.ledger.specs.declared.faults.OfferFault.{OfferFault}
use Rattle.ledger.specs.declared.faults.OfferFault.TheVariants.{NoMemory}
use Rattle.cmd_lines.specs.Terms.{AreLines, read_line}
use Rattle.cmd_ledgers.specs.Merge.{AreMended}
use Rattle.cmd_ledgers.specs.declared.mend.Mender.{Mender}

-- For the code: the first bytes of a ledger that is read, by which its root is known.

-- first bytes were read: all that there are up to the limit, or a newline among them, or more than a header has
pub record BeginsReading (old new : Option (List ℕ)) (limit : ℕ) (first : List ℕ) : Type 0 where
  pub consumed : Consumes old new first
  pub within : length first ≤ limit
  pub enough : ((length first ≡ limit) ⊎ IsAtEnd new) ⊎ ((HasNoNewline first → ⊥) ⊎ (header_byte_limit ≤ length first))

-- For the code: what a line does to a board and to the number of lines that it didn't take.

-- how many lines are dropped by an answer that isn't refused memory
abbrev pub dropped_by : Result Taken OfferFault → ℕ
dropped_by (Ok New) = 0
dropped_by (Ok Settled) = 0
dropped_by (Ok Known) = 1
dropped_by (Err fault) = 1

abbrev pub IsAnswer : Result Taken OfferFault → Type 0
IsAnswer (Err NoMemory) = ⊥
IsAnswer answer = Unit {0}

abbrev pub ReadMends : Mender → Result Recorded RecordFault → Mender → Type 0
ReadMends old (Err fault) new = (new.board ≡ old.board) × (new.dropped ≡ 1 + old.dropped)
ReadMends old (Ok r) new =
    (answer : Result Taken OfferFault) × IsAnswer answer
    × OfferGives old.board.root old.board.records r answer new.board.records
    × (new.board.root ≡ old.board.root) × (new.dropped ≡ dropped_by answer + old.dropped)

abbrev pub LineMends : Mender → BoundedLine → Mender → Type 0
LineMends old line new = ReadMends old (read_line line) new

-- what stands behind a header is mended
abbrev pub MendsBehind : Packed → List ℕ → List Recorded → ℕ → Type 0
MendsBehind root text rs dropped = (lines : List (List ℕ)) × AreLines text lines × AreMended root lines rs dropped
