-- What a node's answer says, and what holds of all answers.
use Rattle.std.specs.Prelude.{◌≡◌, ℕ, List, [], Option, Some, None, map, IsSome, Contains, option_map, Ok}
use Rattle.cert.specs.Terms.{Recorded}
use Rattle.ledger.specs.Terms.{ledger_line, Contents, mark_in, claim_in}
use Rattle.ledger.specs.declared.header.Format.{Format}
use Rattle.text.specs.Terms.{joined}
use Rattle.wire.specs.Terms.{frames_of, Message, Ack, message_of, Grant, Happening, Came, Ticked, Worked}
use Rattle.wire.specs.declared.node.Note.{Note}
use Rattle.wire.specs.declared.node.Note.TheVariants.{Refused}
use Rattle.wire.specs.declared.node.Out.{Out}
use Rattle.law_tree.specs.Terms.{IsComplete}
use Rattle.machine_text.specs.Terms.{Packed}
use Rattle.leases.specs.Terms.{Leased}

-- What a node's answer says.

-- the lines of records in a ledger of this version, each with its newline
abbrev pub lines_of : Format → List Recorded → List ℕ
lines_of format rs = joined (map (ledger_line format) rs)

-- the ledger is cut so and gains these bytes, these messages are sent, and this is noted
pub record Says (out : Out) (cut : Option ℕ) (appended : List ℕ) (sent : List Message) (note : Note) : Type 0 where
  pub cut_is : out.cut ≡ cut
  pub append_is : out.append.items ≡ appended
  pub frames_are : out.frames.items ≡ frames_of sent
  pub note_is : out.note ≡ note

-- a refusal is noted by its number, and nothing else is said; one that has no number isn't noted
abbrev pub NotesRefusal : Option ℕ → Out → Type 0
NotesRefusal None out = ⊥
NotesRefusal (Some number) out = Says out None [] [] (Refused number)

-- Complete is final: a complete board stays as it is.
abbrev pub IsCompleteBoard : Contents → Type 0
IsCompleteBoard b = IsComplete b.root (mark_in b.records)

-- a board that is complete before is there after, as it was
abbrev pub KeepsComplete : Option Contents → Option Contents → Type 0
KeepsComplete old new = (b : Contents) → old ≡ Some b → IsCompleteBoard b → new ≡ Some b

-- What holds of all answers of coordinators.

-- the table has a record on the board
abbrev pub HasRecordOn : Option Contents → Packed → Type 0
HasRecordOn None t = ⊥
HasRecordOn (Some b) t = IsSome (claim_in b.records t)

-- each table that is acknowledged, by whichever of the messages that are sent, has a record on the board
abbrev pub AcknowledgesRecorded : Out → Option Contents → Type 0
AcknowledgesRecorded out board =
    (sent : List Message) × (out.frames.items ≡ frames_of sent)
    × ((t : Packed) → Contains sent (Ack t) → HasRecordOn board t)

-- The board of a coordinator, which stays as it is once it is complete.
abbrev pub board_of : Option Leased → Option Contents
board_of held = option_map (λ h. h.board) held

-- What may end a complete board of a worker: a grant of another table.

-- a frame came that is a grant
abbrev pub IsGrant : Happening → Type 0
IsGrant (Came frame) = (era : ℕ) × (number : ℕ) × (t : Packed) × (message_of frame ≡ Ok (Grant era number t))
IsGrant (Ticked t) = ⊥
IsGrant Worked = ⊥
