-- What nodes say to one another, the grammar of it, why a frame says nothing, and the refusal number of each fault.
use Rattle.std.specs.Prelude.{ℕ, ◌<◌, ◌^◌, Option, Some, None, List, codes, Result, Ok, Err, nat_lt, if◌then◌else◌, [], ◌∷◌, ◌++◌, length, flat_map, decimal}
use Rattle.std.specs.Str.{bytes_eq}
use Rattle.machine_text.specs.Terms.{Packed, IsTable, table_of, text_of}
use Rattle.cert.specs.Terms.{Recorded, IsWritable, IsMadeFor, recorded, record_of, record_text}
use Rattle.wire.specs.declared.messages.MsgFault.{MsgFault}
use Rattle.wire.specs.declared.messages.MsgFault.TheVariants.{BadMessage, TooLong}
use Rattle.wire.specs.declared.messages.Msg.{Msg}
use Rattle.wire.specs.declared.messages.Msg.TheVariants.{Ask as AskMsg, Grant as GrantMsg, Rec as RecMsg, Ack as AckMsg, Later as LaterMsg, Done as DoneMsg, Stop as StopMsg}
use Rattle.machine_text.specs.declared.grammar.TextFault.{TextFault}
use Rattle.cert.specs.declared.record.RecordFault.{RecordFault}
use Rattle.text.specs.Terms.{cut_at, decimal_value, line_byte_limit}
use Rattle.wire.specs.declared.node.Note.{Note}
use Rattle.wire.specs.declared.node.Note.TheVariants.{Quiet, Strange, Stale, Refused}
use Rattle.wire.specs.declared.node.NodeFault.{NodeFault}
use Rattle.wire.specs.declared.node.NodeFault.TheVariants.{Stopped, NoMemory as NoNodeMemory}
use Rattle.wire.specs.declared.handing.TurnFault.{TurnFault}
use Rattle.wire.specs.declared.handing.TurnFault.TheVariants.{LinkFault, LedgerFault, Node, NoMemory as NoTurnMemory}

-- What nodes say to one another, apart from how it is kept or written.

-- Ask: a worker, by its id, asks for a table; Grant: it gets one under a lease of a coordinator's era; Rec: a record
-- is handed in; Ack: the table's record is held now; Later: with a table, its record is to be kept, without one, no
-- table is free; Done: the leased table is worked off; Stop: nothing is left to do
pub data Message : Type 0 where
  Ask : ℕ → Message
  Grant : ℕ → ℕ → Packed → Message
  Rec : Recorded → Message
  Ack : Packed → Message
  Later : Option Packed → Message
  Done : ℕ → ℕ → Message
  Stop : Message

-- lists of a record are made for tables of as many states as its table has
abbrev pub IsMadeForItsTable : Message → Type 0
IsMadeForItsTable (Ask id) = Unit {0}
IsMadeForItsTable (Grant era lease table) = Unit {0}
IsMadeForItsTable (Rec r) = IsMadeFor r.claim r.table.states
IsMadeForItsTable (Ack table) = Unit {0}
IsMadeForItsTable (Later table) = Unit {0}
IsMadeForItsTable (Done era lease) = Unit {0}
IsMadeForItsTable Stop = Unit {0}

abbrev pub IsTableOrNone : Option Packed → Type 0
IsTableOrNone None = Unit {0}
IsTableOrNone (Some table) = IsTable table

-- an id has 32 bits and other numbers 64, tables are tables, and a record can be written
abbrev pub IsSendable : Message → Type 0
IsSendable (Ask id) = id < 2 ^ 32
IsSendable (Grant era lease table) = (era < 2 ^ 64) × (lease < 2 ^ 64) × IsTable table
IsSendable (Rec r) = IsTable r.table × IsWritable r.claim × IsMadeFor r.claim r.table.states
IsSendable (Ack table) = IsTable table
IsSendable (Later table) = IsTableOrNone table
IsSendable (Done era lease) = (era < 2 ^ 64) × (lease < 2 ^ 64)
IsSendable Stop = Unit {0}

-- The refusal number of each fault of a frame, and the sentence that says it.
abbrev pub message_fault_number : MsgFault → ℕ
message_fault_number BadMessage = 601
message_fault_number TooLong = 602

abbrev pub message_fault_text : MsgFault → List ℕ
message_fault_text BadMessage = codes "the frame is no message"
message_fault_text TooLong = codes "the frame is longer than 65536 bytes"

-- What the messages of the code say.
abbrev pub said : Msg → Message
said (AskMsg id) = Ask id
said (GrantMsg era lease table) = Grant era lease table
said (RecMsg r) = Rec (recorded r)
said (AckMsg table) = Ack table
said (LaterMsg table) = Later table
said (DoneMsg era lease) = Done era lease
said StopMsg = Stop

-- what a frame was read as, apart from how it is kept
abbrev pub decoded : Result Msg MsgFault → Result Message MsgFault
decoded (Ok m) = Ok (said m)
decoded (Err f) = Err f

-- The grammar of messages: a word, alone or with a text behind one space. Bytes are their ASCII codes: 32 is the space.
infixl 10 ◌>>=◌
-- what is made of a value that must be there
abbrev pub ◌>>=◌ : {A B : Type 0} → Option A → (A → Option B) → Option B
None >>= f = None
(Some x) >>= f = f x

abbrev pub read_table : Result Packed TextFault → Option Packed
read_table (Ok table) = Some table
read_table (Err f) = None

abbrev pub read_record : Result Recorded RecordFault → Option Recorded
read_record (Ok r) = Some r
read_record (Err f) = None

-- `id`, a number of 32 bits
abbrev pub ask_in : List ℕ → Option Message
ask_in text = decimal_value text >>= λ id. if nat_lt id (2 ^ 32) then Some (Ask id) else None

-- `era lease table`
abbrev pub grant_in : List ℕ → Option Message
grant_in text =
    cut_at 32 text >>= λ first. cut_at 32 first.1 >>= λ second.
    decimal_value first.0 >>= λ era. decimal_value second.0 >>= λ lease. read_table (table_of second.1) >>= λ table.
    Some (Grant era lease table)

abbrev pub rec_in : List ℕ → Option Message
rec_in text = read_record (record_of text) >>= λ r. Some (Rec r)

abbrev pub ack_in : List ℕ → Option Message
ack_in text = read_table (table_of text) >>= λ table. Some (Ack table)

abbrev pub later_in : List ℕ → Option Message
later_in text = read_table (table_of text) >>= λ table. Some (Later (Some table))

-- `era lease`
abbrev pub done_in : List ℕ → Option Message
done_in text = cut_at 32 text >>= λ cut. decimal_value cut.0 >>= λ era. decimal_value cut.1 >>= λ lease.
    Some (Done era lease)

-- a word with a text behind it
abbrev pub message_with : List ℕ → List ℕ → Option Message
message_with word text =
    if bytes_eq word (codes "ASK") then ask_in text
    else if bytes_eq word (codes "GRANT") then grant_in text
    else if bytes_eq word (codes "REC") then rec_in text
    else if bytes_eq word (codes "ACK") then ack_in text
    else if bytes_eq word (codes "LATER") then later_in text
    else if bytes_eq word (codes "DONE") then done_in text
    else None

-- a word alone
abbrev pub message_alone : List ℕ → Option Message
message_alone word =
    if bytes_eq word (codes "LATER") then Some (Later None)
    else if bytes_eq word (codes "STOP") then Some Stop
    else None

abbrev pub message_by : List ℕ → Option (List ℕ × List ℕ) → Option Message
message_by frame None = message_alone frame
message_by frame (Some cut) = message_with cut.0 cut.1

abbrev pub message_in : List ℕ → Option Message
message_in frame = message_by frame (cut_at 32 frame)

abbrev pub or_bad : Option Message → Result Message MsgFault
or_bad None = Err BadMessage
or_bad (Some m) = Ok m

-- what a frame is read as: its length is judged first
unfoldable pub message_of : List ℕ → Result Message MsgFault
message_of frame = if nat_lt line_byte_limit (length frame) then Err TooLong else or_bad (message_in frame)

-- the text of a message
unfoldable pub message_text : Message → List ℕ
message_text (Ask id) = codes "ASK " ++ decimal id
message_text (Grant era lease table) = codes "GRANT " ++ decimal era ++ codes " " ++ decimal lease ++ codes " "
    ++ text_of table
message_text (Rec r) = codes "REC " ++ record_text r
message_text (Ack table) = codes "ACK " ++ text_of table
message_text (Later None) = codes "LATER"
message_text (Later (Some table)) = codes "LATER " ++ text_of table
message_text (Done era lease) = codes "DONE " ++ decimal era ++ codes " " ++ decimal lease
message_text Stop = codes "STOP"

-- messages that are sent one after another, each with a newline
abbrev pub frames_of : List Message → List ℕ
frames_of ms = flat_map (λ m. message_text m ++ (10 ∷ [])) ms

-- The refusal number of each note and fault, where it has one, and the sentence that says a fault.
abbrev pub note_number : Note → Option ℕ
note_number Quiet = None
note_number Strange = Some 501
note_number Stale = None
note_number (Refused number) = Some number

abbrev pub node_fault_number : NodeFault → Option ℕ
node_fault_number Stopped = Some 502
node_fault_number NoNodeMemory = None

abbrev pub turn_fault_number : TurnFault → Option ℕ
turn_fault_number LinkFault = Some 603
turn_fault_number LedgerFault = Some 604
turn_fault_number (Node fault) = node_fault_number fault
turn_fault_number NoTurnMemory = None

abbrev pub node_fault_text : NodeFault → List ℕ
node_fault_text Stopped = codes "the node is stopped"
node_fault_text NoNodeMemory = codes "out of memory"

abbrev pub turn_fault_text : TurnFault → List ℕ
turn_fault_text LinkFault = codes "the link failed"
turn_fault_text LedgerFault = codes "the ledger failed"
turn_fault_text (Node fault) = node_fault_text fault
turn_fault_text NoTurnMemory = codes "out of memory"
