-- What frames are for, and what lines say by their letters.
use Rattle.std.specs.Prelude.{ℕ, Bool, true, false, Option, Some, None, ◌==◌, if◌then◌else◌, List, Result, Ok, Err, count_by, slice_get}
use Rattle.cert.specs.Terms.{Claim, HaltsClaim, NeverClaim, NoClaim}
use Rattle.wire.specs.Terms.{Message, Ask, Grant, Rec, Ack, Later, Done, Stop}
use Rattle.text.specs.Terms.{parts_of}
use Rattle.wire.specs.declared.messages.MsgFault.{MsgFault}
use Rattle.peers.specs.declared.hearing.Sent.{Sent}
use Rattle.peers.specs.declared.hearing.Sent.TheVariants.{Ask as AskSent, Record as RecordSent, Other as OtherSent}
use Rattle.peers.specs.declared.hearing.Heard.{Heard}
use Rattle.peers.specs.declared.hearing.Heard.TheVariants.{Answer, Receipt, Other}
use Rattle.peers.specs.declared.pool_core.Course.TheVariants.{Work, Later as LaterCourse, Stop as StopCourse}

-- What lines say by their letters, as messages say it.

-- the id of an `ASK`
abbrev pub asked_by : Message → Option ℕ
asked_by (Ask id) = Some id
asked_by (Grant era number table) = None
asked_by (Rec r) = None
asked_by (Ack table) = None
asked_by (Later table) = None
asked_by (Done era number) = None
asked_by Stop = None

-- whether it is the record of a holdout
abbrev pub is_no_claim : Claim → Bool
is_no_claim (HaltsClaim e) = false
is_no_claim (NeverClaim r) = false
is_no_claim NoClaim = true

abbrev pub gives_up : Message → Bool
gives_up (Ask id) = false
gives_up (Grant era number table) = false
gives_up (Rec r) = is_no_claim r.claim
gives_up (Ack table) = false
gives_up (Later table) = false
gives_up (Done era number) = false
gives_up Stop = false

-- What the frames of a stream between cores and their coordinator are for: which of those that are sent the coordinator
-- answers, and for whom those are that come.

-- a frame that is sent, by its first letter, `A` (65) or `R` (82): a core sends nothing but messages as they are printed, and of
-- these it sends `ASK`, `REC` and `DONE`
abbrev pub sent_by_letter : Option ℕ → Sent
sent_by_letter None = OtherSent
sent_by_letter (Some letter) = if letter == 65 then AskSent else if letter == 82 then RecordSent else OtherSent

abbrev pub sent_as : List ℕ → Sent
sent_as frame = sent_by_letter (slice_get frame 0)

abbrev pub is_ask_sent : Sent → Bool
is_ask_sent AskSent = true
is_ask_sent RecordSent = false
is_ask_sent OtherSent = false

abbrev pub is_record_sent : Sent → Bool
is_record_sent AskSent = false
is_record_sent RecordSent = true
is_record_sent OtherSent = false

abbrev pub is_ask : List ℕ → Bool
is_ask frame = is_ask_sent (sent_as frame)

abbrev pub is_record : List ℕ → Bool
is_record frame = is_record_sent (sent_as frame)

-- how many of some frames, each with its newline, are an `ASK`, and how many a `REC`
unfoldable pub asks_in : List ℕ → ℕ
asks_in frames = count_by is_ask (parts_of 10 frames)

unfoldable pub records_in : List ℕ → ℕ
records_in frames = count_by is_record (parts_of 10 frames)

-- a message that came: the answer to an `ASK`, which says how its core goes on; what became of a record; or nothing
-- for a core
abbrev pub heard_as : Result Message MsgFault → Heard
heard_as (Ok (Ask id)) = Other
heard_as (Ok (Grant era lease table)) = Answer Work
heard_as (Ok (Rec r)) = Other
heard_as (Ok (Ack table)) = Receipt
heard_as (Ok (Later None)) = Answer LaterCourse
heard_as (Ok (Later (Some table))) = Receipt
heard_as (Ok (Done era lease)) = Other
heard_as (Ok Stop) = Answer StopCourse
heard_as (Err fault) = Other
