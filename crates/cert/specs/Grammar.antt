-- The grammar of a record's text, and why a text is no record.
use Rattle.std.specs.Prelude.{ℕ, List, codes, nat_lt, if◌then◌else◌, [], ◌∷◌, ◌++◌, Result, Ok, Err, length}
use Rattle.std.specs.Str.{bytes_eq}
use Rattle.text.specs.declared.fields.FieldFault.{FieldFault}
use Rattle.text.specs.declared.fields.FieldFault.TheVariants.{BadKind as NoKind, BadNumber as NoNumber, BadList as NoList, TooLong as LongLists}
use Rattle.cert.specs.declared.record.RecordFault.{RecordFault}
use Rattle.cert.specs.declared.record.RecordFault.TheVariants.{BadTable, BadKind, BadNumber, BadList, TooLong}
use Rattle.machine_text.specs.declared.grammar.TextFault.{TextFault}
use Rattle.machine_text.specs.Terms.{Packed, table_of, text_of}
use Rattle.text.specs.Terms.{made_of, spaced, parts_of}
use Rattle.run.specs.Terms.{halts_by, halts_fields, reach_letter}
use Rattle.run.specs.declared.reach.Reach.TheVariants.{Early, Late}
use Rattle.cert.specs.Limits.{record_byte_limit}
use Rattle.cert.specs.Claim.{Claim, HaltsClaim, NeverClaim, NoClaim, Recorded, reason_by, reason_letter, reason_fields}

-- The refusal number of each fault of a record's text, the sentence that says it, and which one a fault of its fields is.
abbrev pub record_fault_number : RecordFault → ℕ
record_fault_number (BadTable f) = 301
record_fault_number BadKind = 302
record_fault_number BadNumber = 303
record_fault_number BadList = 304
record_fault_number TooLong = 305

abbrev pub record_fault_text : RecordFault → List ℕ
record_fault_text (BadTable f) = codes "there is no table before the first space"
record_fault_text BadKind = codes "there is no kind of record with these fields"
record_fault_text BadNumber = codes "a field is no number or no side"
record_fault_text BadList = codes "a field is no list of its kind"
record_fault_text TooLong = codes "the record is longer than 65000 bytes"

abbrev pub fault_of_field : FieldFault → RecordFault
fault_of_field NoKind = BadKind
fault_of_field NoNumber = BadNumber
fault_of_field NoList = BadList
fault_of_field LongLists = TooLong

-- The grammar of a record's text: a table, a space, a kind, and so many fields, each after a space. Bytes are their
-- ASCII codes: 32 is the space. How the fields of a kind are read and written is said in the kind's crate.

-- a claim of nothing has no fields
abbrev pub undecided_by : List (List ℕ) → Result Claim FieldFault
undecided_by [] = Ok NoClaim
undecided_by fields = Err NoKind

-- the claim that a letter with fields makes, for a table of n states
abbrev pub claim_by : ℕ → List ℕ → List (List ℕ) → Result Claim FieldFault
claim_by n letter fields =
    if bytes_eq letter (codes "H") then made_of HaltsClaim (halts_by Early fields)
    else if bytes_eq letter (codes "L") then made_of HaltsClaim (halts_by Late fields)
    else if bytes_eq letter (codes "U") then undecided_by fields
    else made_of NeverClaim (reason_by n letter fields)

-- what follows a table of n states, from the kind on
abbrev pub claim_from : ℕ → List (List ℕ) → Result Claim FieldFault
claim_from n [] = Err NoKind
claim_from n (kind ∷ fields) = claim_by n kind fields

abbrev pub record_with : Packed → Result Claim FieldFault → Result Recorded RecordFault
record_with p (Ok claim) = Ok (record { table = p; claim = claim })
record_with p (Err f) = Err (fault_of_field f)

abbrev pub record_after : Result Packed TextFault → List (List ℕ) → Result Recorded RecordFault
record_after (Err f) parts = Err (BadTable f)
record_after (Ok p) parts = record_with p (claim_from p.states parts)

abbrev pub record_from : List (List ℕ) → Result Recorded RecordFault
record_from [] = Err BadKind
record_from (table ∷ parts) = record_after (table_of table) parts

-- what a text is read as: its length is judged first, then its parts from left to right
unfoldable pub record_of : List ℕ → Result Recorded RecordFault
record_of text = if nat_lt record_byte_limit (length text) then Err TooLong else record_from (parts_of 32 text)

-- the kind of a claim as it is written
abbrev pub kind_text : Claim → List ℕ
kind_text (HaltsClaim e) = reach_letter e.reach
kind_text (NeverClaim r) = reason_letter r
kind_text NoClaim = codes "U"

-- and its fields
abbrev pub claim_fields : Claim → List (List ℕ)
claim_fields (HaltsClaim e) = halts_fields e
claim_fields (NeverClaim r) = reason_fields r
claim_fields NoClaim = []

-- the text of a claim, from the kind on
abbrev pub claim_text : Claim → List ℕ
claim_text c = kind_text c ++ spaced (claim_fields c)

-- the text of a record
unfoldable pub record_text : Recorded → List ℕ
record_text r = text_of r.table ++ codes " " ++ claim_text r.claim
