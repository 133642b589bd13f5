-- The text of a message reads back, and is one line.
use Rattle.std.proofs.Common.{◌≡◌, ℕ, ◌^◌, ◌<◌, ◌≤◌, true, false, cond, ltb, List, ◌∷◌, ◌++◌, length, Some, None, Ok, Err, refl, ap, ◌∙◌, append_assoc, length-append, lit≤, arith, ◌≢◌, [], get_or}
use Rattle.std.specs.Prelude.{codes, decimal, All, map, nat_le}
use Rattle.std.proofs.lemmas.Bool.Decides.{nat_tests}
use Rattle.std.proofs.lemmas.List.Elements.{All-append, All-head, All-tail, All-get_or, All-from_get_or}
use Rattle.std.proofs.lemmas.List.Splits.{slice_split_at, slice_split_none}
use Rattle.machine_text.specs.Terms.{text_byte_limit, Packed, IsTable, text_of}
use Rattle.machine_text.proofs.Rows.{length-text_of}
use Rattle.machine_text.proofs.RoundTrip.{table_of-text_of}
use Rattle.cert.specs.Terms.{record_byte_limit, Recorded, record_from, record_of, record_text}
use Rattle.cert.proofs.RecordTexts.{record_of-record_text, by_test, text_line, record_line}
use Rattle.cert.specs.declared.record.RecordFault.TheVariants.{TooLong}
use Rattle.text.specs.Terms.{line_byte_limit, parts_of, HasNoNewline, bounded_line}
use Rattle.text.proofs.Cuts.{cut-append, is_newline}
use Rattle.text.proofs.DecimalFields.{decimal_value-decimal, decimal_without, length_of_number, decimal_line}
use Rattle.wire.specs.Message.{Message, Ask, Grant, Rec, Ack, Later, Done, Stop, IsSendable, ◌>>=◌, read_table, read_record, ask_in, grant_in, done_in, message_in, or_bad, message_of, message_text, frames_of}
use Rattle.wire.specs.inside.{IsReadable}
use Rattle.wire.specs.Fulfilled.{parts_from, lines_from, rest_from}
use Rattle.wire.proofs.LineLaws.{lines_at, rest_at, goes_on}

-- Reading the text of a message gives the message again.

-- two numbers, and a text behind them
two_words : (e l : List ℕ) → e ++ codes " " ++ l ≡ e ++ 32 ∷ l
two_words e l = append_assoc e (codes " ") l

three_words : (e l t : List ℕ) → e ++ codes " " ++ l ++ codes " " ++ t ≡ e ++ 32 ∷ (l ++ 32 ∷ t)
three_words e l t =
    append_assoc (e ++ codes " " ++ l) (codes " ") t ∙ append_assoc (e ++ codes " ") l (32 ∷ t) ∙ append_assoc e (codes " ") (l ++ 32 ∷ t)

ask_back : (id : ℕ) → id < 2 ^ 32 → ask_in (decimal id) ≡ Some (Ask id)
ask_back id small =
    let within : ltb id (2 ^ 32) ≡ true = grind (arith, nat_tests) in
    rw (decimal_value-decimal id (omega arith), within) refl

grant_back : (era lease : ℕ) (table : Packed) → era < 2 ^ 64 → lease < 2 ^ 64 → IsTable table
    → grant_in (decimal era ++ codes " " ++ decimal lease ++ codes " " ++ text_of table) ≡ Some (Grant era lease table)
grant_back era lease table e l t =
    ap grant_in (three_words (decimal era) (decimal lease) (text_of table))
    ∙ rw (cut-append 32 (decimal era) (decimal lease ++ 32 ∷ text_of table) (decimal_without 32 era (lit≤ tt) e), cut-append 32 (decimal lease) (text_of table) (decimal_without 32 lease (lit≤ tt) l))
    (rw (decimal_value-decimal era e, decimal_value-decimal lease l, table_of-text_of table t) refl)

done_back : (era lease : ℕ) → era < 2 ^ 64 → lease < 2 ^ 64 → done_in (decimal era ++ codes " " ++ decimal lease) ≡ Some (Done era lease)
done_back era lease e l =
    ap done_in (two_words (decimal era) (decimal lease))
    ∙ rw (cut-append 32 (decimal era) (decimal lease) (decimal_without 32 era (lit≤ tt) e)) (rw (decimal_value-decimal era e, decimal_value-decimal lease l) refl)

read_back : (m : Message) → IsReadable m → message_in (message_text m) ≡ Some m
unfolding message_text
read_back (Ask id) small = ask_back id small
read_back (Grant era lease table) fits = grant_back era lease table fits.0 fits.1 fits.2
read_back (Rec r) reads = ap (λ o. read_record o >>= λ r. Some (Rec r)) reads
read_back (Ack table) is = ap (λ o. read_table o >>= λ t. Some (Ack t)) (table_of-text_of table is)
read_back (Later None) fits = refl
read_back (Later (Some table)) is = ap (λ o. read_table o >>= λ t. Some (Later (Some t))) (table_of-text_of table is)
read_back (Done era lease) fits = done_back era lease fits.0 fits.1
read_back Stop fits = refl

length_of_table : (p : Packed) → IsTable p → length (text_of p) ≤ text_byte_limit
length_of_table p table = omega (arith, length-text_of p table.some, table.limit)

-- what is read as a record isn't too long for one
length_of_record : (text : List ℕ) (r : Recorded) → record_of text ≡ Ok r → length text ≤ record_byte_limit
unfolding record_of
length_of_record text r reads =
    elim (ltb record_byte_limit (length text)) as (λ v. ltb record_byte_limit (length text) ≡ v → cond v (Err TooLong) (record_from (parts_of 32 text)) ≡ Ok r → length text ≤ record_byte_limit) [
      | true ↦ λ is reads. cc
      | false ↦ λ is reads. grind (arith, nat_tests)
    ] refl reads

short : (m : Message) → IsReadable m → length (message_text m) ≤ line_byte_limit
unfolding message_text
short (Ask id) small = omega (arith, length-append (codes "ASK ") (decimal id), length_of_number id (omega arith))
short (Grant era lease table) fits =
    omega (
      arith,
      ap length (three_words (decimal era) (decimal lease) (text_of table)),
      length-append (decimal era) (32 ∷ (decimal lease ++ 32 ∷ text_of table)),
      length-append (decimal lease) (32 ∷ text_of table),
      length_of_number era fits.0,
      length_of_number lease fits.1,
      length_of_table table fits.2,
    )
short (Rec r) reads = omega (arith, length_of_record (record_text r) r reads)
short (Ack table) is = omega (arith, length_of_table table is)
short (Later None) fits = lit≤ tt
short (Later (Some table)) is = omega (arith, length_of_table table is)
short (Done era lease) fits =
    omega (arith, ap length (two_words (decimal era) (decimal lease)), length-append (decimal era) (32 ∷ decimal lease), length_of_number era fits.0, length_of_number lease fits.1)
short Stop fits = lit≤ tt

pub message_of-message_text : (m : Message) → IsReadable m → message_of (message_text m) ≡ Ok m
unfolding message_of
message_of-message_text m fits =
    let within : ltb line_byte_limit (length (message_text m)) ≡ false = grind (arith, nat_tests, short m fits) in
    rw within (ap or_bad (read_back m fits))

-- what can be sent reads back
readable : (m : Message) → IsSendable m → IsReadable m
readable (Ask id) small = small
readable (Grant era lease table) fits = fits
readable (Rec r) fits = record_of-record_text r fits.0 fits.1 fits.2
readable (Ack table) is = is
readable (Later table) is = is
readable (Done era lease) fits = fits
readable Stop fits = fits

pub sent_reads_back : (m : Message) → IsSendable m → message_of (message_text m) ≡ Ok m
sent_reads_back m fits = message_of-message_text m (readable m fits)

pub sent_is_short : (m : Message) → IsSendable m → length (message_text m) ≤ line_byte_limit
sent_is_short m fits = short m (readable m fits)

-- The text of a message has no newline, so messages that follow one another come through a stream one by one.
abbrev IsOther : ℕ → Type 0
IsOther byte = byte ≢ 10

both : (a b : List ℕ) → HasNoNewline a → HasNoNewline b → HasNoNewline (a ++ b)
both a b none none' = All-append IsOther a b none none'

lease_line : (front : List ℕ) (era lease : ℕ) → HasNoNewline front → era < 2 ^ 64 → lease < 2 ^ 64 → HasNoNewline (front ++ decimal era ++ codes " " ++ decimal lease)
lease_line front era lease none e l =
    both (front ++ decimal era ++ codes " ") (decimal lease) (both (front ++ decimal era) (codes " ") (both front (decimal era) none (decimal_line era e)) (by_test (codes " ") refl)) (decimal_line lease l)

message_line : (m : Message) → IsSendable m → HasNoNewline (message_text m)
unfolding message_text
message_line (Ask id) small = both (codes "ASK ") (decimal id) (by_test (codes "ASK ") refl) (decimal_line id (omega arith))
message_line (Grant era lease table) fits =
    both (codes "GRANT " ++ decimal era ++ codes " " ++ decimal lease ++ codes " ") (text_of table)
    (both (codes "GRANT " ++ decimal era ++ codes " " ++ decimal lease) (codes " ") (lease_line (codes "GRANT ") era lease (by_test (codes "GRANT ") refl) fits.0 fits.1) (by_test (codes " ") refl))
    (text_line table fits.2)
message_line (Rec r) fits = both (codes "REC ") (record_text r) (by_test (codes "REC ") refl) (record_line r fits.0 fits.1)
message_line (Ack table) is = both (codes "ACK ") (text_of table) (by_test (codes "ACK ") refl) (text_line table is)
message_line (Later None) fits = by_test (codes "LATER") refl
message_line (Later (Some table)) is = both (codes "LATER ") (text_of table) (by_test (codes "LATER ") refl) (text_line table is)
message_line (Done era lease) fits = lease_line (codes "DONE ") era lease (by_test (codes "DONE ") refl) fits.0 fits.1
message_line Stop fits = by_test (codes "STOP") refl

no_newline : (text : List ℕ) → HasNoNewline text → All (λ b. is_newline b ≡ false) text
no_newline text none = All-from_get_or (λ b. is_newline b ≡ false) text 0 (λ i below.
    let other : get_or text i 0 ≢ 10 = All-get_or IsOther text i 0 below none in
    grind (arith, nat_tests))

first_frame : (m : Message) (ms : List Message) → IsSendable m → parts_of 10 (frames_of (m ∷ ms)) ≡ message_text m ∷ parts_of 10 (frames_of ms)
first_frame m ms fits =
    ap (parts_of 10) (append_assoc (message_text m) (10 ∷ []) (frames_of ms))
    ∙ slice_split_at is_newline (message_text m) 10 (frames_of ms) (no_newline (message_text m) (message_line m fits)) refl

bounded_whole : (m : Message) → IsSendable m → bounded_line (message_text m) ≡ Some (message_text m)
bounded_whole m fits =
    let short : nat_le (length (message_text m)) line_byte_limit ≡ true = grind (arith, nat_tests, sent_is_short m fits) in
    rw short refl

no_lines : lines_from (Some []) [] ≡ []
unfolding lines_from parts_from
no_lines = refl

no_rest : rest_from (Some []) [] ≡ Some []
unfolding rest_from parts_from
no_rest = refl

pub frames_come_through : (ms : List Message) → All IsSendable ms → lines_from (Some []) (frames_of ms) ≡ map (λ m. Some (message_text m)) ms
frames_come_through [] fits = no_lines
frames_come_through (m ∷ ms) fits =
    let here = All-head IsSendable m ms fits in
    lines_at (Some []) (frames_of (m ∷ ms)) (message_text m) (frames_of ms) (first_frame m ms here)
    ∙ ap (λ k. k ∷ lines_from (Some []) (frames_of ms)) (bounded_whole m here)
    ∙ ap (λ ls. Some (message_text m) ∷ ls) (frames_come_through ms (All-tail IsSendable m ms fits))

pub frames_end : (ms : List Message) → All IsSendable ms → rest_from (Some []) (frames_of ms) ≡ Some []
frames_end [] fits = no_rest
frames_end (m ∷ ms) fits =
    rest_at (Some []) (frames_of (m ∷ ms)) (message_text m) (frames_of ms) (first_frame m ms (All-head IsSendable m ms fits)) ∙ frames_end ms (All-tail IsSendable m ms fits)

pub begun_goes_on : (begun piece : List ℕ) → HasNoNewline begun → (lines_from (bounded_line begun) piece ≡ lines_from (Some []) (begun ++ piece)) × (rest_from (bounded_line begun) piece ≡ rest_from (Some []) (begun ++ piece))
begun_goes_on begun piece none = goes_on begun piece (slice_split_none is_newline begun (no_newline begun none))
