-- The text of a record reads back, and has no newline.
use Rattle.std.proofs.Common.{◌≡◌, ℕ, Ok, ap, ◌≤◌, List, length, refl, ◌∙◌, arith, ◌+◌, Bool, false, eqb, ltb, ◌++◌, get_or, append_assoc, length-append, ◌≢◌, true, ◌&&◌, not, []}
use Rattle.std.specs.Prelude.{All, codes, ◌∷◌}
use Rattle.std.proofs.lemmas.Bool.Decides.{nat_tests}
use Rattle.std.proofs.lemmas.List.Elements.{All-from_get_or, All-append, All-cons, All-nil}
use Rattle.std.proofs.lemmas.List.Splits.{slice_split_at}
use Rattle.std.specs.List.{list_all}
use Rattle.text.specs.Terms.{made_of, IsField, spaced, parts_of}
use Rattle.kind_evidence.specs.Terms.{IsKind, IsLetter, room_for_fields}
use Rattle.loops.proofs.KindLaws.{cycle_is_kind, translated_is_kind}
use Rattle.backward.proofs.KindLaws.{backward_is_kind}
use Rattle.ngram_cps.proofs.KindLaws.{ngram_is_kind}
use Rattle.far.proofs.KindLaws.{far_is_kind, listed_is_kind}
use Rattle.kind_counted.proofs.KindLaws.{counted_is_kind}
use Rattle.kind_rules.proofs.RuleLaws.{rules_are_kind}
use Rattle.kind_named.proofs.KindLaws.{named_is_kind}
use Rattle.cert.specs.Claim.{Reason, CycleReason, TranslatedReason, BackwardReason, NgramReason, FarReason, ListedReason, CountedReason, RulesReason, NamedReason, with_kind, reason_letter, reason_fields, reason_meaning, NeverClaim, Claim, HaltsClaim, NoClaim, IsWritable, IsMadeFor, Recorded, IsWithin, Stands}
use Rattle.cert.specs.Grammar.{claim_by, kind_text, claim_fields, claim_from, claim_text, record_with, record_after, record_from, record_of, record_text}
use Rattle.machine_text.specs.Terms.{state_limit, Packed, IsTable, text_of}
use Rattle.text.proofs.DecimalFields.{no_fields, parts_of-spaced, field_line, spaced_line}
use Rattle.kind_evidence.proofs.EvidenceLaws.{is_letter, have_room}
use Rattle.run.specs.Terms.{halts_by, halts_fields, reach_letter}
use Rattle.run.specs.declared.reach.Reach.{Reach}
use Rattle.run.specs.declared.reach.Reach.TheVariants.{Early, Late}
use Rattle.run.proofs.HaltingClaims.{halts_back, halts_are_fields, claimed_is_short}
use Rattle.machine_text.proofs.Rows.{length-text_of}
use Rattle.machine_text.proofs.RoundTrip.{table_of-text_of, text_of_from_45}
use Rattle.cert.specs.Limits.{record_byte_limit}
use Rattle.cert.specs.Certified.{IsCertified}

-- What is so of each kind, and that its letter is no other's.
pub kind_laws : (r : Reason) → IsKind (with_kind r).kind
kind_laws (CycleReason e) = cycle_is_kind
kind_laws (TranslatedReason e) = translated_is_kind
kind_laws (BackwardReason e) = backward_is_kind
kind_laws (NgramReason s) = ngram_is_kind
kind_laws (FarReason a) = far_is_kind
kind_laws (ListedReason t) = listed_is_kind
kind_laws (CountedReason t) = counted_is_kind
kind_laws (RulesReason t) = rules_are_kind
kind_laws (NamedReason e) = named_is_kind

-- a reason that is written reads back
pub reason_back : (r : Reason) (n : ℕ) → (reason_meaning r).writable → (reason_meaning r).made_for n → claim_by n (reason_letter r) (reason_fields r) ≡ Ok (NeverClaim r)
reason_back (CycleReason e) n writable made = ap (λ x. made_of NeverClaim (made_of CycleReason x)) (cycle_is_kind.back e n writable made)
reason_back (TranslatedReason e) n writable made = ap (λ x. made_of NeverClaim (made_of TranslatedReason x)) (translated_is_kind.back e n writable made)
reason_back (BackwardReason e) n writable made = ap (λ x. made_of NeverClaim (made_of BackwardReason x)) (backward_is_kind.back e n writable made)
reason_back (NgramReason s) n writable made = ap (λ x. made_of NeverClaim (made_of NgramReason x)) (ngram_is_kind.back s n writable made)
reason_back (FarReason a) n writable made = ap (λ x. made_of NeverClaim (made_of FarReason x)) (far_is_kind.back a n writable made)
reason_back (ListedReason t) n writable made = ap (λ x. made_of NeverClaim (made_of ListedReason x)) (listed_is_kind.back t n writable made)
reason_back (CountedReason t) n writable made = ap (λ x. made_of NeverClaim (made_of CountedReason x)) (counted_is_kind.back t n writable made)
reason_back (RulesReason t) n writable made = ap (λ x. made_of NeverClaim (made_of RulesReason x)) (rules_are_kind.back t n writable made)
reason_back (NamedReason e) n writable made = ap (λ x. made_of NeverClaim (made_of NamedReason x)) (named_is_kind.back e n writable made)

-- What is so of the text of a claim: its letter, and its fields, which read back.
halting_letter : (r : Reach) → IsLetter (reach_letter r)
halting_letter Early = is_letter 72 (omega arith)
halting_letter Late = is_letter 76 (omega arith)

pub kind_is_letter : (c : Claim) → IsLetter (kind_text c)
kind_is_letter (HaltsClaim e) = halting_letter e.reach
kind_is_letter (NeverClaim r) = (kind_laws r).letter
kind_is_letter NoClaim = is_letter 85 (omega arith)

pub are_fields : (c : Claim) → IsWritable c → All IsField (claim_fields c)
are_fields (HaltsClaim e) small = (halts_are_fields e small).each
are_fields (NeverClaim r) writable = (kind_laws r).are_fields (with_kind r).claimed writable
are_fields NoClaim small = no_fields

-- a record has room for them beside a table for which the claim is made
pub have_room_in : (c : Claim) (n : ℕ) → n ≤ state_limit → IsWritable c → IsMadeFor c n → length (spaced (claim_fields c)) ≤ room_for_fields n
have_room_in (HaltsClaim e) n few small made = have_room (halts_fields e) n few (halts_are_fields e small)
have_room_in (NeverClaim r) n few writable made = (kind_laws r).short (with_kind r).claimed n few writable made
have_room_in NoClaim n few small made = omega (arith, few)

halting_by : (r : Reach) (n : ℕ) (fields : List (List ℕ)) → claim_by n (reach_letter r) fields ≡ made_of HaltsClaim (halts_by r fields)
halting_by Early n fields = refl
halting_by Late n fields = refl

pub fields_back : (c : Claim) (n : ℕ) → IsWritable c → IsMadeFor c n → claim_by n (kind_text c) (claim_fields c) ≡ Ok c
fields_back (HaltsClaim e) n small made = halting_by e.reach n (halts_fields e) ∙ ap (made_of HaltsClaim) (halts_back e small)
fields_back (NeverClaim r) n writable made = reason_back r n writable made
fields_back NoClaim n small made = refl

-- Reading the text of a record gives the record again.
abbrev IsSpace : ℕ → Bool
IsSpace b = eqb b 32

text_has_no_space : (p : Packed) → IsTable p → All (λ b. IsSpace b ≡ false) (text_of p)
text_has_no_space p table = All-from_get_or (λ b. IsSpace b ≡ false) (text_of p) 0 (λ i below.
    let above : 45 ≤ get_or (text_of p) i 0 = text_of_from_45 p table i below in
    grind (arith, nat_tests))

claim_back : (c : Claim) (n : ℕ) → IsWritable c → IsMadeFor c n → claim_from n (parts_of 32 (claim_text c)) ≡ Ok c
claim_back c n writable made =
    ap (claim_from n) (parts_of-spaced (kind_text c) (claim_fields c) (kind_is_letter c).field (are_fields c writable)) ∙ fields_back c n writable made

length_of_claim : (c : Claim) (n : ℕ) → n ≤ state_limit → IsWritable c → IsMadeFor c n → length (claim_text c) ≤ room_for_fields n + 1
length_of_claim c n few writable made =
    let one = (kind_is_letter c).one in
    omega (arith, one, have_room_in c n few writable made, length-append (kind_text c) (spaced (claim_fields c)))

short : (r : Recorded) → IsTable r.table → IsWritable r.claim → IsMadeFor r.claim r.table.states → length (record_text r) ≤ record_byte_limit
unfolding record_text
short r table writable made =
    let table_length = length-text_of r.table table.some in
    let all = length-append (text_of r.table ++ codes " ") (claim_text r.claim) in
    let begun = length-append (text_of r.table) (codes " ") in
    omega (arith, table_length, all, begun, length_of_claim r.claim r.table.states table.limit writable made, table.limit)

parts_of-record_text : (r : Recorded) → IsTable r.table → parts_of 32 (record_text r) ≡ text_of r.table ∷ parts_of 32 (claim_text r.claim)
unfolding record_text
parts_of-record_text r table =
    ap (parts_of 32) (append_assoc (text_of r.table) (codes " ") (claim_text r.claim))
    ∙ slice_split_at IsSpace (text_of r.table) 32 (claim_text r.claim) (text_has_no_space r.table table) refl

pub record_of-record_text : (r : Recorded) → IsTable r.table → IsWritable r.claim → IsMadeFor r.claim r.table.states → record_of (record_text r) ≡ Ok r
unfolding record_of
record_of-record_text r table writable made =
    let fits : ltb record_byte_limit (length (record_text r)) ≡ false = grind (arith, nat_tests, short r table writable made) in
    rw fits (ap record_from (parts_of-record_text r table) ∙ ap (λ t. record_after t (parts_of 32 (claim_text r.claim))) (table_of-text_of r.table table) ∙ ap (record_with r.table) (claim_back r.claim r.table.states writable made))

-- The text of a record has no newline, and what is certified has numbers of 64 bits.
abbrev IsOther : ℕ → Type 0
IsOther byte = byte ≢ 10

abbrev IsLine : List ℕ → Type 0
IsLine text = All IsOther text

both : (a b : List ℕ) → IsLine a → IsLine b → IsLine (a ++ b)
both a b none none' = All-append IsOther a b none none'

one : (byte : ℕ) → IsOther byte → IsLine (byte ∷ [])
one byte other = All-cons IsOther byte [] other (All-nil IsOther)

-- a text of which each byte passes the test, as a literal may
pub by_test : (text : List ℕ) → list_all (λ byte. not (eqb byte 10)) text ≡ true → IsLine text
by_test [] passes = All-nil IsOther
by_test (byte ∷ text) passes =
    elim (eqb byte 10) as (λ v. eqb byte 10 ≡ v → (not v && list_all (λ byte. not (eqb byte 10)) text) ≡ true → IsLine (byte ∷ text)) [
      | true ↦ λ is passes. absurd (cc)
      | false ↦ λ is passes. All-cons IsOther byte text (grind (arith, nat_tests)) (by_test text passes)
    ] refl passes

space : IsLine (codes " ")
space = by_test (codes " ") refl

pub text_line : (p : Packed) → IsTable p → IsLine (text_of p)
text_line p table = All-from_get_or IsOther (text_of p) 0 (λ i below.
    let above : 45 ≤ get_or (text_of p) i 0 = text_of_from_45 p table i below in
    omega arith)

claim_line : (c : Claim) → IsWritable c → IsLine (claim_text c)
claim_line c writable =
    both (kind_text c) (spaced (claim_fields c)) (field_line (kind_text c) (kind_is_letter c).field) (spaced_line (claim_fields c) (are_fields c writable))

pub record_line : (r : Recorded) → IsTable r.table → IsWritable r.claim → IsLine (record_text r)
unfolding record_text
record_line r table writable =
    both (text_of r.table ++ codes " ") (claim_text r.claim) (both (text_of r.table) (codes " ") (text_line r.table table) space) (claim_line r.claim writable)

-- the numbers of a claim that stands are within its limits
writable_within : (c : Claim) (p : Packed) → IsWithin c → Stands c p → IsWritable c
writable_within (HaltsClaim e) p within stands = claimed_is_short e p within stands
writable_within (NeverClaim r) p within stands = (kind_laws r).writable (with_kind r).claimed p within stands
writable_within NoClaim p within stands = tt

pub certified_writable : (r : Recorded) → IsCertified r → IsWritable r.claim
certified_writable r certified = writable_within r.claim r.table certified.within certified.stands

-- and its lists and automata are made for the table's states
made_for : (c : Claim) (p : Packed) → Stands c p → IsMadeFor c p.states
made_for (HaltsClaim e) p stands = tt
made_for (NeverClaim r) p stands = (kind_laws r).made (with_kind r).claimed p stands
made_for NoClaim p stands = tt

pub certified_made : (r : Recorded) → IsCertified r → IsMadeFor r.claim r.table.states
certified_made r certified = made_for r.claim r.table certified.stands
