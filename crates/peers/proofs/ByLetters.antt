-- What lines say by their letters they say as messages.
use Rattle.std.proofs.Common.{◌≡◌, ◌∙◌, refl, sym, subst, ap, ℕ, ◌^◌, ◌<◌, Bool, true, false, cond, List, [], ◌∷◌, ◌++◌, append_assoc, lit≤, length}
use Rattle.std.specs.Prelude.{Option, Some, None, Result, Ok, Err, codes, decimal, nat_lt}
use Rattle.std.specs.Str.{bytes_eq}
use Rattle.std.proofs.lemmas.Slice.Eq.{bytes_eq-Decides}
use Rattle.text.specs.Terms.{cut_at, decimal_value, made_of, parts_of, line_byte_limit}
use Rattle.text.specs.declared.fields.FieldFault.{FieldFault}
use Rattle.text.proofs.Cuts.{cut-append, split_at_cut, split_nowhere}
use Rattle.text.proofs.DecimalFields.{decimal_without}
use Rattle.machine_text.specs.declared.grammar.TextFault.{TextFault}
use Rattle.machine_text.specs.Terms.{Packed, table_of, text_of}
use Rattle.run.specs.Terms.{halts_by}
use Rattle.run.specs.declared.reach.Reach.TheVariants.{Early, Late}
use Rattle.cert.specs.Terms.{Claim, HaltsClaim, NeverClaim, NoClaim, Recorded, reason_by, record_byte_limit, claim_from, record_after, record_from, record_of, record_with, undecided_by}
use Rattle.cert.specs.declared.record.RecordFault.{RecordFault}
use Rattle.cert.specs.declared.record.RecordFault.TheVariants.{TooLong}
use Rattle.wire.specs.declared.messages.MsgFault.TheVariants.{TooLong as TooLongLine}
use Rattle.wire.specs.Terms.{Message, Ask, Grant, Rec, Ack, Later, Done, Stop, ◌>>=◌, ack_in, ask_in, done_in, grant_in, later_in, message_by, message_in, message_of, message_text, or_bad, read_record, read_table, rec_in}
use Rattle.peers.specs.Guard.{asked_id, granted, is_holdout, says_nothing}
use Rattle.peers.specs.Frames.{asked_by, gives_up, is_no_claim}

some_same : {X : Type 0} (x y : X) → Some x ≡ Some y → x ≡ y
some_same x y e = cc

-- 1. What a line is read as

read_of : (o : Option Message) (m : Message) → or_bad o ≡ Ok m → o ≡ Some m
read_of (Some x) m e = cc
read_of None m e = absurd (cc)

read_short : (b : Bool) (o : Option Message) (m : Message) → cond b (Err TooLongLine) (or_bad o) ≡ Ok m → o ≡ Some m
read_short true o m e = absurd (cc)
read_short false o m e = read_of o m e

read_in : (line : List ℕ) (m : Message) → message_of line ≡ Ok m → message_in line ≡ Some m
unfolding message_of
read_in line m e = read_short (nat_lt line_byte_limit (length line)) (message_in line) m e

after : {A : Type 0} (P : Message → Type 0) (o : Option A) (f : A → Option Message) → ((a : A) (m : Message) → f a ≡ Some m → P m) → (m : Message)
    → (o >>= f) ≡ Some m → P m
after P (Some a) f all m e = all a m e
after P None f all m e = absurd (cc)

-- a message that is neither an `ASK` nor, unless so said, a record
module _ (P : Message → Type 0) (granted_so : (era number : ℕ) (table : Packed) → P (Grant era number table)) (held_so : (table : Packed) → P (Ack table))
    (later_so : (table : Option Packed) → P (Later table)) (done_so : (era number : ℕ) → P (Done era number)) (stop_so : P Stop) where
  said : (m m' : Message) → Some m' ≡ Some m → P m' → P m
  said m m' e is = subst P (some_same m' m e) is

  grant_said : (text : List ℕ) (m : Message) → grant_in text ≡ Some m → P m
  grant_said text m e =
      after P (cut_at 32 text) _
      (λ first m e. after P (cut_at 32 first.1) _
      (λ second m e. after P (decimal_value first.0) _
      (λ era m e. after P (decimal_value second.0) _
      (λ number m e. after P (read_table (table_of second.1)) _ (λ table m e. said m (Grant era number table) e (granted_so era number table)) m e) m e) m e) m e)
      m e

  ack_said : (text : List ℕ) (m : Message) → ack_in text ≡ Some m → P m
  ack_said text m e = after P (read_table (table_of text)) _ (λ table m e. said m (Ack table) e (held_so table)) m e

  later_said : (text : List ℕ) (m : Message) → later_in text ≡ Some m → P m
  later_said text m e = after P (read_table (table_of text)) _ (λ table m e. said m (Later (Some table)) e (later_so (Some table))) m e

  done_said : (text : List ℕ) (m : Message) → done_in text ≡ Some m → P m
  done_said text m e =
      after P (cut_at 32 text) _
      (λ cut m e. after P (decimal_value cut.0) _
      (λ era m e. after P (decimal_value cut.1) _ (λ number m e. said m (Done era number) e (done_so era number)) m e) m e)
      m e

  alone_said : (b c : Bool) (m : Message) → cond b (Some (Later None)) (cond c (Some Stop) None) ≡ Some m → P m
  alone_said true c m e = said m (Later None) e (later_so None)
  alone_said false true m e = said m Stop e stop_so
  alone_said false false m e = absurd (cc)

  last_said : (b c d : Bool) (text : List ℕ) (m : Message) → cond b (ack_in text) (cond c (later_in text) (cond d (done_in text) None)) ≡ Some m → P m
  last_said true c d text m e = ack_said text m e
  last_said false true d text m e = later_said text m e
  last_said false false true text m e = done_said text m e
  last_said false false false text m e = absurd (cc)

-- 2. An `ASK`

asks_said : (o : Option ℕ) (m : Message) → (o >>= λ id. cond (nat_lt id (2 ^ 32)) (Some (Ask id)) None) ≡ Some m
    → (o >>= λ id. cond (nat_lt id (2 ^ 32)) (Some id) None) ≡ asked_by m
asks_said None m e = absurd (cc)
asks_said (Some id) m e = by_test (nat_lt id (2 ^ 32)) e
  where
    by_test : (b : Bool) → cond b (Some (Ask id)) None ≡ Some m → cond b (Some id) None ≡ asked_by m
    by_test true e = subst (λ (m : Message). Some id ≡ asked_by m) (some_same (Ask id) m e) refl
    by_test false e = absurd (cc)

abbrev NotAsked : Message → Type 0
NotAsked m = None ≡ asked_by m

rec_not_asked : (text : List ℕ) (m : Message) → rec_in text ≡ Some m → NotAsked m
rec_not_asked text m e = after NotAsked (read_record (record_of text)) _ (λ r m e. subst NotAsked (some_same (Rec r) m e) refl) m e

word_asked : (a b c d e f : Bool) (text : List ℕ) (m : Message)
    → cond a (ask_in text) (cond b (grant_in text) (cond c (rec_in text) (cond d (ack_in text) (cond e (later_in text) (cond f (done_in text) None))))) ≡ Some m
    → (cond a (Some text) None >>= λ text. decimal_value text >>= λ id. cond (nat_lt id (2 ^ 32)) (Some id) None) ≡ asked_by m
word_asked true b c d e f text m is = asks_said (decimal_value text) m is
word_asked false true c d e f text m is = grant_said NotAsked (λ era number table. refl) (λ table. refl) (λ table. refl) (λ era number. refl) refl text m is
word_asked false false true d e f text m is = rec_not_asked text m is
word_asked false false false d e f text m is =
    last_said NotAsked (λ era number table. refl) (λ table. refl) (λ table. refl) (λ era number. refl) refl d e f text m is

pub letters_ask : (line : List ℕ) (m : Message) → message_of line ≡ Ok m → asked_id line ≡ asked_by m
unfolding asked_id
letters_ask line m e = by_cut (cut_at 32 line) (read_in line m e)
  where
    by_cut : (cut : Option (List ℕ × List ℕ)) → message_by line cut ≡ Some m
        → ((cut >>= λ (c : List ℕ × List ℕ). cond (bytes_eq c.0 (codes "ASK")) (Some c.1) None) >>= λ text. decimal_value text >>= λ id. cond (nat_lt id (2 ^ 32)) (Some id) None) ≡ asked_by m
    by_cut None e = alone_said NotAsked (λ era number table. refl) (λ table. refl) (λ table. refl) (λ era number. refl) refl (bytes_eq line (codes "LATER")) (bytes_eq line (codes "STOP")) m e
    by_cut (Some (word, text)) e =
        word_asked (bytes_eq word (codes "ASK")) (bytes_eq word (codes "GRANT")) (bytes_eq word (codes "REC")) (bytes_eq word (codes "ACK"))
        (bytes_eq word (codes "LATER")) (bytes_eq word (codes "DONE")) text m e

-- 3. The record of a holdout

-- bytes that are found the same are
are_same : (xs ys : List ℕ) → bytes_eq xs ys ≡ true → xs ≡ ys
are_same xs ys is = (bytes_eq-Decides xs ys).0 is

apart : {X : Type 0} (o : Option X) (x : X) → Some x ≡ o → o ≡ None → ⊥
apart (Some y) x is none = cc
apart None x is none = cc

never_said : {A : Type 0} (make : A → Claim) → ((a : A) → is_no_claim (make a) ≡ false) → (o : Result A FieldFault) (claim : Claim) → made_of make o ≡ Ok claim
    → false ≡ is_no_claim claim
never_said make so (Ok a) claim e = sym (so a) ∙ ap is_no_claim (let s : make a ≡ claim = cc in s)
never_said make so (Err fault) claim e = absurd (cc)

parts_some : (text : List ℕ) → parts_of 32 text ≡ [] → ⊥
parts_some text none = by_cut (cut_at 32 text) refl
  where
    by_cut : (cut : Option (List ℕ × List ℕ)) → cut ≡ cut_at 32 text → ⊥
    by_cut None is = let e : [] ≡ text ∷ [] = sym none ∙ split_nowhere 32 text is in cc
    by_cut (Some (first, rest)) is = let e : [] ≡ first ∷ parts_of 32 rest = sym none ∙ split_at_cut 32 text first rest is in cc

undecided_said : (fields : List (List ℕ)) (claim : Claim) → (fields ≡ [] → ⊥) → undecided_by fields ≡ Ok claim → false ≡ is_no_claim claim
undecided_said [] claim some e = absurd (some refl)
undecided_said (field ∷ fields) claim some e = absurd (cc)

claim_said : (n : ℕ) (rest : List ℕ) (claim : Claim) → claim_from n (parts_of 32 rest) ≡ Ok claim → bytes_eq rest (codes "U") ≡ is_no_claim claim
claim_said n rest claim e = by_cut (cut_at 32 rest) refl
  where
    -- what makes a claim that is some is no letter of none
    not_u : (letter : List ℕ) → bytes_eq rest letter ≡ true → bytes_eq letter (codes "U") ≡ false → bytes_eq rest (codes "U") ≡ false
    not_u letter is other = subst (λ (xs : List ℕ). bytes_eq xs (codes "U") ≡ false) (sym (are_same rest letter is)) other

    by_letter : (h l u : Bool) → bytes_eq rest (codes "H") ≡ h → bytes_eq rest (codes "L") ≡ l → bytes_eq rest (codes "U") ≡ u
        → cond h (made_of HaltsClaim (halts_by Early [])) (cond l (made_of HaltsClaim (halts_by Late [])) (cond u (Ok NoClaim) (made_of NeverClaim (reason_by n rest [])))) ≡ Ok claim
        → bytes_eq rest (codes "U") ≡ is_no_claim claim
    by_letter true l u is_h is_l is_u e = not_u (codes "H") is_h refl ∙ never_said HaltsClaim (λ a. refl) (halts_by Early []) claim e
    by_letter false true u is_h is_l is_u e = not_u (codes "L") is_l refl ∙ never_said HaltsClaim (λ a. refl) (halts_by Late []) claim e
    by_letter false false true is_h is_l is_u e = is_u ∙ ap is_no_claim (let s : NoClaim ≡ claim = cc in s)
    by_letter false false false is_h is_l is_u e = is_u ∙ never_said NeverClaim (λ a. refl) (reason_by n rest []) claim e

    with_fields : (h l u : Bool) (kind : List ℕ) (fields : List (List ℕ)) → (fields ≡ [] → ⊥)
        → cond h (made_of HaltsClaim (halts_by Early fields)) (cond l (made_of HaltsClaim (halts_by Late fields)) (cond u (undecided_by fields) (made_of NeverClaim (reason_by n kind fields)))) ≡ Ok claim
        → false ≡ is_no_claim claim
    with_fields true l u kind fields some e = never_said HaltsClaim (λ a. refl) (halts_by Early fields) claim e
    with_fields false true u kind fields some e = never_said HaltsClaim (λ a. refl) (halts_by Late fields) claim e
    with_fields false false true kind fields some e = undecided_said fields claim some e
    with_fields false false false kind fields some e = never_said NeverClaim (λ a. refl) (reason_by n kind fields) claim e

    longer : (b : Bool) (kind fields : List ℕ) → bytes_eq rest (codes "U") ≡ b → Some (kind, fields) ≡ cut_at 32 rest → b ≡ false
    longer true kind fields is cut = absurd (apart (cut_at 32 rest) (kind, fields) cut (ap (cut_at 32) (are_same rest (codes "U") is)))
    longer false kind fields is cut = refl

    by_cut : (cut : Option (List ℕ × List ℕ)) → cut ≡ cut_at 32 rest → bytes_eq rest (codes "U") ≡ is_no_claim claim
    by_cut None is =
        by_letter (bytes_eq rest (codes "H")) (bytes_eq rest (codes "L")) (bytes_eq rest (codes "U")) refl refl refl
        (subst (λ (parts : List (List ℕ)). claim_from n parts ≡ Ok claim) (split_nowhere 32 rest is) e)
    by_cut (Some (kind, fields)) is =
        longer (bytes_eq rest (codes "U")) kind fields refl is
        ∙ with_fields (bytes_eq kind (codes "H")) (bytes_eq kind (codes "L")) (bytes_eq kind (codes "U")) kind (parts_of 32 fields) (parts_some fields)
        (subst (λ (parts : List (List ℕ)). claim_from n parts ≡ Ok claim) (split_at_cut 32 rest kind fields is) e)

record_short : (b : Bool) (o : Result Recorded RecordFault) (r : Recorded) → cond b (Err TooLong) o ≡ Ok r → o ≡ Ok r
record_short true o r e = absurd (cc)
record_short false o r e = e

record_said : (text : List ℕ) (r : Recorded) → record_of text ≡ Ok r → says_nothing (cut_at 32 text) ≡ is_no_claim r.claim
unfolding record_of
record_said text r e = by_cut (cut_at 32 text) refl
  where
    reads : record_from (parts_of 32 text) ≡ Ok r
    reads = record_short (nat_lt record_byte_limit (length text)) (record_from (parts_of 32 text)) r e

    claimed : (p : Packed) (o : Result Claim FieldFault) → record_with p o ≡ Ok r → o ≡ Ok r.claim
    claimed p (Ok claim) e = ap Ok (ap (λ (r : Recorded). r.claim) (let s : record { table = p; claim = claim } ≡ r = cc in s))
    claimed p (Err fault) e = absurd (cc)

    alone : (o : Result Packed TextFault) → record_after o [] ≡ Ok r → ⊥
    alone (Ok p) e = cc
    alone (Err fault) e = cc

    behind_table : (o : Result Packed TextFault) (rest : List ℕ) → record_after o (parts_of 32 rest) ≡ Ok r → bytes_eq rest (codes "U") ≡ is_no_claim r.claim
    behind_table (Ok p) rest e = claim_said p.states rest r.claim (claimed p (claim_from p.states (parts_of 32 rest)) e)
    behind_table (Err fault) rest e = absurd (cc)

    by_cut : (cut : Option (List ℕ × List ℕ)) → cut ≡ cut_at 32 text → says_nothing cut ≡ is_no_claim r.claim
    by_cut None is = absurd (alone (table_of text) (subst (λ (parts : List (List ℕ)). record_from parts ≡ Ok r) (split_nowhere 32 text is) reads))
    by_cut (Some (table, rest)) is =
        behind_table (table_of table) rest (subst (λ (parts : List (List ℕ)). record_from parts ≡ Ok r) (split_at_cut 32 text table rest is) reads)

rec_said : (o : Result Recorded RecordFault) (text : List ℕ) (m : Message) → record_of text ≡ o → (read_record o >>= λ r. Some (Rec r)) ≡ Some m
    → says_nothing (cut_at 32 text) ≡ gives_up m
rec_said (Ok r) text m is e = record_said text r is ∙ ap gives_up (some_same (Rec r) m e)
rec_said (Err fault) text m is e = absurd (cc)

abbrev GoesOn : Message → Type 0
GoesOn m = false ≡ gives_up m

ask_goes_on : (text : List ℕ) (m : Message) → ask_in text ≡ Some m → GoesOn m
ask_goes_on text m e = after GoesOn (decimal_value text) _ (λ id m e. by_test id m (nat_lt id (2 ^ 32)) e) m e
  where
    by_test : (id : ℕ) (m : Message) (b : Bool) → cond b (Some (Ask id)) None ≡ Some m → GoesOn m
    by_test id m true e = subst GoesOn (some_same (Ask id) m e) refl
    by_test id m false e = absurd (cc)

other_word : (a b d e f : Bool) (text : List ℕ) (m : Message)
    → cond a (ask_in text) (cond b (grant_in text) (cond d (ack_in text) (cond e (later_in text) (cond f (done_in text) None)))) ≡ Some m → GoesOn m
other_word true b d e f text m is = ask_goes_on text m is
other_word false true d e f text m is = grant_said GoesOn (λ era number table. refl) (λ table. refl) (λ table. refl) (λ era number. refl) refl text m is
other_word false false d e f text m is =
    last_said GoesOn (λ era number table. refl) (λ table. refl) (λ table. refl) (λ era number. refl) refl d e f text m is

pub letters_give_up : (line : List ℕ) (m : Message) → message_of line ≡ Ok m → is_holdout line ≡ gives_up m
unfolding is_holdout
letters_give_up line m e = by_cut (cut_at 32 line) (read_in line m e)
  where
    by_word : (word text : List ℕ) (c : Bool) → bytes_eq word (codes "REC") ≡ c
        → cond (bytes_eq word (codes "ASK")) (ask_in text) (cond (bytes_eq word (codes "GRANT")) (grant_in text) (cond c (rec_in text)
        (cond (bytes_eq word (codes "ACK")) (ack_in text) (cond (bytes_eq word (codes "LATER")) (later_in text) (cond (bytes_eq word (codes "DONE")) (done_in text) None))))) ≡ Some m
        → says_nothing (cond c (Some text) None >>= λ text. cut_at 32 text) ≡ gives_up m
    by_word word text true is e =
        let same = are_same word (codes "REC") is in
        let reads : rec_in text ≡ Some m = subst (λ (w : List ℕ). cond (bytes_eq w (codes "ASK")) (ask_in text) (cond (bytes_eq w (codes "GRANT")) (grant_in text) (rec_in text)) ≡ Some m) same e in
        rec_said (record_of text) text m refl reads
    by_word word text false is e =
        other_word (bytes_eq word (codes "ASK")) (bytes_eq word (codes "GRANT")) (bytes_eq word (codes "ACK")) (bytes_eq word (codes "LATER"))
        (bytes_eq word (codes "DONE")) text m e

    by_cut : (cut : Option (List ℕ × List ℕ)) → message_by line cut ≡ Some m
        → says_nothing ((cut >>= λ (c : List ℕ × List ℕ). cond (bytes_eq c.0 (codes "REC")) (Some c.1) None) >>= λ text. cut_at 32 text) ≡ gives_up m
    by_cut None e = alone_said GoesOn (λ era number table. refl) (λ table. refl) (λ table. refl) (λ era number. refl) refl (bytes_eq line (codes "LATER")) (bytes_eq line (codes "STOP")) m e
    by_cut (Some (word, text)) e = by_word word text (bytes_eq word (codes "REC")) refl e

-- 4. A lease

pub letters_grant : (era number : ℕ) (table : Packed) (more : List ℕ) → era < 2 ^ 64 → number < 2 ^ 64
    → granted (message_text (Grant era number table) ++ (10 ∷ more)) ≡ Some (message_text (Done era number))
unfolding granted message_text
letters_grant era number table more e n =
    let tail = text_of table ++ (10 ∷ more) in
    let front = decimal era ++ codes " " ++ decimal number in
    let joined : (front ++ codes " " ++ text_of table) ++ (10 ∷ more) ≡ decimal era ++ 32 ∷ (decimal number ++ 32 ∷ tail) =
    append_assoc (front ++ codes " ") (text_of table) (10 ∷ more) ∙ append_assoc front (codes " ") tail
    ∙ append_assoc (decimal era ++ codes " ") (decimal number) (32 ∷ tail) ∙ append_assoc (decimal era) (codes " ") (decimal number ++ 32 ∷ tail) in
    ap
    (λ (text : List ℕ). (cut_at 32 text >>= λ (first : List ℕ × List ℕ). cut_at 32 first.1 >>= λ (second : List ℕ × List ℕ). Some (first.0, second.0)) >>= λ (lease : List ℕ × List ℕ).
    Some (codes "DONE " ++ lease.0 ++ codes " " ++ lease.1))
    joined
    ∙ rw (
      cut-append 32 (decimal era) (decimal number ++ 32 ∷ tail) (decimal_without 32 era (lit≤ tt) e),
      cut-append 32 (decimal number) tail (decimal_without 32 number (lit≤ tt) n),
    ) refl
