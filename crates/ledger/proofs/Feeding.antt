-- What more of a text does to the stage that its loading has come to.
use Rattle.std.proofs.Common.{◌≡◌, ◌≢◌, ℕ, ◌+◌, ◌≤◌, List, [], ◌∷◌, ◌++◌, length, Ok, refl, sym, ap, ◌∙◌, subst, arith, length-append, append_assoc, ◌^◌, ◌<◌, Bool, true, false, cond, Option, Some, None, is_some, ◌⊎◌, Err, inl, inr, append-nil}
use Rattle.std.specs.Prelude.{MatchOption}
use Rattle.std.proofs.lemmas.Bool.Decides.{leb_tells}
use Rattle.std.proofs.lemmas.List.Elements.{All-append}
use Rattle.machine_text.specs.Terms.{Packed}
use Rattle.cert.specs.Terms.{Recorded, record_of, record_byte_limit}
use Rattle.ledger.specs.LedgerText.{header_words, ledger_record, IsTaken, AreTaken, IsUnkeptLine, IsUnkept, HasHeader, standing_record, LineGives, ReadsIn, LoadGives}
use Rattle.text.specs.Terms.{joined, HasNoNewline, BeginsWithLine}
use Rattle.ledger.specs.declared.header.Format.{Format}
use Rattle.ledger.specs.declared.loading.Unkept.{Unkept}
use Rattle.ledger.specs.declared.loading.Unkept.TheVariants.{Torn, Unread, Unfit, Repeated}
use Rattle.ledger.proofs.HeaderLaws.{words_length}
use Rattle.cert.specs.declared.record.RecordFault.TheVariants.{TooLong}
use Rattle.ledger.specs.Records.{Contents}
use Rattle.ledger.specs.Loading.{record_start, IsAllTaken, IsLeftSo, IsBodyOf}
use Rattle.ledger.specs.declared.body.Body.{Body}
use Rattle.ledger.specs.declared.loading.Left.{Left}
use Rattle.ledger.specs.declared.loading.Left.TheVariants.{Nothing, From}
use Rattle.ledger.specs.inside.Taking.{GoesBehind, LineTaken, BodyEnds, IsHeaded}

-- Lines that are taken one after another.

-- one more line
pub taken_more : (format : Format) (root : Packed) (old mid new : List Recorded) (lines : List (List ℕ)) (line : List ℕ) (r : Recorded) → AreTaken format root old lines mid
    → HasNoNewline line → ledger_record format line ≡ Ok r → IsTaken root mid r new → AreTaken format root old (lines ++ (line ∷ [])) new
taken_more format root old mid new [] line r taken one reads last = (r, new, one, reads, subst (λ (l : List Recorded). IsTaken root l r new) taken last, refl)
taken_more format root old mid new (first ∷ lines) line r taken one reads last =
    (taken.0, taken.1, taken.2, taken.3, taken.4, taken_more format root taken.1 mid new lines line r taken.5 one reads last)

pub joined-append : (lines more : List (List ℕ)) → joined (lines ++ more) ≡ joined lines ++ joined more
joined-append [] more = refl
joined-append (line ∷ lines) more =
    ap (λ (l : List ℕ). line ++ (10 ∷ l)) (joined-append lines more) ∙ sym (append_assoc line (10 ∷ joined lines) (joined more))

-- why a line isn't kept is why nothing is kept of the text that begins with it
pub unkept : (format : Format) (root : Packed) (rs : List Recorded) (rest line after : List ℕ) (why : Unkept) → BeginsWithLine rest line after → IsUnkeptLine format root rs line why
    → IsUnkept format root rs rest why
unkept format root rs rest line after Torn begins is = absurd is
unkept format root rs rest line after (Unread f) begins is = (line, after, begins, is)
unkept format root rs rest line after (Unfit f) begins is = (line, after, begins, is)
unkept format root rs rest line after Repeated begins is = (line, after, begins, is)

-- a header is longer than two bytes
pub behind_header : (text : List ℕ) (root : Packed) (body : List ℕ) → HasHeader text root body → length body + 2 ≤ length text
behind_header text root body header =
    omega (arith, ap length header.line.is, length-append (header_words header.format ++ header.name) (10 ∷ body), length-append (header_words header.format) header.name, words_length header.format)

-- A text that is loaded in pieces: what more of it does to the stage that it has come to.

-- a text that begins with a line still does with more behind it
pub longer_text : {text line rest : List ℕ} (more : List ℕ) → BeginsWithLine text line rest → BeginsWithLine (text ++ more) line (rest ++ more)
longer_text {text} {line} {rest} more begins = record {
  is = ap (λ l. l ++ more) begins.is ∙ append_assoc line (10 ∷ rest) more;
  one_line = begins.one_line;
}

abbrev pub header_more : (text more : List ℕ) (root : Packed) (rest : List ℕ) → HasHeader text root rest → HasHeader (text ++ more) root (rest ++ more)
header_more text more root rest header = record { format = header.format; name = header.name; line = longer_text more header.line; reads = header.reads }

pub headed_more : (root : Packed) (text more : List ℕ) → IsHeaded root text → IsHeaded root (text ++ more)
headed_more root text more headed = (headed.0 ++ more, header_more text more root headed.0 headed.1)

pub no_newline_more : (line more : List ℕ) → HasNoNewline line → HasNoNewline more → HasNoNewline (line ++ more)
no_newline_more line more none none' = All-append (λ byte. byte ≢ 10) line more none none'

-- a line with its newline
pub line_ends : (line rest : List ℕ) → HasNoNewline line → BeginsWithLine ((line ++ (10 ∷ [])) ++ rest) line rest
line_ends line rest none = record { is = append_assoc line (10 ∷ []) rest; one_line = none }

-- what is kept of a line of records
start_cases : (line : List ℕ) → ((length line ≤ record_byte_limit) × (record_start line ≡ Some line)) ⊎ ((record_byte_limit < length line) × (record_start line ≡ None))
start_cases line = elim (leb_tells (length line) record_byte_limit) [
  | inl t ↦ inl (t.1, ap (λ (b : Bool). cond b (Some line) None) t.0)
  | inr t ↦ inr (t.1, ap (λ (b : Bool). cond b (Some line) None) t.0)
]

pub start_is : (line bytes : List ℕ) → Some bytes ≡ record_start line → bytes ≡ line
start_is line bytes kept = elim (start_cases line) [ inl t ↦ let is = t.1 in cc | inr t ↦ let is = t.1 in absurd (cc) ]

pub start_over : (line : List ℕ) → None ≡ record_start line → record_byte_limit < length line
start_over line kept = elim (start_cases line) [ inl t ↦ let is = t.1 in absurd (cc) | inr t ↦ t.0 ]

pub start_within : (line : List ℕ) → length line ≤ record_byte_limit → Some line ≡ record_start line
start_within line within = elim (start_cases line) [ inl t ↦ sym t.1 | inr t ↦ absurd (omega (arith, t.0)) ]

read_too_long : (line : List ℕ) → record_byte_limit < length line → record_of line ≡ Err TooLong
unfolding record_of
read_too_long line past = elim (leb_tells (length line) record_byte_limit) [
  | inl t ↦ absurd (omega (arith, past, t.1))
  | inr t ↦ grind (arith, leb_tells)
]

pub too_long : (format : Format) (line : List ℕ) → record_byte_limit < length line → ledger_record format line ≡ Err TooLong
unfolding ledger_record
too_long format line past = ap (standing_record format) (read_too_long line past)

-- there are no more lines than bytes
lines_fit : (lines : List (List ℕ)) → length lines ≤ length (joined lines)
lines_fit [] = omega arith
lines_fit (line ∷ lines) = omega (arith, lines_fit lines, length-append line (10 ∷ joined lines))

module _ (root : Packed) (text : List ℕ) (body : Body) where
  pub all_taken : body.left ≡ None → IsBodyOf root text body → IsAllTaken root text body
  all_taken none is = subst (λ (left : Option Left). MatchOption left (IsAllTaken root text body) (IsLeftSo root text body)) none is.1

  pub left_so : (left : Left) → body.left ≡ Some left → IsBodyOf root text body → IsLeftSo root text body left
  left_so left some is = subst (λ (left : Option Left). MatchOption left (IsAllTaken root text body) (IsLeftSo root text body)) some is.1

  pub is_all_taken : body.left ≡ None → body.board.root ≡ root → IsAllTaken root text body → IsBodyOf root text body
  is_all_taken none same is = (same, subst (λ (left : Option Left). MatchOption left (IsAllTaken root text body) (IsLeftSo root text body)) (sym none) is)

  pub is_left_so : (left : Left) → body.left ≡ Some left → body.board.root ≡ root → IsLeftSo root text body left → IsBodyOf root text body
  is_left_so left some same is = (same, subst (λ (left : Option Left). MatchOption left (IsAllTaken root text body) (IsLeftSo root text body)) (sym some) is)

some_left : (left : Option Left) (r : Bool) → r ≡ is_some left → r ≡ true → (l : Left) × (left ≡ Some l)
some_left None r is holds = absurd (cc)
some_left (Some left) r is holds = (left, refl)

-- where a line wasn't kept, nothing more is
pub stays_left : (body : Body) (r : Bool) → r ≡ is_some body.left → r ≡ true → (more : List ℕ) (root : Packed) (text : List ℕ) → IsBodyOf root text body
    → IsBodyOf root (text ++ more) body
stays_left body r is holds more root text stands =
    let l = some_left body.left r is holds in
    let was = left_so root text body l.0 l.1 stands in
    is_left_so root (text ++ more) body l.0 l.1 stands.0 (record {
      reads = λ tail. subst (λ (t : List ℕ). ReadsIn body.board.format root t body.board.records l.0) (sym (append_assoc text more tail)) (was.reads (more ++ tail));
      kept = was.kept;
    })

-- more bytes of a line
pub line_grows : (root : Packed) (text part : List ℕ) (old new : Body) → HasNoNewline part → old.left ≡ None → new.left ≡ None → new.board ≡ old.board
    → new.number ≡ old.number → new.before ≡ old.before → ((line : List ℕ) → old.line ≡ record_start line → new.line ≡ record_start (line ++ part))
    → IsBodyOf root text old → IsBodyOf root (text ++ part) new
line_grows root text part old new one_line none none' board number before kept is =
    let was = all_taken root text old none is in
    is_all_taken root (text ++ part) new none' (ap (λ (b : Contents). b.root) board ∙ is.0) (record {
      behind = was.behind ++ part;
      header = header_more text part root was.behind was.header;
      lines = was.lines;
      line = was.line ++ part;
      is = ap (λ (l : List ℕ). l ++ part) was.is ∙ append_assoc (joined was.lines) was.line part;
      version = was.version ∙ ap (λ (b : Contents). b.format) (sym board);
      taken = subst (λ (b : Contents). AreTaken was.header.format root [] was.lines b.records) (sym board) was.taken;
      number = number ∙ was.number;
      before = omega (arith, before, was.before, length-append was.line part, length-append text part);
      unfinished = no_newline_more was.line part was.unfinished one_line;
      kept = kept was.line was.kept;
    })

-- a line that is taken
line_taken : (root : Packed) (text part : List ℕ) (after : ℕ) (old new : Body) (was : IsAllTaken root text old) → old.board.root ≡ root → HasNoNewline part
    → length text + length part + 1 ≡ after → after < 2 ^ 64 → LineGives old.board.format old.board.root old.board.records (was.line ++ part) None new.board.records
    → new.board.format ≡ old.board.format → GoesBehind old None after new → new.line ≡ Some [] → IsAllTaken root (text ++ (part ++ (10 ∷ []))) new
line_taken root text part after old new was same one_line all small gives format_same on empty =
    let tail = part ++ (10 ∷ []) in
    let line = was.line ++ part in
    let ends : was.line ++ tail ≡ line ++ (10 ∷ []) = sym (append_assoc was.line part (10 ∷ [])) in
    let few : length was.lines + 3 ≤ after =
    omega (arith, all, lines_fit was.lines, ap length was.is, length-append (joined was.lines) was.line, behind_header text root was.behind was.header) in
    record {
      behind = was.behind ++ tail;
      header = header_more text tail root was.behind was.header;
      lines = was.lines ++ (line ∷ []);
      line = [];
      is = ap (λ (l : List ℕ). l ++ tail) was.is ∙ (append_assoc (joined was.lines) was.line tail ∙ (ap (λ (l : List ℕ). joined was.lines ++ l) ends
          ∙ (sym (joined-append was.lines (line ∷ [])) ∙ sym (append-nil (joined (was.lines ++ (line ∷ [])))))));
      version = was.version ∙ sym format_same;
      taken = taken_more was.header.format root [] old.board.records new.board.records was.lines line gives.0 was.taken (no_newline_more was.line part was.unfinished one_line)
          (subst (λ (f : Format). ledger_record f line ≡ Ok gives.0) (sym was.version) gives.1)
          (subst (λ (p : Packed). IsTaken p old.board.records gives.0 new.board.records) same gives.2);
      number = omega (arith, on.0, was.number, few, small, length-append was.lines (line ∷ []));
      before = omega (arith, on.1, all, length-append text tail, length-append part (10 ∷ []));
      unfinished = λ k d below. absurd (omega arith);
      kept = empty ∙ start_within [] (omega arith);
    }

-- a line that isn't kept, whatever follows
line_unkept : (root : Packed) (text part : List ℕ) (old : Body) (why : Unkept) (rs : List Recorded) (was : IsAllTaken root text old) → HasNoNewline part
    → rs ≡ old.board.records → IsUnkeptLine old.board.format root old.board.records (was.line ++ part) why
    → (more : List ℕ) → ReadsIn old.board.format root (text ++ ((part ++ (10 ∷ [])) ++ more)) rs (From old.number old.before why)
line_unkept root text part old why rs was one_line same unkept_line more =
    let tail = (part ++ (10 ∷ [])) ++ more in
    let rest = was.line ++ tail in
    let line = was.line ++ part in
    let begins : BeginsWithLine rest line more = record {
      is = ap (λ (l : List ℕ). was.line ++ l) (append_assoc part (10 ∷ []) more) ∙ sym (append_assoc was.line part (10 ∷ more));
      one_line = no_newline_more was.line part was.unfinished one_line;
    } in
    let format = was.header.format in
    let unkept_here : IsUnkeptLine format root rs line why =
    subst (λ (l : List Recorded). IsUnkeptLine format root l line why) (sym same) (subst (λ (f : Format). IsUnkeptLine f root old.board.records line why) (sym was.version) unkept_line) in
    record {
      reads = record {
        body = was.behind ++ tail;
        header = header_more text tail root was.behind was.header;
        keeps = record {
          lines = was.lines;
          rest = rest;
          is = ap (λ (l : List ℕ). l ++ tail) was.is ∙ append_assoc (joined was.lines) was.line tail;
          taken = subst (λ (l : List Recorded). AreTaken format root [] was.lines l) (sym same) was.taken;
          ends = (
            was.number,
            omega (arith, was.before, length-append was.line tail, length-append text tail),
            unkept format root rs rest line more why begins unkept_here,
          );
        };
      };
      version = was.version;
    }

-- a line that ends
line_stands : (root : Packed) (text part : List ℕ) (after : ℕ) (old new : Body) (why : Option Unkept) (was : IsAllTaken root text old) → old.board.root ≡ root
    → HasNoNewline part → length text + length part + 1 ≡ after → after < 2 ^ 64 → LineGives old.board.format old.board.root old.board.records (was.line ++ part) why new.board.records
    → new.board.root ≡ old.board.root → new.board.format ≡ old.board.format → GoesBehind old why after new → new.line ≡ Some [] → IsBodyOf root (text ++ (part ++ (10 ∷ []))) new
line_stands root text part after old new None was same one_line all small gives root_same format_same on empty =
    is_all_taken root (text ++ (part ++ (10 ∷ []))) new on.2 (root_same ∙ same) (line_taken root text part after old new was same one_line all small gives format_same on empty)
line_stands root text part after old new (Some why) was same one_line all small gives root_same format_same on empty =
    let unkept_line = subst (λ (p : Packed). IsUnkeptLine old.board.format p old.board.records (was.line ++ part) why) same gives.0 in
    is_left_so root (text ++ (part ++ (10 ∷ []))) new (From old.number old.before why) on (root_same ∙ same) (record {
      reads = λ more.
          subst (λ (f : Format). ReadsIn f root ((text ++ (part ++ (10 ∷ []))) ++ more) new.board.records (From old.number old.before why)) (sym format_same)
          (subst (λ (l : List ℕ). ReadsIn old.board.format root l new.board.records (From old.number old.before why)) (sym (append_assoc text (part ++ (10 ∷ [])) more))
          (line_unkept root text part old why new.board.records was one_line gives.1 unkept_line more));
      kept = empty;
    })

-- it stood whole in its last part
pub whole_ends : (part : List ℕ) (after : ℕ) (old new : Body) → HasNoNewline part → after < 2 ^ 64 → old.left ≡ None → old.line ≡ Some [] → LineTaken old part after new
    → BodyEnds old part after new
whole_ends part after old new one_line small none empty done root text all is =
    let was = all_taken root text old none is in
    let nothing : was.line ≡ [] = sym (start_is was.line [] (sym empty ∙ was.kept)) in
    line_stands root text part after old new done.why was is.0 one_line all small
    (subst (λ (l : List ℕ). LineGives old.board.format old.board.root old.board.records (l ++ part) done.why new.board.records) (sym nothing) done.gives) done.root done.format
    done.goes_on done.empty

-- its last part came behind what had come before
pub begun_ends : (part : List ℕ) (after : ℕ) (old mid new : Body) → HasNoNewline part → after < 2 ^ 64 → old.left ≡ None → mid.left ≡ None → mid.board ≡ old.board
    → mid.number ≡ old.number → mid.before ≡ old.before → ((line : List ℕ) → old.line ≡ record_start line → mid.line ≡ record_start (line ++ part))
    → ((line : List ℕ) → mid.line ≡ record_start line → LineTaken mid line after new) → BodyEnds old part after new
begun_ends part after old mid new one_line small none none' board number before kept done root text all is =
    let grown = line_grows root text part old mid one_line none none' board number before kept is in
    let was = all_taken root (text ++ part) mid none' grown in
    let last = done was.line was.kept in
    let nothing : List ℕ = [] in
    let size : length (text ++ part) + length nothing + 1 ≡ after = omega (arith, all, length-append text part) in
    let ended = line_stands root (text ++ part) nothing after mid new last.why was grown.0 (λ k d below. absurd (omega arith)) size small
    (subst (λ (l : List ℕ). LineGives mid.board.format mid.board.root mid.board.records l last.why new.board.records) (sym (append-nil was.line)) last.gives) last.root last.format
    last.goes_on last.empty in
    subst (λ (l : List ℕ). IsBodyOf root l new) (append_assoc text part (10 ∷ [])) ended

-- the text ends here
pub ends_whole : (root : Packed) (text : List ℕ) (body : Body) → body.left ≡ None → body.line ≡ Some [] → IsBodyOf root text body → LoadGives root text (Ok (body.board, Nothing))
ends_whole root text body none empty is =
    let was = all_taken root text body none is in
    let nothing : was.line ≡ [] = sym (start_is was.line [] (sym empty ∙ was.kept)) in (
      is.0,
      inr (record {
        reads = record { body = was.behind; header = was.header; keeps = record { lines = was.lines; rest = was.line; is = was.is; taken = was.taken; ends = nothing } };
        version = was.version;
      }),
    )

pub ends_torn : (root : Packed) (text : List ℕ) (body : Body) → body.left ≡ None → body.line ≢ Some [] → IsBodyOf root text body
    → LoadGives root text (Ok (body.board, From body.number body.before Torn))
ends_torn root text body none some is =
    let was = all_taken root text body none is in
    let not_empty : was.line ≢ [] = λ e. some (was.kept ∙ (ap record_start e ∙ sym (start_within [] (omega arith)))) in (
      is.0,
      inr (record {
        reads = record {
          body = was.behind;
          header = was.header;
          keeps = record {
            lines = was.lines;
            rest = was.line;
            is = was.is;
            taken = was.taken;
            ends = (was.number, was.before, (was.unfinished, not_empty));
          };
        };
        version = was.version;
      }),
    )

pub ends_left : (root : Packed) (text : List ℕ) (body : Body) (left : Left) → body.left ≡ Some left → IsBodyOf root text body → LoadGives root text (Ok (body.board, left))
ends_left root text body left some is =
    let was = left_so root text body left some is in
    (is.0, inr (subst (λ (l : List ℕ). ReadsIn body.board.format root l body.board.records left) (append-nil text) (was.reads [])))

-- a body of which no line wasn't kept has the header
pub body_headed : (root : Packed) (text : List ℕ) (body : Body) → body.left ≡ None → IsBodyOf root text body → IsHeaded root text
body_headed root text body none is = let was = all_taken root text body none is in (was.behind, was.header)

pub none_left : (left : Option Left) (r : Bool) → r ≡ is_some left → r ≡ false → left ≡ None
none_left None r is fails = refl
none_left (Some left) r is fails = absurd (cc)
