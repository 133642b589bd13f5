-- The lines of a text that is cut, and of one that is fed in pieces.
use Rattle.std.proofs.Common.{◌≡◌, ℕ, ◌<◌, true, false, cond, List, [], ◌∷◌, ◌++◌, length, Some, None, refl, sym, ap, ◌∙◌, append_assoc, length-append, arith, Result, Ok, Err, subst, append-nil}
use Rattle.std.specs.Prelude.{nat_le, map, is_ok, IsOk, OnOk}
use Rattle.std.specs.List.{onto_first, All}
use Rattle.std.proofs.lemmas.Bool.Decides.{nat_tests}
use Rattle.std.proofs.lemmas.List.Splits.{slice_split-cons_yes, slice_split-cons_no, length-slice_split}
use Rattle.std.specs.declared.alloc.AllocError.{AllocError as NoMemory}
use Rattle.std.proofs.lemmas.List.{map-append}
use Rattle.std.proofs.lemmas.List.Elements.{All-append, All-cons, All-nil}
use Rattle.text.specs.Terms.{line_byte_limit, BoundedLine, bounded_line, with_more, parts_of}
use Rattle.text.proofs.Cuts.{is_newline}
use Rattle.wire.specs.Fulfilled.{going_on, parts_from, but_last, lines_from, last_of, rest_from, Stream, fed, IsShortLine, known}
use Rattle.wire.specs.declared.lines.Line.{Line}

-- The lines of a text that is cut in two, or at its first newline.

-- bytes that are too many stay too many
long_with_more : (bytes more : List ℕ) → nat_le (length bytes) line_byte_limit ≡ false → bounded_line (bytes ++ more) ≡ None
long_with_more bytes more long =
    let sum = length-append bytes more in
    let longer : nat_le (length (bytes ++ more)) line_byte_limit ≡ false = grind (arith, nat_tests) in
    rw longer refl

with_more_twice : (k : BoundedLine) (a b : List ℕ) → with_more (with_more k a) b ≡ with_more k (a ++ b)
with_more_twice None a b = refl
with_more_twice (Some bytes) a b =
    elim (nat_le (length (bytes ++ a)) line_byte_limit) as (λ v. nat_le (length (bytes ++ a)) line_byte_limit ≡ v → with_more (cond v (Some (bytes ++ a)) None) b ≡ bounded_line (bytes ++ (a ++ b))) [
      | true ↦ λ is. ap bounded_line (append_assoc bytes a b)
      | false ↦ λ is. sym (ap bounded_line (sym (append_assoc bytes a b)) ∙ long_with_more (bytes ++ a) b is)
    ] refl

-- a line that begins is one of which nothing was known
begun_anew : (parts : List (List ℕ)) → map bounded_line parts ≡ going_on (Some []) parts
begun_anew [] = refl
begun_anew (part ∷ parts) = refl

going_on_twice : (k : BoundedLine) (a : List ℕ) (parts : List (List ℕ)) (part : List ℕ) → going_on (with_more k a) (part ∷ parts) ≡ going_on k ((a ++ part) ∷ parts)
going_on_twice k a parts part = ap (λ p. p ∷ map bounded_line parts) (with_more_twice k a part)

onto : (k : BoundedLine) (x : ℕ) (parts : List (List ℕ)) → 0 < length parts → going_on k (onto_first x parts) ≡ going_on (with_more k (x ∷ [])) parts
onto k x [] some = absurd (omega arith)
onto k x (part ∷ parts) some = sym (going_on_twice k (x ∷ []) parts part)

some_part : (xs : List ℕ) → 0 < length (parts_of 10 xs)
some_part xs = omega (arith, length-slice_split is_newline xs)

but_last_behind : (p : BoundedLine) (parts : List (List ℕ)) → 0 < length parts → but_last (p ∷ going_on (Some []) parts) ≡ p ∷ but_last (going_on (Some []) parts)
but_last_behind p [] some = absurd (omega arith)
but_last_behind p (part ∷ parts) some = refl

last_behind : (p : BoundedLine) (parts : List (List ℕ)) → 0 < length parts → last_of (p ∷ going_on (Some []) parts) ≡ last_of (going_on (Some []) parts)
last_behind p [] some = absurd (omega arith)
last_behind p (part ∷ parts) some = refl

-- a text whose first part is a line
module _ (k : BoundedLine) (xs line rest : List ℕ) (is : parts_of 10 xs ≡ line ∷ parts_of 10 rest) where
  parts_at : parts_from k xs ≡ with_more k line ∷ parts_from (Some []) rest
  unfolding parts_from
  parts_at = ap (going_on k) is ∙ ap (λ parts. with_more k line ∷ parts) (begun_anew (parts_of 10 rest))

  pub lines_at : lines_from k xs ≡ with_more k line ∷ lines_from (Some []) rest
  unfolding lines_from parts_from
  lines_at = ap but_last parts_at ∙ but_last_behind (with_more k line) (parts_of 10 rest) (some_part rest)

  pub rest_at : rest_from k xs ≡ rest_from (Some []) rest
  unfolding rest_from parts_from
  rest_at = ap last_of parts_at ∙ last_behind (with_more k line) (parts_of 10 rest) (some_part rest)

-- a text that has no newline
module _ (k : BoundedLine) (xs : List ℕ) (is : parts_of 10 xs ≡ xs ∷ []) where
  pub lines_nowhere : lines_from k xs ≡ []
  unfolding lines_from parts_from
  lines_nowhere = ap (λ parts. but_last (going_on k parts)) is

  pub rest_nowhere : rest_from k xs ≡ with_more k xs
  unfolding rest_from parts_from
  rest_nowhere = ap (λ parts. last_of (going_on k parts)) is

-- a byte that is no newline belongs to the line that has begun
parts_other : (k : BoundedLine) (x : ℕ) (xs : List ℕ) → is_newline x ≡ false → parts_from k (x ∷ xs) ≡ parts_from (with_more k (x ∷ [])) xs
unfolding parts_from
parts_other k x xs other = ap (going_on k) (slice_split-cons_no is_newline x xs other) ∙ onto k x (parts_of 10 xs) (some_part xs)

-- no more bytes change nothing
parts_none : (k : BoundedLine) (parts : List (List ℕ)) → going_on (with_more k []) parts ≡ going_on k parts
parts_none k [] = refl
parts_none k (part ∷ parts) = going_on_twice k [] parts part

-- what two texts in turn leave is what both leave as one
pub record Join (k : BoundedLine) (a b : List ℕ) : Type 0 where
  pub lines : lines_from k (a ++ b) ≡ lines_from k a ++ lines_from (rest_from k a) b
  pub rest : rest_from k (a ++ b) ≡ rest_from (rest_from k a) b

joins_none : (k : BoundedLine) (b : List ℕ) → Join k [] b
unfolding lines_from rest_from parts_from
joins_none k b = record {
  lines = ap but_last (sym (parts_none k (parts_of 10 b)));
  rest = ap last_of (sym (parts_none k (parts_of 10 b)));
}

joins_newline : (k : BoundedLine) (x : ℕ) (a b : List ℕ) → is_newline x ≡ true → Join (Some []) a b → Join k (x ∷ a) b
joins_newline k x a b newline j =
    let one = λ (xs : List ℕ). slice_split-cons_yes is_newline x xs newline in
    record {
      lines = lines_at k (x ∷ (a ++ b)) [] (a ++ b) (one (a ++ b)) ∙ ap (λ ls. with_more k [] ∷ ls) j.lines
          ∙ ap (λ r. with_more k [] ∷ (lines_from (Some []) a ++ lines_from r b)) (sym (rest_at k (x ∷ a) [] a (one a)))
          ∙ ap (λ ls. ls ++ lines_from (rest_from k (x ∷ a)) b) (sym (lines_at k (x ∷ a) [] a (one a)));
      rest = rest_at k (x ∷ (a ++ b)) [] (a ++ b) (one (a ++ b)) ∙ j.rest ∙ ap (λ r. rest_from r b) (sym (rest_at k (x ∷ a) [] a (one a)));
    }

lines_other : (k : BoundedLine) (x : ℕ) (xs : List ℕ) → is_newline x ≡ false → lines_from k (x ∷ xs) ≡ lines_from (with_more k (x ∷ [])) xs
unfolding lines_from
lines_other k x xs other = ap but_last (parts_other k x xs other)

rest_other : (k : BoundedLine) (x : ℕ) (xs : List ℕ) → is_newline x ≡ false → rest_from k (x ∷ xs) ≡ rest_from (with_more k (x ∷ [])) xs
unfolding rest_from
rest_other k x xs other = ap last_of (parts_other k x xs other)

joins_other : (k : BoundedLine) (x : ℕ) (a b : List ℕ) → is_newline x ≡ false → Join (with_more k (x ∷ [])) a b → Join k (x ∷ a) b
joins_other k x a b other j = record {
  lines = lines_other k x (a ++ b) other ∙ j.lines
      ∙ ap (λ r. lines_from (with_more k (x ∷ [])) a ++ lines_from r b) (sym (rest_other k x a other))
      ∙ ap (λ ls. ls ++ lines_from (rest_from k (x ∷ a)) b) (sym (lines_other k x a other));
  rest = rest_other k x (a ++ b) other ∙ j.rest ∙ ap (λ r. rest_from r b) (sym (rest_other k x a other));
}

pub joins : (a b : List ℕ) (k : BoundedLine) → Join k a b
joins [] b k = joins_none k b
joins (x ∷ a) b k =
    elim (is_newline x) as (λ v. is_newline x ≡ v → Join k (x ∷ a) b) [
      | true ↦ λ newline. joins_newline k x a b newline (joins a b (Some []))
      | false ↦ λ other. joins_other k x a b other (joins a b (with_more k (x ∷ [])))
    ] refl

pub fed_twice : (s : Stream) (a b : List ℕ) → fed (fed s a) b ≡ fed s (a ++ b)
fed_twice s a b =
    let j = joins a b s.rest in
    let all : (s.waiting ++ lines_from s.rest a) ++ lines_from (rest_from s.rest a) b ≡ s.waiting ++ lines_from s.rest (a ++ b) =
    append_assoc s.waiting (lines_from s.rest a) (lines_from (rest_from s.rest a) b) ∙ ap (λ ls. s.waiting ++ ls) (sym j.lines) in
    ap (λ ls. record { waiting = ls; rest = rest_from (rest_from s.rest a) b }) all
    ∙ ap (λ r. record { waiting = s.waiting ++ lines_from s.rest (a ++ b); rest = r }) (sym j.rest)

-- what follows a text without newline goes on with it
pub goes_on : (begun piece : List ℕ) → parts_of 10 begun ≡ begun ∷ [] → (lines_from (bounded_line begun) piece ≡ lines_from (Some []) (begun ++ piece)) × (rest_from (bounded_line begun) piece ≡ rest_from (Some []) (begun ++ piece))
goes_on begun piece one =
    let j = joins begun piece (Some []) in
    let none = lines_nowhere (Some []) begun one in
    let rest = rest_nowhere (Some []) begun one in (
      sym (j.lines ∙ ap (λ ls. ls ++ lines_from (rest_from (Some []) begun) piece) none ∙ ap (λ r. lines_from r piece) rest),
      sym (j.rest ∙ ap (λ r. rest_from r piece) rest),
    )

-- Lines that are collected, and what feeding them leaves.

-- a line that is cut off goes to the others
pub line_added : (old new : List Line) (line : Line) (text first behind : List ℕ) → new ≡ old ++ (line ∷ []) → known line ≡ bounded_line first
    → parts_of 10 text ≡ first ∷ parts_of 10 behind → map known new ++ lines_from (Some []) behind ≡ map known old ++ lines_from (Some []) text
line_added old new line text first behind is known_line cut =
    ap (λ ls. map known ls ++ lines_from (Some []) behind) is
    ∙ ap (λ ls. ls ++ lines_from (Some []) behind) (map-append known old (line ∷ []))
    ∙ append_assoc (map known old) (known line ∷ []) (lines_from (Some []) behind)
    ∙ ap (λ k. map known old ++ (k ∷ lines_from (Some []) behind)) known_line
    ∙ ap (λ ls. map known old ++ ls) (sym (lines_at (Some []) text first behind cut))

-- all lines are cut off
pub all_cut : (lines : List BoundedLine) (text all : List ℕ) → parts_of 10 text ≡ text ∷ [] → lines ++ lines_from (Some []) text ≡ lines_from (Some []) all → lines ≡ lines_from (Some []) all
all_cut lines text all cut is = sym (append-nil lines) ∙ ap (λ ls. lines ++ ls) (sym (lines_nowhere (Some []) text cut)) ∙ is

pub short_added : (old new : List Line) (line : Line) → new ≡ old ++ (line ∷ []) → All IsShortLine old → IsShortLine line → All IsShortLine new
short_added old new line is before one = subst (All IsShortLine) (sym is) (All-append IsShortLine old (line ∷ []) before (All-cons IsShortLine line [] one (All-nil IsShortLine)))

-- what there is room for is appended
appended : (r : Result (Unit {0}) NoMemory) (new old more : List Line) → IsOk r → new ≡ cond (is_ok r) (old ++ more) old → new ≡ old ++ more
appended (Ok u) new old more ok is = is
appended (Err e) new old more ok is = cc

-- the lines that a queue holds once a line and more lines are moved into it
pub record Moved (old new more : List Line) (line : Line) : Type 0 where
  pub is : new ≡ (old ++ (line ∷ [])) ++ more

pub moved : (r : Result (Unit {0}) NoMemory) (old reserved pushed new more : List Line) (line : Line) → reserved ≡ old → pushed ≡ reserved ++ (line ∷ [])
    → IsOk r → new ≡ cond (is_ok r) (pushed ++ more) pushed → Moved old new more line
moved r old reserved pushed new more line kept added ok is = record {
  is = appended r new pushed more ok is ∙ ap (λ ls. ls ++ more) (added ∙ ap (λ ls. ls ++ (line ∷ [])) kept);
}

pub moved_short : (old new more : List Line) (line : Line) → Moved old new more line → All IsShortLine old → IsShortLine line → All IsShortLine more → All IsShortLine new
moved_short old new more line m before one others =
    subst (All IsShortLine) (sym m.is) (All-append IsShortLine (old ++ (line ∷ [])) more (short_added old (old ++ (line ∷ [])) line refl before one) others)

-- the queue holds the lines of the piece too
pub moved_lines : (old new more : List Line) (line : Line) (begun : BoundedLine) (piece first behind : List ℕ) → Moved old new more line → known line ≡ with_more begun first
    → map known more ≡ lines_from (Some []) behind → parts_of 10 piece ≡ first ∷ parts_of 10 behind
    → map known new ≡ map known old ++ lines_from begun piece
moved_lines old new more line begun piece first behind m one others cut =
    ap (map known) m.is ∙ map-append known (old ++ (line ∷ [])) more ∙ ap (λ ls. ls ++ map known more) (map-append known old (line ∷ []))
    ∙ append_assoc (map known old) (known line ∷ []) (map known more)
    ∙ ap (λ k. map known old ++ (k ∷ map known more)) one ∙ ap (λ ls. map known old ++ (with_more begun first ∷ ls)) others
    ∙ ap (λ ls. map known old ++ ls) (sym (lines_at begun piece first behind cut))

-- of a piece without newline, nothing but the begun line changes
no_line_fed : (waiting : List BoundedLine) (begun new : BoundedLine) (piece : List ℕ) → parts_of 10 piece ≡ piece ∷ [] → new ≡ with_more begun piece
    → record { waiting = waiting; rest = new } ≡ fed (record { waiting = waiting; rest = begun }) piece
no_line_fed waiting begun new piece cut is =
    ap (λ k. record { waiting = waiting; rest = k }) (is ∙ sym (rest_nowhere begun piece cut))
    ∙ ap (λ ls. record { waiting = ls; rest = rest_from begun piece }) (sym (append-nil waiting) ∙ ap (λ ls. waiting ++ ls) (sym (lines_nowhere begun piece cut)))

pub lines_fed : (waiting new : List BoundedLine) (begun rest : BoundedLine) (piece first behind : List ℕ) → new ≡ waiting ++ lines_from begun piece → rest ≡ rest_from (Some []) behind
    → parts_of 10 piece ≡ first ∷ parts_of 10 behind → record { waiting = new; rest = rest } ≡ fed (record { waiting = waiting; rest = begun }) piece
lines_fed waiting new begun rest piece first behind is ends cut =
    ap (λ ls. record { waiting = ls; rest = rest }) is
    ∙ ap (λ k. record { waiting = waiting ++ lines_from begun piece; rest = k }) (ends ∙ sym (rest_at begun piece first behind cut))

pub when_ok : (r : Result (Unit {0}) NoMemory) (p q : Stream) → p ≡ q → OnOk r (p ≡ q)
when_ok (Ok u) p q h = h
when_ok (Err e) p q h = tt

-- where the begun line took the piece, the stream did
pub line_fed : (r : Result (Unit {0}) NoMemory) (waiting : List BoundedLine) (begun new : BoundedLine) (piece : List ℕ) → parts_of 10 piece ≡ piece ∷ []
    → OnOk r (new ≡ with_more begun piece) → OnOk r (record { waiting = waiting; rest = new } ≡ fed (record { waiting = waiting; rest = begun }) piece)
line_fed (Ok u) waiting begun new piece cut is = no_line_fed waiting begun new piece cut is
line_fed (Err e) waiting begun new piece cut is = tt
