-- The first of each table in lists of words, columns or records, and how texts are cut into words.
use Rattle.std.proofs.Common.{◌≡◌, ℕ, Bool, true, false, not, cond, List, [], ◌∷◌, ◌++◌, flat_map, map, Option, Some, None, Result, Ok, Err, sym, ap, ◌∙◌, subst, refl, append_assoc, append-nil, inl, inr, suc, ◌+◌, ◌<◌, ◌≤◌, ltb, length, take, drop, arith}
use Rattle.std.proofs.lemmas.Bool.{cases_Bool}
use Rattle.std.specs.Borrow.{Bor}
use Rattle.std.specs.Str.{IsTrimAscii}
use Rattle.std.specs.Io.KnownBytes.{Appends}
use Rattle.std.specs.List.{list_any, position_or_len, slice_split, onto_first}
use Rattle.std.specs.Prelude.{position}
use Rattle.std.proofs.lemmas.Bool.Decides.{nat_tests}
use Rattle.indexmap.specs.IndexSet.{insert_key}
use Rattle.machine_text.specs.Terms.{Packed}
use Rattle.machine_text.specs.declared.grammar.TextFault.{TextFault}
use Rattle.cert.specs.Terms.{Recorded}
use Rattle.cert.specs.declared.record.RecordFault.{RecordFault}
use Rattle.cmd_lines.specs.Answer.{read_line}
use Rattle.cmd_options.specs.declared.ended.Ended.{Ended}
use Rattle.cmd_options.specs.declared.ended.Outcome.{Outcome}
use Rattle.cmd_options.specs.declared.ended.Outcome.TheVariants.{Accepted}
use Rattle.cmd_lines.specs.Stream.{IsSaidToFirst, WritesFirst, AreTakenBy, TakesStream, first_fault}
use Rattle.cmd_lines.specs.Lines.{lent}
use Rattle.cmd_options.specs.declared.options.Listing.{Listing}
use Rattle.cmd_lines.specs.Listed.{Found, alone, found_by, tables_of, first_ones, found_line, same_packed, IsPrinted, ArePrinted, AreFoundIn, IsFoundIn, ListsFirst, ListsTables, columns, words, is_row, table_in, tables_in, tables_of_column, tables_of_columns, tables_of_line, tables_of_word}
use Rattle.cmd_lines.proofs.AnsweredPieces.{said_so, stream_first}
use Rattle.cmd_lines.specs.inside.{PrintsFirst, ListsFor, ListsLine, columns_left, words_left, left_tables}

-- The first of each table.

-- what is found of a table that came before, and of one that didn't
first_came : (came : List Packed) (f : Found) (found : List Found) → list_any (same_packed f.table) came ≡ true → first_ones came (f ∷ found) ≡ first_ones came found
unfolding first_ones
first_came came f found is = ap (λ (b : Bool). cond b (first_ones came found) (f ∷ first_ones (came ++ f.table ∷ []) found)) is

first_new : (came : List Packed) (f : Found) (found : List Found) → list_any (same_packed f.table) came ≡ false → first_ones came (f ∷ found) ≡ f ∷ first_ones (came ++ f.table ∷ []) found
unfolding first_ones
first_new came f found is = ap (λ (b : Bool). cond b (first_ones came found) (f ∷ first_ones (came ++ f.table ∷ []) found)) is

first_none : (came : List Packed) → first_ones came [] ≡ []
unfolding first_ones
first_none came = refl

by_test : {P : Type 0} (b : Bool) → (b ≡ true → P) → (b ≡ false → P) → P
by_test b held missed = elim (cases_Bool b) [ inl is ↦ held is | inr is ↦ missed is ]

first_both : (came : List Packed) (xs ys : List Found) → first_ones came (xs ++ ys) ≡ first_ones came xs ++ first_ones (came ++ tables_of (first_ones came xs)) ys
first_both came [] ys =
    sym (ap (λ (f : List Found). f ++ first_ones (came ++ tables_of f) ys) (first_none came) ∙ ap (λ (c : List Packed). first_ones c ys) (append-nil came))
first_both came (f ∷ xs) ys =
    by_test (list_any (same_packed f.table) came)
    (λ held. first_came came f (xs ++ ys) held ∙ (first_both came xs ys ∙ sym (ap (λ (k : List Found). k ++ first_ones (came ++ tables_of k) ys) (first_came came f xs held))))
    (λ missed.
    let more = came ++ f.table ∷ [] in
    let later = first_ones more xs in
    first_new came f (xs ++ ys) missed
    ∙ (ap (λ (k : List Found). f ∷ k) (first_both more xs ys ∙ ap (λ (c : List Packed). later ++ first_ones c ys) (append_assoc came (f.table ∷ []) (tables_of later)))
    ∙ sym (ap (λ (k : List Found). k ++ first_ones (came ++ tables_of k) ys) (first_new came f xs missed))))

flat_both : (xs ys : List Found) → flat_map found_line (xs ++ ys) ≡ flat_map found_line xs ++ flat_map found_line ys
flat_both [] ys = refl
flat_both (f ∷ xs) ys = ap (λ (s : List ℕ). found_line f ++ s) (flat_both xs ys) ∙ sym (append_assoc (found_line f) (flat_map found_line xs) (flat_map found_line ys))

tables_both : (xs ys : List Found) → tables_of (xs ++ ys) ≡ tables_of xs ++ tables_of ys
tables_both [] ys = refl
tables_both (f ∷ xs) ys = ap (λ (ts : List Packed). f.table ∷ ts) (tables_both xs ys)

alone_both : (xs ys : List Packed) → map alone (xs ++ ys) ≡ map alone xs ++ map alone ys
alone_both [] ys = refl
alone_both (t ∷ xs) ys = ap (λ (k : List Found). alone t ∷ k) (alone_both xs ys)

pub lists_both : (a : List Packed) (xs : List Found) (b : List Packed) (ys : List Found) (c : List Packed) (s u : List ℕ) → PrintsFirst a xs b s → PrintsFirst b ys c u → PrintsFirst a (xs ++ ys) c (s ++ u)
lists_both a xs b ys c s u first second =
    let f = first_ones a xs in
    let g : first_ones b ys ≡ first_ones (a ++ tables_of f) ys = ap (λ (k : List Packed). first_ones k ys) first.came_new in
    let all : f ++ first_ones b ys ≡ first_ones a (xs ++ ys) = ap (λ (k : List Found). f ++ k) g ∙ sym (first_both a xs ys) in
    record {
      came_new = second.came_new ∙ (ap (λ (k : List Packed). k ++ tables_of (first_ones b ys)) first.came_new ∙ (append_assoc a (tables_of f) (tables_of (first_ones b ys)) ∙ ap (λ (k : List Packed). a ++ k) (sym (tables_both f (first_ones b ys)) ∙ ap tables_of all)));
      said_new = ap (λ (t : List ℕ). t ++ u) first.said_new ∙ (ap (λ (t : List ℕ). flat_map found_line f ++ t) second.said_new ∙ (sym (flat_both f (first_ones b ys)) ∙ ap (flat_map found_line) all));
    }

-- what is printed of some, and of others behind them
printed_both : (l : Listing) (xs ys ps qs : List Found) → ArePrinted l xs ps → ArePrinted l ys qs → ArePrinted l (xs ++ ys) (ps ++ qs)
printed_both l [] ys ps qs none so = subst (λ (k : List Found). ArePrinted l ys (k ++ qs)) (sym none) so
printed_both l (f ∷ xs) ys ps qs (first, others, is, printed, more) so =
    (first, others ++ qs, ap (λ (k : List Found). k ++ qs) is, printed, printed_both l xs ys others qs more so)

lists_so : (l : Listing) (a : List Packed) (xs : List Found) (b : List Packed) (ys : List Found) (c : List Packed) (s u : List ℕ) → ListsFor l a xs b s → ListsFor l b ys c u → ListsFor l a (xs ++ ys) c (s ++ u)
lists_so l a xs b ys c s u (ps, first_printed, first) (qs, second_printed, second) =
    (ps ++ qs, printed_both l xs ys ps qs first_printed second_printed, lists_both a ps b qs c s u first second)

-- the same of tables alone
pub lists_for_both : (l : Listing) (a xs b ys c : List Packed) (s u : List ℕ) → ListsFor l a (map alone xs) b s → ListsFor l b (map alone ys) c u → ListsFor l a (map alone (xs ++ ys)) c (s ++ u)
lists_for_both l a xs b ys c s u first second =
    subst (λ (k : List Found). ListsFor l a k c (s ++ u)) (sym (alone_both xs ys)) (lists_so l a (map alone xs) b (map alone ys) c s u first second)

lists_nothing : (came : List Packed) → PrintsFirst came [] came []
lists_nothing came = record {
  came_new = sym (ap (λ (k : List Found). came ++ tables_of k) (first_none came) ∙ append-nil came);
  said_new = sym (ap (flat_map found_line) (first_none came));
}

pub lists_for_nothing : (l : Listing) (came : List Packed) → ListsFor l came [] came []
lists_for_nothing l came = ([], refl, lists_nothing came)

-- a column that is no table
pub lists_none : (l : Listing) (came ts : List Packed) (r : Result Packed TextFault) (f : TextFault) → table_in r ≡ ts → r ≡ Err f → ListsFor l came (map alone ts) came []
lists_none l came ts r f reads is = subst (λ (k : List Packed). ListsFor l came (map alone k) came []) (sym (ap table_in is) ∙ reads) (lists_for_nothing l came)

printed_one : (l : Listing) (f p : Found) → IsPrinted l f p → ArePrinted l (f ∷ []) (p ∷ [])
printed_one l f p is = (p, [], refl, is, refl)

-- one of which what is printed came before, and one of which it comes first
pub one_double : (l : Listing) (came new : List Packed) (f p : Found) → IsPrinted l f p → list_any (same_packed p.table) came ≡ true → new ≡ insert_key same_packed came p.table → ListsFor l came (f ∷ []) new []
one_double l came new f p printed double put =
    let kept : new ≡ came = put ∙ ap (λ (b : Bool). cond b came (came ++ p.table ∷ [])) double in
    let none : first_ones came (p ∷ []) ≡ [] = first_came came p [] double ∙ first_none came in (
      p ∷ [],
      printed_one l f p printed,
      record {
        came_new = kept ∙ sym (ap (λ (k : List Found). came ++ tables_of k) none ∙ append-nil came);
        said_new = sym (ap (flat_map found_line) none);
      },
    )

pub one_first : (l : Listing) (came new : List Packed) (f p : Found) → IsPrinted l f p → list_any (same_packed p.table) came ≡ false → new ≡ insert_key same_packed came p.table → ListsFor l came (f ∷ []) new (found_line p)
one_first l came new f p printed first put =
    let grown : new ≡ came ++ p.table ∷ [] = put ∙ ap (λ (b : Bool). cond b came (came ++ p.table ∷ [])) first in
    let one : first_ones came (p ∷ []) ≡ p ∷ [] = first_new came p [] first ∙ ap (λ (k : List Found). p ∷ k) (first_none (came ++ p.table ∷ [])) in (
      p ∷ [],
      printed_one l f p printed,
      record {
        came_new = grown ∙ sym (ap (λ (k : List Found). came ++ tables_of k) one);
        said_new = sym (ap (flat_map found_line) one ∙ append-nil (found_line p));
      },
    )

-- the same of a column that is a table
pub lists_double : (l : Listing) (came new ts : List Packed) (r : Result Packed TextFault) (t p : Packed) → table_in r ≡ ts → r ≡ Ok t → IsPrinted l (alone t) (alone p) → list_any (same_packed p) came ≡ true → new ≡ insert_key same_packed came p
    → ListsFor l came (map alone ts) new []
lists_double l came new ts r t p reads is printed double put =
    subst (λ (k : List Packed). ListsFor l came (map alone k) new []) (sym (ap table_in is) ∙ reads) (one_double l came new (alone t) (alone p) printed double put)

pub lists_first : (l : Listing) (came new ts : List Packed) (r : Result Packed TextFault) (t p : Packed) → table_in r ≡ ts → r ≡ Ok t → IsPrinted l (alone t) (alone p) → list_any (same_packed p) came ≡ false → new ≡ insert_key same_packed came p
    → ListsFor l came (map alone ts) new (found_line (alone p))
lists_first l came new ts r t p reads is printed first put =
    subst (λ (k : List Packed). ListsFor l came (map alone k) new (found_line (alone p))) (sym (ap table_in is) ∙ reads) (one_first l came new (alone t) (alone p) printed first put)

-- what `put_first` answers, the other way round
pub came_before : (came : List Packed) (t : Packed) (first : Bool) → first ≡ not (list_any (same_packed t) came) → first ≡ false → list_any (same_packed t) came ≡ true
came_before came t first is none = by_test (list_any (same_packed t) came) (λ held. held) (λ missed. absurd (let e : false ≡ true = sym none ∙ (is ∙ ap not missed) in cc))

pub came_not : (came : List Packed) (t : Packed) (first : Bool) → first ≡ not (list_any (same_packed t) came) → first ≡ true → list_any (same_packed t) came ≡ false
came_not came t first is some = by_test (list_any (same_packed t) came) (λ held. absurd (let e : true ≡ false = sym some ∙ (is ∙ ap not held) in cc)) (λ missed. missed)

-- what is left of a line
left_words : (o : Option (Bor (List ℕ))) → flat_map tables_of_word (words_left o) ≡ left_tables o
left_words None = refl
left_words (Some text) = refl

pub left_more : (all done : List Packed) (text word : List ℕ) (rest : Option (Bor (List ℕ))) → all ≡ done ++ tables_in text → words text ≡ word ∷ words_left rest
    → all ≡ (done ++ tables_of_word word) ++ left_tables rest
left_more all done text word rest is cut =
    let one : tables_in text ≡ tables_of_word word ++ left_tables rest =
    ap (flat_map tables_of_word) cut ∙ ap (λ (k : List Packed). tables_of_word word ++ k) (left_words rest)
    in
    is ∙ (ap (λ (k : List Packed). done ++ k) one ∙ sym (append_assoc done (tables_of_word word) (left_tables rest)))

-- and of a word
pub columns_more : (all done : List Packed) (behind : Bool) (text column : List ℕ) (rest : Option (Bor (List ℕ))) → all ≡ done ++ tables_of_columns behind (columns text) → columns text ≡ column ∷ columns_left rest
    → all ≡ (done ++ tables_of_column behind column) ++ tables_of_columns (is_row column) (columns_left rest)
columns_more all done behind text column rest is cut =
    is ∙ (ap (λ (k : List (List ℕ)). done ++ tables_of_columns behind k) cut ∙ sym (append_assoc done (tables_of_column behind column) (tables_of_columns (is_row column) (columns_left rest))))

pub left_none : (all done : List Packed) (o : Option (Bor (List ℕ))) → all ≡ done ++ left_tables o → o ≡ None → all ≡ done
left_none all done o is none = is ∙ (ap (λ (k : Option (Bor (List ℕ))). done ++ left_tables k) none ∙ append-nil done)

pub grown : (old done out line new : List ℕ) → out ≡ old ++ done → new ≡ out ++ line → new ≡ old ++ (done ++ line)
grown old done out line new is more = more ∙ (ap (λ t. t ++ line) is ∙ append_assoc old done line)

module _ {D : Type 0} (listing : D → Listing) (came : D → List Packed) where
  lines_listed : (old : D) (lines : List (List ℕ)) (o : Outcome) (new : D) (said : List ℕ) → AreTakenBy (ListsLine listing came) old lines o new said
      → (o ≡ Accepted) × (found : List Found) × AreFoundIn (listing old) lines found × ListsFor (listing old) (came old) found (came new) said
  lines_listed old [] o new said (is, same, none) = (
    is,
    [],
    refl,
    subst (λ (k : List Packed). ListsFor (listing old) (came old) [] k said) (sym (ap came same)) (subst (ListsFor (listing old) (came old) [] (came old)) (sym none) (lists_for_nothing (listing old) (came old))),
  )
  lines_listed old (line ∷ lines) o new said (first, middle, more, later, others, (accepted, kept, here, in_line, lists), so, outcome, text) =
      let (all_accepted, behind, in_lines, listed) = lines_listed middle lines later new others so in
      let found_behind : AreFoundIn (listing old) lines behind = subst (λ (l : Listing). AreFoundIn l lines behind) kept in_lines in
      let rest : ListsFor (listing old) (came middle) behind (came new) others = subst (λ (l : Listing). ListsFor l (came middle) behind (came new) others) kept listed in (
        outcome ∙ (ap (λ (k : Outcome). first_fault k later) accepted ∙ all_accepted),
        here ++ behind,
        (here, behind, in_line, found_behind, refl),
        subst (ListsFor (listing old) (came old) (here ++ behind) (came new)) (sym text)
            (lists_so (listing old) (came old) here (came middle) behind (came new) more others lists rest),
      )

  pub stream_listed : (old new : D) (read new_read held new_held : Option (List ℕ)) (o : Outcome) → came old ≡ [] → TakesStream (ListsLine listing came) old new read new_read held new_held o
      → (o ≡ Accepted) × ListsTables (listing old) read new_read held new_held
  stream_listed old new read new_read held new_held o none so =
      let (accepted, found, are_found, all) = lines_listed old so.lines o new so.said so.taken in
      let (printed, are_printed, lists) = all in
      let said : so.said ≡ flat_map found_line (first_ones [] printed) = lists.said_new ∙ ap (λ (k : List Packed). flat_map found_line (first_ones k printed)) none in (
        accepted,
        record {
          text = so.text;
          lines = so.lines;
          found = found;
          printed = printed;
          consumed = so.consumed;
          whole = so.whole;
          are_lines = so.are_lines;
          are_found = are_found;
          are_printed = are_printed;
          written = subst (Appends held new_held) said so.written;
        },
      )

  first_listed : (old : D) (read new_read : Option (List ℕ)) (said : List ℕ) → came old ≡ [] → IsSaidToFirst (ListsLine listing came) old read new_read said → ListsFirst (listing old) read new_read said
  first_listed old read new_read said none so =
      let (accepted, found, are_found, all) = lines_listed old so.lines so.outcome so.new said so.taken in
      let (printed, are_printed, lists) = all in
      record {
        lines = so.lines;
        found = found;
        printed = printed;
        are_first = so.are_first;
        are_found = are_found;
        are_printed = are_printed;
        is = lists.said_new ∙ ap (λ (k : List Packed). flat_map found_line (first_ones k printed)) none;
      }

  -- where that ended early, or what came behind it did
  pub early_listed : (old : D) (read new_read held new_held : Option (List ℕ)) (e : Ended) → came old ≡ [] → WritesFirst (IsSaidToFirst (ListsLine listing came) old read new_read) held new_held e
      → WritesFirst (ListsFirst (listing old) read new_read) held new_held e
  early_listed old read new_read held new_held e none so =
      said_so (IsSaidToFirst (ListsLine listing came) old read new_read) (ListsFirst (listing old) read new_read) held new_held e (λ said is. first_listed old read new_read said none is) so

  pub all_listed : (old new : D) (read new_read held new_held : Option (List ℕ)) (o : Outcome) (e : Ended) → came old ≡ [] → TakesStream (ListsLine listing came) old new read new_read held new_held o
      → WritesFirst (ListsFirst (listing old) read new_read) held new_held e
  all_listed old new read new_read held new_held o e none so = early_listed old read new_read held new_held e none (stream_first (ListsLine listing came) old new read new_read held new_held o e so)

-- what is found in a line that is read without white space at its ends
pub found_read : (records : Bool) (o : Option (Bor (List ℕ))) (line : Bor (List ℕ)) (trimmed : List ℕ) (r : Result Recorded RecordFault) → records ≡ true → o ≡ Some line → IsTrimAscii line.now trimmed → read_line (Some trimmed) ≡ r
    → IsFoundIn records (lent o) (found_by r (tables_of_line (lent o)))
found_read records o line trimmed r kept is trim read =
    subst (λ (b : Bool). IsFoundIn b (lent o) (found_by r (tables_of_line (lent o)))) (sym kept)
    (subst (λ (k : Option (Bor (List ℕ))). IsFoundIn true (lent k) (found_by r (tables_of_line (lent k)))) (sym is)
    (Some trimmed, (trimmed, refl, trim), ap (λ (k : Result Recorded RecordFault). found_by k (tables_of_line (Some line.now))) (sym read)))

-- Texts that are cut into words.
module _ (p : ℕ → Bool) where
  -- at the first byte that cuts, where there is one
  split_at : (xs : List ℕ) → position_or_len p xs < length xs → slice_split p xs ≡ take (position_or_len p xs) xs ∷ slice_split p (drop (position_or_len p xs + 1) xs)
  split_at [] below = absurd (omega arith)
  split_at (x ∷ xs) below =
      elim (p x) as (λ v. cond (not v) (1 + position_or_len p xs) 0 < suc (length xs)
      → cond v ([] ∷ slice_split p xs) (onto_first x (slice_split p xs)) ≡ take (cond (not v) (1 + position_or_len p xs) 0) (x ∷ xs) ∷ slice_split p (drop (cond (not v) (1 + position_or_len p xs) 0 + 1) (x ∷ xs))) [
        | true ↦ λ below. refl
        | false ↦ λ below.
            let one : suc (position_or_len p xs) ≡ 1 + position_or_len p xs = omega arith in
            let two : suc (position_or_len p xs + 1) ≡ 1 + position_or_len p xs + 1 = omega arith in
            ap (onto_first x) (split_at xs (omega arith))
            ∙ (ap (λ i. take i (x ∷ xs) ∷ slice_split p (drop (position_or_len p xs + 1) xs)) one
            ∙ ap (λ i. take (1 + position_or_len p xs) (x ∷ xs) ∷ slice_split p (drop i (x ∷ xs))) two)
      ] below

  split_none : (xs : List ℕ) → length xs ≤ position_or_len p xs → slice_split p xs ≡ xs ∷ []
  split_none [] past = refl
  split_none (x ∷ xs) past =
      elim (p x) as (λ v. suc (length xs) ≤ cond (not v) (1 + position_or_len p xs) 0 → cond v ([] ∷ slice_split p xs) (onto_first x (slice_split p xs)) ≡ (x ∷ xs) ∷ []) [
        | true ↦ λ past. absurd (omega arith)
        | false ↦ λ past. ap (onto_first x) (split_none xs (omega arith))
      ] past

  pub cut_found : (xs : List ℕ) (at : ℕ) → position p xs ≡ Some at → slice_split p xs ≡ take at xs ∷ slice_split p (drop (at + 1) xs)
  cut_found xs at found =
      elim (ltb (position_or_len p xs) (length xs)) as (λ b. ltb (position_or_len p xs) (length xs) ≡ b → cond b (Some (position_or_len p xs)) None ≡ Some at → slice_split p xs ≡ take at xs ∷ slice_split p (drop (at + 1) xs)) [
        | true ↦ λ is found.
            let same : position_or_len p xs ≡ at = cc in
            let below : position_or_len p xs < length xs = grind (arith, nat_tests) in
            split_at xs below ∙ ap (λ i. take i xs ∷ slice_split p (drop (i + 1) xs)) same
        | false ↦ λ is found. absurd (cc)
      ] refl found

  pub cut_missing : (xs : List ℕ) → position p xs ≡ None → slice_split p xs ≡ xs ∷ []
  cut_missing xs missing =
      elim (ltb (position_or_len p xs) (length xs)) as (λ b. ltb (position_or_len p xs) (length xs) ≡ b → cond b (Some (position_or_len p xs)) None ≡ None → slice_split p xs ≡ xs ∷ []) [
        | true ↦ λ is missing. absurd (cc)
        | false ↦ λ is missing.
            let past : length xs ≤ position_or_len p xs = grind (arith, nat_tests) in
            split_none xs past
      ] refl missing
