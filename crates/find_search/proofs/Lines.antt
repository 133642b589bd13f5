-- What is known of tables, and which lines are refused, once lines were taken and texts appended.
use Rattle.std.proofs.Common.{◌≡◌, ℕ, List, ◌++◌, cond, Result, Ok, Err, OnOk, ◌⊎◌, inl, inr, Bool, true, false, [], ◌∷◌, Option, Some, None, refl, sym, ◌∙◌, ap, subst}
use Rattle.std.specs.Result.{is_ok}
use Rattle.std.specs.Prelude.{◌||◌, is_none, is_some, option_map}
use Rattle.std.specs.Option.{option_or}
use Rattle.std.specs.BTreeMap.{get, is_at}
use Rattle.machine_text.specs.Terms.{Packed, table_cmp}
use Rattle.text.specs.Terms.{BoundedLine, bounded_line}
use Rattle.cert.specs.Terms.{Claim, HaltsClaim, NeverClaim, NoClaim, Recorded}
use Rattle.cert.specs.declared.record.RecordFault.{RecordFault}
use Rattle.ledger.proofs.Sets.{at_is}
use Rattle.cmd_lines.specs.Terms.{read_line, AreTakenInTurn}
use Rattle.find_search.specs.Known.{Saying, first_said, known_of, said_by, said_in, saying, some_claim, tells_nothing, untold, next_number, no_refusals, with_number, with_numbers}
use Rattle.find_search.specs.inside.{IsNews, LineTells, LinesTell, RecordKept}
use Rattle.find_search.specs.declared.known.Known.{Known}
use Rattle.find_search.specs.declared.known.Refusals.{Refusals}

-- Texts that are appended.

-- a text that is appended last
pub appended_last : {T E : Type 0} (r : Result T E) (old text new : List ℕ) → new ≡ cond (is_ok r) (old ++ text) old → OnOk r (new ≡ old ++ text)
appended_last (Ok x) old text new is = is
appended_last (Err e) old text new is = tt

-- What is known of tables, and which lines are refused, once lines were taken.
or_none : (o : Option Saying) → option_or o None ≡ o
or_none None = refl
or_none (Some x) = refl

or_or : (a b c : Option Saying) → option_or (option_or a b) c ≡ option_or a (option_or b c)
or_or None b c = refl
or_or (Some x) b c = refl

-- what is known goes before what is said
some_or : (o said : Option Saying) → is_some o ≡ true → o ≡ option_or o said
some_or None said some = cc
some_or (Some x) said some = refl

-- where nothing is known, what is said is
none_or : (o said : Option Saying) → is_some o ≡ false → said ≡ option_or o said
none_or None said none = refl
none_or (Some x) said none = cc

either_true : (a b : Bool) → (a || b) ≡ true → (a ≡ true) ⊎ (b ≡ true)
either_true true b is = inl refl
either_true false b is = inr is

both_false : (a b : Bool) → (a || b) ≡ false → (a ≡ false) × (b ≡ false)
both_false true b is = cc
both_false false b is = (refl, is)

-- a record that claims nothing says nothing
nothing_claimed : (n : ℕ) (r : Recorded) (p : Packed) → is_none (some_claim r.claim) ≡ true → said_by n (Ok r) p ≡ None
nothing_claimed n r p nothing =
    elim (some_claim r.claim) as (λ c. is_none c ≡ true → cond {A = Option Saying} (is_at (table_cmp r.table) p) (option_map (saying n) c) None ≡ None) [
      | None ↦ λ none. elim (is_at (table_cmp r.table) p) as (λ v. cond {A = Option Saying} v None None ≡ None) [ true ↦ refl | false ↦ refl ]
      | Some c ↦ λ none. cc
    ] nothing

-- of a line that tells nothing nothing is known
pub untold_line : (n : ℕ) (known : Packed → Option Saying) (read : Result Recorded RecordFault) (p : Packed) → tells_nothing known read ≡ true → known p ≡ option_or (known p) (said_by n read p)
untold_line n known (Err fault) p is = sym (or_none (known p))
untold_line n known (Ok r) p is =
    elim (either_true (is_none (some_claim r.claim)) (is_some (known r.table)) is) [
      | inl nothing ↦ sym (ap (option_or (known p)) (nothing_claimed n r p nothing) ∙ or_none (known p))
      | inr some ↦
          elim (is_at (table_cmp r.table) p) as (λ v. is_at (table_cmp r.table) p ≡ v → known p ≡ option_or (known p) (cond v (option_map (saying n) (some_claim r.claim)) None)) [
            | true ↦ λ here. some_or (known p) (option_map (saying n) (some_claim r.claim)) (subst (λ q. is_some (known q) ≡ true) (at_is r.table p here) some)
            | false ↦ λ other. sym (or_none (known p))
          ] refl
    ]

-- a claim that says something is what is claimed
some_itself : (c : Claim) → is_none (some_claim c) ≡ false → some_claim c ≡ Some c
some_itself (HaltsClaim e) some = refl
some_itself (NeverClaim r) some = refl
some_itself NoClaim some = cc

-- what a line that tells something says
pub told_line : (n : ℕ) (known : Packed → Option Saying) (r : Recorded) (p : Packed) → tells_nothing known (Ok r) ≡ false
    → cond (is_at (table_cmp r.table) p) (Some (saying n r.claim)) (known p) ≡ option_or (known p) (said_by n (Ok r) p)
told_line n known r p is =
    let (some, none) = both_false (is_none (some_claim r.claim)) (is_some (known r.table)) is in
    elim (is_at (table_cmp r.table) p) as (λ v. is_at (table_cmp r.table) p ≡ v → cond v (Some (saying n r.claim)) (known p) ≡ option_or (known p) (cond v (option_map (saying n) (some_claim r.claim)) None)) [
      | true ↦ λ here.
          ap (option_map (saying n)) (sym (some_itself r.claim some))
          ∙ none_or (known p) (option_map (saying n) (some_claim r.claim)) (subst (λ q. is_some (known q) ≡ false) (at_is r.table p here) none)
      | false ↦ λ other. sym (or_none (known p))
    ] refl

-- a line that is refused
pub refused_line : (old new : Known) (line : BoundedLine) → new.told ≡ old.told → new.lines ≡ next_number old.lines → new.refused ≡ with_number old.refused (next_number old.lines)
    → IsNews (known_of old) (read_line line) None → LineTells old line new
refused_line old new line told lines refused none = record {
  lines = lines;
  known = λ p. ap (λ m. option_map said_in (get table_cmp m p)) told ∙ untold_line (next_number old.lines) (known_of old) (read_line line) p none;
  refused = refused ∙ ap (λ v. cond v (with_number old.refused (next_number old.lines)) old.refused) (sym none);
}

-- a line that is kept, by one who has counted it
pub kept_line : (old counted new : Known) (line : BoundedLine) (r : Recorded) → counted.told ≡ old.told → counted.lines ≡ next_number old.lines → counted.refused ≡ old.refused
    → IsNews (known_of old) (read_line line) (Some r) → RecordKept counted r new → LineTells old line new
kept_line old counted new line r told lines refused (read, news) kept = record {
  lines = kept.lines ∙ lines;
  known = λ p.
      kept.known p
      ∙ (ap (λ n. cond (is_at (table_cmp r.table) p) (Some (saying n r.claim)) (known_of counted p)) lines
      ∙ (ap (λ o. cond (is_at (table_cmp r.table) p) (Some (saying (next_number old.lines) r.claim)) o) (ap (λ m. option_map said_in (get table_cmp m p)) told)
      ∙ (told_line (next_number old.lines) (known_of old) r p (subst (λ read. tells_nothing (known_of old) read ≡ false) read news)
      ∙ ap (λ read. option_or (known_of old p) (said_by (next_number old.lines) read p)) (sym read))));
  refused = kept.refused ∙ (refused ∙ ap (λ v. cond v (with_number old.refused (next_number old.lines)) old.refused) (sym news));
}

same_nothing : (f g : Packed → Option Saying) → ((p : Packed) → f p ≡ g p) → (read : Result Recorded RecordFault) → tells_nothing f read ≡ tells_nothing g read
same_nothing f g same (Err fault) = refl
same_nothing f g same (Ok r) = ap (λ o. is_none (some_claim r.claim) || is_some o) (same r.table)

-- which lines tell nothing is said of what is known of each table
same_untold : (f g : Packed → Option Saying) → ((p : Packed) → f p ≡ g p) → (n : ℕ) (lines : List (List ℕ)) → untold f n lines ≡ untold g n lines
same_untold f g same n [] = refl
same_untold f g same n (line ∷ lines) =
    let read = read_line (bounded_line line) in
    let later = same_untold (λ p. option_or (f p) (said_by (next_number n) read p)) (λ p. option_or (g p) (said_by (next_number n) read p)) (λ p. ap (λ o. option_or o (said_by (next_number n) read p)) (same p)) (next_number n) lines in
    ap (λ l. cond (tells_nothing f read) (next_number n ∷ l) l) later ∙ ap (λ v. cond v (next_number n ∷ untold (λ p. option_or (g p) (said_by (next_number n) read p)) (next_number n) lines) (untold (λ p. option_or (g p) (said_by (next_number n) read p)) (next_number n) lines)) (same_nothing f g same read)

-- a line that may be refused, and those behind it
refused_first : (v : Bool) (refused : Refusals) (n : ℕ) (later : List ℕ) → with_numbers (cond v (with_number refused n) refused) later ≡ with_numbers refused (cond v (n ∷ later) later)
refused_first true refused n later = refl
refused_first false refused n later = refl

-- lines one after another
pub lines_tell : (lines : List (List ℕ)) (old new : Known) → AreTakenInTurn LineTells old lines new → LinesTell old lines new
lines_tell [] old new same = record {
  known = λ p. ap (λ k. known_of k p) same ∙ sym (or_none (known_of old p));
  refused = ap (λ (k : Known). k.refused) same;
}
lines_tell (line ∷ lines) old new (middle, first, later) =
    let rest = lines_tell lines middle new later in
    let read = read_line (bounded_line line) in
    record {
      known = λ p.
          rest.known p
          ∙ (ap (λ n. option_or (known_of middle p) (first_said n lines p)) first.lines
          ∙ (ap (λ o. option_or o (first_said (next_number old.lines) lines p)) (first.known p)
          ∙ or_or (known_of old p) (said_by (next_number old.lines) read p) (first_said (next_number old.lines) lines p)));
      refused =
          rest.refused
          ∙ (ap (λ n. with_numbers middle.refused (untold (known_of middle) n lines)) first.lines
          ∙ (ap (with_numbers middle.refused) (same_untold (known_of middle) (λ p. option_or (known_of old p) (said_by (next_number old.lines) read p)) first.known (next_number old.lines) lines)
          ∙ (ap (λ r. with_numbers r (untold (λ p. option_or (known_of old p) (said_by (next_number old.lines) read p)) (next_number old.lines) lines)) first.refused
          ∙ refused_first (tells_nothing (known_of old) read) old.refused (next_number old.lines) (untold (λ p. option_or (known_of old p) (said_by (next_number old.lines) read p)) (next_number old.lines) lines))));
    }

-- lines that are taken by one to whom nothing is known
pub all_tell : (lines : List (List ℕ)) (start new : Known) → ((p : Packed) → known_of start p ≡ None) → start.lines ≡ 0 → start.refused ≡ no_refusals
    → AreTakenInTurn LineTells start lines new
    → ((p : Packed) → known_of new p ≡ first_said 0 lines p) × (new.refused ≡ with_numbers no_refusals (untold (λ p. None) 0 lines))
all_tell lines start new nothing before none taken =
    let tell = lines_tell lines start new taken in (
      λ p. tell.known p ∙ (ap (λ o. option_or o (first_said start.lines lines p)) (nothing p) ∙ ap (λ n. first_said n lines p) before),
      tell.refused
          ∙ (ap (λ r. with_numbers r (untold (known_of start) start.lines lines)) none
          ∙ (ap (λ n. with_numbers no_refusals (untold (known_of start) n lines)) before
          ∙ ap (with_numbers no_refusals) (same_untold (known_of start) (λ p. None) nothing 0 lines))),
    )
