-- A page with the numbers that are counted of its records is the page of these.
use Rattle.std.proofs.Common.{◌≡◌, ℕ, zero, ◌+◌, ◌-◌, ◌^◌, ◌<◌, ◌≤◌, min, eqb, Bool, true, cond, List, [], ◌∷◌, ◌++◌, length, get_or, sym, ap, ◌∙◌, arith, suc, false, ltb, ◌&&◌, codes, flat_map, refl, Option, None, IfOk, Result, Ok, Err, ◌*◌, inl, inr, leb, Some}
use Rattle.std.specs.Prelude.{count_by, replicate}
use Rattle.std.proofs.lemmas.Bool.{eq-eqb, cases_lt, cases_order, le-leb, lt-leb, lt-ltb, le-ltb, ne_eqb, and_left, and_right, and_from}
use Rattle.std.proofs.lemmas.List.{get_or-replicate}
use Rattle.std.proofs.lemmas.List.Sums.{sum_by-cons, sum_by-append, count_by-le-length}
use Rattle.std.specs.List.{concat, range_with_len, list_all}
use Rattle.std.proofs.lemmas.Bool.Decides.{nat_tests}
use Rattle.std.proofs.lemmas.Nat.{pow_pos, pow_below}
use Rattle.std.proofs.lemmas.Grind.{common_steps}
use Rattle.cert.specs.Terms.{Recorded}
use Rattle.cmd_page.specs.Census.{entry_count, halts_from, letter_of, numbers_of, HasCounted, census_numbers, counts_json, item_json, kind_json, kinds_json, left_json, numbers_json, rest_json, reaches, one_entry, entries}
use Rattle.machine_text.specs.Terms.{Packed, hole, holes}
use Rattle.ledger.specs.declared.loading.Left.{Left}
use Rattle.cmd_options.specs.Terms.{kind_letters}
use Rattle.cmd_page.specs.Page.{Headed, IsPage, IsPageWith, page_html, IsListSum, TellsFolder, heading_of}
use Rattle.cmd_page.specs.inside.{IsCensus}
use Rattle.cmd_page.specs.declared.census.Census.{Census}
use Rattle.ledger.specs.Terms.{Contents, IsOpenOn, AreAll}
use Rattle.ledger.specs.declared.loading.Left.TheVariants.{Nothing}
use Rattle.totals.specs.Terms.{joined_with, Collected, IsWhole}
use Rattle.cmd_options.specs.declared.ended.Ended.{Ended}
use Rattle.cmd_options.specs.declared.ended.Outcome.{Outcome}
use Rattle.cmd_parts.specs.Terms.{Findings, TellsAll, TellsParts, ended_by, IsGathered}
use Rattle.machine_text.specs.declared.table.Sym.{Sym}
use Rattle.machine_text.specs.declared.table.Sym.TheVariants.{Zero, One}
use Rattle.machine_text.specs.declared.table.Entry.{Entry}

-- How many records there are, once one more was gone through.

-- what is counted at a place: by a number, and by these of a record
abbrev pub Counted : Type 0
Counted = ℕ → Recorded → Bool

abbrev pub numbered : (Recorded → ℕ) → Counted
numbered number k r = eqb (number r) k

abbrev pub by_kind : Counted
by_kind = numbered (λ r. letter_of r.claim)

abbrev pub by_entries : Counted
by_entries = numbered (λ r. entry_count r.table)

abbrev pub by_steps : Counted
by_steps k r = halts_from k r.claim

abbrev one_if : Bool → ℕ
one_if b = cond b 1 0

-- so many were counted at each place below n, and the others are left
abbrev pub AreCounted : Counted → ℕ → List Recorded → List ℕ → List Recorded → Type 0
AreCounted test n all counts left = (k : ℕ) → k < n → get_or counts k 0 + count_by (test k) left ≡ count_by (test k) all

-- one more is counted, where it is of a place
abbrev pub CountsOne : Counted → ℕ → List ℕ → List ℕ → Recorded → Type 0
CountsOne test n counts new r = (k : ℕ) → k < n → get_or new k 0 ≡ get_or counts k 0 + cond (test k r) 1 0

-- nothing is counted yet, and all are left
pub none_counted : (test : Counted) (n : ℕ) (all left : List Recorded) → left ≡ all → AreCounted test n all (replicate n zero) left
none_counted test n all left same k within =
    let none : get_or (replicate n zero) k 0 ≡ 0 = get_or-replicate n k zero zero within in
    let same_number = ap (count_by (test k)) same in
    omega (arith, none, same_number)

more_many : (test : Counted) (k : ℕ) (r : Recorded) (left old : List Recorded) → old ≡ r ∷ left → count_by (test k) old ≡ cond (test k r) 1 0 + count_by (test k) left
more_many test k r left old is = ap (count_by (test k)) is ∙ sum_by-cons (λ x. cond (test k x) 1 0) r left

pub counted_more : (test : Counted) (n : ℕ) (all : List Recorded) (counts new : List ℕ) (r : Recorded) (left old : List Recorded)
    → AreCounted test n all counts old → old ≡ r ∷ left → CountsOne test n counts new r → AreCounted test n all new left
counted_more test n all counts new r left old counted is more = λ k within.
    omega (arith, more_many test k r left old is, counted k within, more k within)

-- one more is counted at its number
pub number_more : (number : Recorded → ℕ) (n : ℕ) (counts new : List ℕ) (r : Recorded) (place : ℕ) → place ≡ number r
    → ((k : ℕ) → get_or new k 0 ≡ get_or counts k 0 + cond (eqb place k) 1 0) → CountsOne (numbered number) n counts new r
number_more number n counts new r place at more = λ k within. more k ∙ ap (λ (p : ℕ). get_or counts k 0 + one_if (eqb p k)) at

-- there is room for one more, where there are no more than that many records
pub counted_room : (test : Counted) (n : ℕ) (all : List Recorded) (counts : List ℕ) (r : Recorded) (left old : List Recorded) (place : ℕ)
    → AreCounted test n all counts old → old ≡ r ∷ left → test place r ≡ true → place < n → length all < 2 ^ 64 → get_or counts place 0 < 2 ^ 64 - 1
counted_room test n all counts r left old place counted is at within few =
    let one : one_if (test place r) ≡ 1 = ap one_if at in
    let most : count_by (test place) all ≤ length all = count_by-le-length (test place) all in
    omega (arith, one, most, few, more_many test place r left old is, counted place within)

pub number_room : (number : Recorded → ℕ) (n : ℕ) (all : List Recorded) (counts : List ℕ) (r : Recorded) (left old : List Recorded) (place : ℕ)
    → AreCounted (numbered number) n all counts old → old ≡ r ∷ left → place ≡ number r → place < n → length all < 2 ^ 64 → get_or counts place 0 < 2 ^ 64 - 1
number_room number n all counts r left old place counted is at within few =
    counted_room (numbered number) n all counts r left old place counted is (eq-eqb (number r) place (sym at)) within few

many_append : (test : Counted) (k : ℕ) (rs more : List Recorded) → count_by (test k) (rs ++ more) ≡ count_by (test k) rs + count_by (test k) more
many_append test k rs more = sum_by-append (λ x. cond (test k x) 1 0) rs more

-- so many were counted at each place below n, as far as 64 bits hold them
abbrev pub AreCapped : Counted → ℕ → List Recorded → List ℕ → Type 0
AreCapped test n rs counts = (k : ℕ) → k < n → get_or counts k 0 ≡ min (count_by (test k) rs) (2 ^ 64 - 1)

pub none_capped : (test : Counted) (n : ℕ) → AreCapped test n [] (replicate n zero)
none_capped test n = λ k within.
    let none : get_or (replicate n zero) k 0 ≡ 0 = get_or-replicate n k zero zero within in
    omega (arith, none)

pub capped_more : (test : Counted) (n size : ℕ) (rs more : List Recorded) (old counts new : List ℕ) → n ≤ size → AreCapped test n rs old → ((k : ℕ) → k < n → get_or counts k 0 ≡ count_by (test k) more)
    → ((k : ℕ) → k < size → get_or new k 0 ≡ min (get_or old k 0 + get_or counts k 0) (2 ^ 64 - 1)) → AreCapped test n (rs ++ more) new
capped_more test n size rs more old counts new wide was is sums = λ k within.
    omega (arith, many_append test k rs more, was k within, is k within, sums k (omega (arith, within, wide)))

-- all were, where there are no more than that many records
pub all_counted : (test : Counted) (n : ℕ) (rs : List Recorded) (counts : List ℕ) → AreCapped test n rs counts → length rs < 2 ^ 64 → (k : ℕ) → k < n → get_or counts k 0 ≡ count_by (test k) rs
all_counted test n rs counts counted few = λ k within.
    let most : count_by (test k) rs ≤ length rs = count_by-le-length (test k) rs in
    omega (arith, most, few, counted k within)

-- the same numbers stand as the same text
same_items : (f g : ℕ → ℕ) (a n : ℕ) → ((k : ℕ) → k < a + n → f k ≡ g k)
    → flat_map (λ k. item_json k (f k)) (range_with_len a n) ≡ flat_map (λ k. item_json k (g k)) (range_with_len a n)
same_items f g a zero same = refl
same_items f g a (suc n) same =
    ap (λ (v : ℕ). item_json a v ++ flat_map (λ k. item_json k (f k)) (range_with_len (a + 1) n)) (same a (omega arith))
    ∙ ap (λ (l : List ℕ). item_json a (g a) ++ l) (same_items f g (a + 1) n (λ k within. same k (omega (arith, within))))

-- the members of kinds, by numbers
abbrev members_of : (ℕ → ℕ) → List ℕ → List ℕ
members_of f letters = flat_map (λ letter. kind_json letter (f letter)) letters

-- a letter is a byte
same_members : (f g : ℕ → ℕ) → ((k : ℕ) → k < 256 → f k ≡ g k) → (letters : List ℕ) → list_all (λ letter. ltb letter 256) letters ≡ true → members_of f letters ≡ members_of g letters
same_members f g same [] bytes = refl
same_members f g same (letter ∷ letters) bytes =
    elim (ltb letter 256) as (λ v. ltb letter 256 ≡ v → (v && list_all (λ letter. ltb letter 256) letters) ≡ true → members_of f (letter ∷ letters) ≡ members_of g (letter ∷ letters)) [
      | true ↦ λ is rest.
          ap (λ (n : ℕ). kind_json letter n ++ members_of f letters) (same letter (grind (arith, nat_tests)))
          ∙ ap (λ (l : List ℕ). kind_json letter (g letter) ++ l) (same_members f g same letters rest)
      | false ↦ λ is rest. absurd (cc)
    ] refl bytes

same_counts : (rs : List Recorded) (census : Census) (left : Left) → IsCensus rs census → counts_json (census_numbers census) left ≡ counts_json (numbers_of rs) left
unfolding counts_json rest_json
same_counts rs census left counted =
    let found = census_numbers census in
    let due = numbers_of rs in
    let rest : List ℕ → List ℕ → List ℕ = λ steps kinds. concat (codes ",\"steps\":[" ∷ steps ∷ codes "]" ∷ kinds ∷ codes "}\n" ∷ []) in
    let all : List ℕ → List ℕ → List ℕ = λ entries more. concat (codes "{\"entries\":[" ∷ entries ∷ codes "],\"left\":" ∷ left_json left ∷ more ∷ []) in
    ap (λ (l : List ℕ). all l (rest_json found)) (same_items found.entries due.entries 0 15 counted.entries)
    ∙ (ap (λ (l : List ℕ). all (numbers_json 15 due.entries) (rest l (kinds_json found.kinds))) (same_items found.steps due.steps 0 64 counted.steps)
    ∙ ap (λ (l : List ℕ). all (numbers_json 15 due.entries) (rest (numbers_json 64 due.steps) l)) (same_members found.kinds due.kinds counted.kinds kind_letters refl))

pub exact_census : (rs : List Recorded) (census : Census) → HasCounted rs census → length rs < 2 ^ 64 → IsCensus rs census
exact_census rs census counted few = record {
  kinds = all_counted by_kind 256 rs census.kinds counted.kinds few;
  entries = all_counted by_entries 15 rs census.entries counted.entries few;
  steps = all_counted by_steps 64 rs census.steps counted.steps few;
}

pub counted_page : (heading : Headed) (root : Packed) (rs : List Recorded) (left : Left) (text : List ℕ) (census : Census) → IsCensus rs census
    → IsPageWith (census_numbers census) heading root rs left text → IsPage heading root rs left text
counted_page heading root rs left text census counted page = record {
  lines = page.lines;
  json = page.json;
  are_lines = page.are_lines;
  is_json = page.is_json;
  is = page.is ∙ ap (page_html heading page.lines page.json) (same_counts rs census left counted);
}

-- The page of a whole is that of the records of all.
pub page_told : (title version : List ℕ) (program : Option (List ℕ)) (roots : List Packed) (sum : List ℕ) (Finds : Findings) (folder : List ℕ) (said new_said faults new_faults : Option (List ℕ)) (whole : Collected) (sound : Bool) (census : Census) (r : Result Outcome Ended)
    → IsGathered Finds folder whole sound None None faults new_faults (λ (rs : List Recorded). HasCounted rs census)
    → ((parts : List Contents) → IsWhole whole parts → length (joined_with whole.trunk.records parts) < 2 ^ 64)
    → IfOk r (λ o. (parts : List Contents) → IsWhole whole parts
    → TellsParts (IsPageWith (census_numbers census) (heading_of title version program sum)) whole.trunk parts sound said new_said o)
    → IsListSum Finds folder roots sum → AreAll (IsOpenOn whole.trunk) roots
    → IfOk r (TellsFolder title version program Finds folder said new_said faults new_faults)
page_told title version program roots sum Finds folder said new_said faults new_faults whole sound census (Ok o) gathered few tells is_sum are_open =
    let parts = gathered.parts in
    let is = gathered.whole_is in
    let told = tells parts is in
    let rs = joined_with whole.trunk.records parts in
    let all : TellsAll (IsPage (heading_of title version program sum)) Finds folder None None said new_said faults new_faults o = record {
      trunk = whole.trunk;
      parts = parts;
      lines = gathered.lines;
      holds = gathered.holds;
      is_board = is.trunk_is;
      are_parts = is.are_parts;
      tells = record {
        text = told.text;
        is_text = counted_page (heading_of title version program sum) whole.trunk.root rs Nothing told.text census (exact_census rs census gathered.counts (few parts is)) told.is_text;
        says = told.says;
        status = told.status;
        stands = told.stands;
        ends = told.ends ∙ ap (λ (s : Bool). ended_by told.status s) gathered.sound;
      };
      warns = gathered.says;
      writes = gathered.writes;
    } in
    record { roots = roots; sum = sum; is_sum = is_sum; tells = all; are_open = are_open }
page_told title version program roots sum Finds folder said new_said faults new_faults whole sound census (Err e) gathered few tells is_sum are_open = tt

-- Powers of two that numbers reach.
pub doubled : (k : ℕ) → 2 ^ (k + 1) ≡ 2 * 2 ^ k
doubled k = grind (arith, common_steps)

-- a power that isn't above another
power_le : (j k : ℕ) → j ≤ k → 2 ^ j ≤ 2 ^ k
power_le j k le = elim (cases_lt j k) as (λ _. 2 ^ j ≤ 2 ^ k) [
  | inl less ↦ let p = pow_below j k less in omega (arith, p)
  | inr more ↦ let e : j ≡ k = omega (arith, le, more) in let p = ap (λ (i : ℕ). 2 ^ i) e in omega (arith, p)
]

-- a number reaches one power alone
pub reaches_one : (n k : ℕ) → 2 ^ k ≤ n → n < 2 * 2 ^ k → (j : ℕ) → eqb k j ≡ reaches j n
reaches_one n k from below j =
    let d = doubled k in let e = doubled j in
    elim (cases_order k j) as (λ _. eqb k j ≡ reaches j n) [
      | inl same ↦ let p = ap (λ (i : ℕ). 2 ^ i) same in
          eq-eqb k j same ∙ sym (and_from (leb (2 ^ j) n) (ltb n (2 ^ (j + 1))) (le-leb (2 ^ j) n (omega (arith, p, from))) (lt-ltb n (2 ^ (j + 1)) (omega (arith, p, e, below))))
      | inr (inl less) ↦ let p = power_le (k + 1) j (omega (arith, less)) in
          ne_eqb k j (λ (s : k ≡ j). omega (arith, s, less)) ∙ sym (and_left (leb (2 ^ j) n) (ltb n (2 ^ (j + 1))) (lt-leb (2 ^ j) n (omega (arith, p, d, below))))
      | inr (inr more) ↦ let p = power_le (j + 1) k (omega (arith, more)) in
          ne_eqb k j (λ (s : k ≡ j). omega (arith, s, more)) ∙ sym (and_right (leb (2 ^ j) n) (ltb n (2 ^ (j + 1))) (le-ltb n (2 ^ (j + 1)) (omega (arith, p, from))))
    ]

pub reaches_none : (n j : ℕ) → n ≡ 0 → reaches j n ≡ false
reaches_none n j none = let p = pow_pos j in and_left (leb (2 ^ j) n) (ltb n (2 ^ (j + 1))) (lt-leb (2 ^ j) n (omega (arith, p, none)))

-- A pair has an entry or is undefined.
one_or_none : (o : Option Entry) → one_entry o + hole o ≡ 1
one_or_none None = refl
one_or_none (Some e) = refl

pub entries_and_holes : (n : ℕ) (m : ℕ → Sym → Option Entry) → entries n m + holes n m ≡ 2 * n
unfolding entries holes
entries_and_holes zero m = refl
entries_and_holes (suc n) m = omega (arith, entries_and_holes n m, one_or_none (m n Zero), one_or_none (m n One))
