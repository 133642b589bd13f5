-- How many records of a list are of each kind, and what a page counts.
use Rattle.std.specs.Prelude.{◌≡◌, ℕ, zero, suc, ◌+◌, ◌-◌, ◌^◌, ◌<◌, ◌==◌, ◌&&◌, nat_le, nat_lt, Bool, false, min, List, Option, Some, None, count_by, slice_index, if◌then◌else◌, [], ◌∷◌, codes, decimal, flat_map}
use Rattle.std.specs.List.{concat, range_with_len}
use Rattle.machine_text.specs.Terms.{Packed, entry_of}
use Rattle.machine_text.specs.declared.table.Sym.{Sym}
use Rattle.machine_text.specs.declared.table.Sym.TheVariants.{Zero, One}
use Rattle.machine_text.specs.declared.table.Entry.{Entry}
use Rattle.cert.specs.Terms.{Claim, HaltsClaim, NeverClaim, NoClaim, Recorded, kind_text}
use Rattle.cmd_page.specs.declared.census.Census.{Census}
use Rattle.ledger.specs.declared.loading.Left.{Left}
use Rattle.ledger.specs.declared.loading.Left.TheVariants.{Nothing, From}
use Rattle.cmd_options.specs.Terms.{kind_letters}

-- How many records of a list are of each kind, of tables with so many entries, and of tables that halt in so many steps.

-- the letter of a claim's kind, as a byte
abbrev pub letter_of : Claim → ℕ
letter_of c = slice_index (kind_text c) 0

-- how many of a map's pairs at the first n states have an entry
abbrev pub one_entry : Option Entry → ℕ
one_entry None = 0
one_entry (Some e) = 1

unfoldable pub entries : ℕ → (ℕ → Sym → Option Entry) → ℕ
entries zero m = 0
entries (suc n) m = one_entry (m n Zero) + one_entry (m n One) + entries n m

-- how many entries a table has
abbrev pub entry_count : Packed → ℕ
entry_count p = entries p.states (entry_of p)

-- how many records have such a number
abbrev pub how_many : (Recorded → ℕ) → ℕ → List Recorded → ℕ
how_many number k rs = count_by (λ r. number r == k) rs

-- how many are of the kind of a letter
abbrev pub of_kind : List Recorded → ℕ → ℕ
of_kind rs letter = how_many (λ r. letter_of r.claim) letter rs

-- how many are of a table with so many entries
abbrev pub with_entries : List Recorded → ℕ → ℕ
with_entries rs k = how_many (λ r. entry_count r.table) k rs

-- whether a number is 2^k or more, and less than 2^(k + 1)
abbrev pub reaches : ℕ → ℕ → Bool
reaches k n = nat_le (2 ^ k) n && nat_lt n (2 ^ (k + 1))

-- whether a table is said to halt in so many steps
abbrev pub halts_from : ℕ → Claim → Bool
halts_from k (HaltsClaim e) = reaches k e.steps
halts_from k (NeverClaim r) = false
halts_from k NoClaim = false

-- how many are
abbrev pub halting_from : List Recorded → ℕ → ℕ
halting_from rs k = count_by (λ r. halts_from k r.claim) rs

-- numbers of records: by kinds, by entries, and by steps
pub record Numbers : Type 0 where
  pub kinds : ℕ → ℕ
  pub entries : ℕ → ℕ
  pub steps : ℕ → ℕ

-- those of a list
abbrev pub numbers_of : List Recorded → Numbers
numbers_of rs = record { kinds = of_kind rs; entries = with_entries rs; steps = halting_from rs }

-- numbers at the first n places to which others were added, as far as 64 bits hold them
abbrev pub AreMore : ℕ → List ℕ → (ℕ → ℕ) → List ℕ → Type 0
AreMore n old number new = (k : ℕ) → k < n → slice_index new k ≡ min (slice_index old k + number k) (2 ^ 64 - 1)

-- Which records were counted.

-- these were: how many are of each kind, of tables with so many entries and of tables that halt in so many steps, as far as
-- 64 bits hold the numbers
pub record HasCounted (rs : List Recorded) (census : Census) : Type 0 where
  pub kinds : (letter : ℕ) → letter < 256 → slice_index census.kinds letter ≡ min (of_kind rs letter) (2 ^ 64 - 1)
  pub entries : (k : ℕ) → k < 15 → slice_index census.entries k ≡ min (with_entries rs k) (2 ^ 64 - 1)
  pub steps : (k : ℕ) → k < 64 → slice_index census.steps k ≡ min (halting_from rs k) (2 ^ 64 - 1)

-- the numbers of a census
abbrev pub census_numbers : Census → Numbers
census_numbers census = record {
  kinds = slice_index census.kinds;
  entries = slice_index census.entries;
  steps = slice_index census.steps;
}

-- What a page counts beside its report, as a JSON object of its own: how many records there are of tables with so many
-- entries, from which line on a ledger isn't kept, and how many there are of tables that halt in 2^k steps or more and in
-- fewer than 2^(k + 1), and of each kind, by its letter.

-- what stands before the number at a place
abbrev pub comma : ℕ → List ℕ
comma place = if place == 0 then [] else codes ","

unfoldable pub item_json : ℕ → ℕ → List ℕ
item_json place n = concat (comma place ∷ decimal n ∷ [])

abbrev pub numbers_json : ℕ → (ℕ → ℕ) → List ℕ
numbers_json count number = flat_map (λ k. item_json k (number k)) (range_with_len 0 count)

-- behind another member
unfoldable pub kind_json : ℕ → ℕ → List ℕ
kind_json letter n = concat (codes ",\"" ∷ (letter ∷ []) ∷ codes "\":" ∷ decimal n ∷ [])

-- by letters, in their order
abbrev pub kinds_json : (ℕ → ℕ) → List ℕ
kinds_json number = flat_map (λ letter. kind_json letter (number letter)) kind_letters

abbrev pub left_json : Left → List ℕ
left_json Nothing = codes "null"
left_json (From line kept why) = decimal line

unfoldable pub rest_json : Numbers → List ℕ
rest_json numbers = concat (codes ",\"steps\":[" ∷ numbers_json 64 numbers.steps ∷ codes "]"
    ∷ kinds_json numbers.kinds ∷ codes "}\n" ∷ [])

unfoldable pub counts_json : Numbers → Left → List ℕ
counts_json numbers left = concat (codes "{\"entries\":[" ∷ numbers_json 15 numbers.entries ∷ codes "],\"left\":"
    ∷ left_json left ∷ rest_json numbers ∷ [])
