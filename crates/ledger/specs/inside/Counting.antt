-- For the code: counts along lists of records, and the open tables.
use Rattle.std.specs.Prelude.{◌≡◌, ℕ, ◌+◌, ◌-◌, ◌<◌, ◌^◌, Bool, true, false, nat_lt, nat_eq, if◌then◌else◌, List, [], Option, Some, None, filter, filter_map, length, ◌≢◌, ◌↔◌, ◌⊎◌, not, All, Contains, slice_get}
use Rattle.std.specs.Option.{is_none}
use Rattle.std.specs.BTreeMap.{BTreeMap, ContainsKey}
use Rattle.machine_text.specs.Terms.{Packed, table_cmp}
use Rattle.kind_evidence.specs.declared.verdicts.Ending.{Ending}
use Rattle.kind_evidence.specs.declared.verdicts.Ending.TheVariants.{Halts, Never}
use Rattle.cert.specs.Terms.{Recorded, ending_by, score_by}
use Rattle.ledger.specs.Tally.{IsGreatestCount, IsGreatestOnes}
use Rattle.ledger.specs.declared.counts.Counts.{Counts}
use Rattle.law_tree.specs.Terms.{IsOpen, IsChildTable}
use Rattle.ledger.specs.Records.{claim_in, mark_in, Contents}

-- For the code: counts along lists of records.

-- a record without a verdict
abbrev pub is_undecided : Recorded → Bool
is_undecided r = is_none (ending_by r.claim)

abbrev pub undecided_table : Recorded → Option Packed
undecided_table r = if is_undecided r then Some r.table else None

-- a verdict that a table halts, and one that it never does
abbrev pub says_halts : Option Ending → Bool
says_halts None = false
says_halts (Some (Halts k)) = true
says_halts (Some Never) = false

abbrev pub says_never : Option Ending → Bool
says_never None = false
says_never (Some (Halts k)) = false
says_never (Some Never) = true

abbrev pub is_halting : Recorded → Bool
is_halting r = says_halts (ending_by r.claim)

abbrev pub is_never : Recorded → Bool
is_never r = says_never (ending_by r.claim)

-- the number of steps of a verdict that a table halts
abbrev pub steps_of : Option Ending → Option ℕ
steps_of None = None
steps_of (Some (Halts k)) = Some k
steps_of (Some Never) = None

-- the table of a record of so many steps
abbrev pub champion_by : ℕ → Option ℕ → Packed → Option Packed
champion_by best None t = None
champion_by best (Some k) t = if nat_eq k best then Some t else None

abbrev pub champion_table : ℕ → Recorded → Option Packed
champion_table best r = champion_by best (steps_of (ending_by r.claim)) r.table

-- the table of a record of such a score
abbrev pub ones_champion_table : ℕ → Recorded → Option Packed
ones_champion_table best r = champion_by best (score_by r.claim) r.table

abbrev pub is_steps : ℕ → Option ℕ → Bool
is_steps best None = false
is_steps best (Some k) = nat_eq k best

abbrev pub is_champion : ℕ → Recorded → Bool
is_champion best r = is_steps best (steps_of (ending_by r.claim))

abbrev pub is_ones_champion : ℕ → Recorded → Bool
is_ones_champion best r = is_steps best (score_by r.claim)

-- the greater of two numbers of which either may be missing
abbrev pub greater : Option ℕ → Option ℕ → Option ℕ
greater None b = b
greater (Some a) None = Some a
greater (Some a) (Some b) = if nat_lt a b then Some b else Some a

-- the tables of the records of so many steps
abbrev pub tables_with : Option ℕ → List Recorded → List Packed
tables_with None rs = []
tables_with (Some best) rs = filter_map (champion_table best) rs

-- and of such a score
abbrev pub tables_with_ones : Option ℕ → List Recorded → List Packed
tables_with_ones None rs = []
tables_with_ones (Some best) rs = filter_map (ones_champion_table best) rs

-- the numbers that are kept are those of the records
pub record IsCounted (rs : List Recorded) (c : Counts) : Type 0 where
  pub halting : c.halting ≡ length (filter is_halting rs)
  pub never : c.never ≡ length (filter is_never rs)
  pub undecided : c.undecided ≡ length (filter is_undecided rs)
  pub best : IsGreatestCount rs c.best
  pub ones : IsGreatestOnes rs c.ones

-- the numbers with one more record, by what it shows and its score
abbrev pub with_shown : Counts → Option Ending → Option ℕ → Counts
with_shown c None ones = record {
  halting = c.halting;
  never = c.never;
  undecided = c.undecided + 1;
  best = c.best;
  ones = greater c.ones ones;
}
with_shown c (Some Never) ones = record {
  halting = c.halting;
  never = c.never + 1;
  undecided = c.undecided;
  best = c.best;
  ones = greater c.ones ones;
}
with_shown c (Some (Halts k)) ones = record {
  halting = c.halting + 1;
  never = c.never;
  undecided = c.undecided;
  best = greater c.best (Some k);
  ones = greater
      c.ones ones;
}

-- one more of each may be counted
abbrev pub HaveRoom : Counts → Type 0
HaveRoom c = (c.halting < 2 ^ 63) × (c.never < 2 ^ 63) × (c.undecided < 2 ^ 63)

-- the numbers without a holdout
abbrev pub without_holdout : Counts → Counts
without_holdout c = record {
  halting = c.halting;
  never = c.never;
  undecided = c.undecided - 1;
  best = c.best;
  ones = c.ones;
}

-- For the code: maps of tables, and which a board's open ones are.

-- a table of the list that has no record and isn't the parent
pub record HasUnrecorded (found : List Packed) (rs : List Recorded) (parent t : Packed) : Type 0 where
  pub listed : Contains found t
  pub unrecorded : claim_in rs t ≡ None
  pub other : t ≢ parent

-- the entries of the tables that weren't opened by the record at this place
abbrev pub others : ℕ → List (Packed × ℕ) → List (Packed × ℕ)
others place es = filter (λ e. not (nat_eq e.1 place)) es

-- the place that no record has, in four bytes
abbrev pub no_place : ℕ
no_place = 4294967295

-- the place of the record that opened a table: that of its parent's, which halts; what opened the root has none
abbrev pub IsOpener : Packed → List Recorded → Packed → ℕ → Type 0
IsOpener root rs t place = ((t ≡ root) × (place ≡ no_place))
    ⊎ ((r : Recorded) × (slice_get rs place ≡ Some r) × (is_halting r ≡ true) × IsChildTable r.table t)

-- a map of tables is that of the open ones, each with the place of what opened it
pub record IsOpenMapOf (tables : BTreeMap Packed ℕ) (root : Packed) (rs : List Recorded) : Type 0 where
  pub exact : (t : Packed) → ContainsKey table_cmp tables t ↔ IsOpen root (mark_in rs) t
  pub openers : All (λ e. IsOpener root rs e.0 e.1) tables.entries

abbrev pub IsOpenMap : BTreeMap Packed ℕ → Contents → Type 0
IsOpenMap tables b = IsOpenMapOf tables b.root b.records

-- a child of the record's table, by its halting, that has no record itself
pub record IsNewChild (rs : List Recorded) (r : Recorded) (t : Packed) : Type 0 where
  pub count : ℕ
  pub halts : ending_by r.claim ≡ Some (Halts count)
  pub child : IsChildTable r.table t
  pub unrecorded : claim_in rs t ≡ None
  pub other : t ≢ r.table

-- what the record at a place opened are children of this table
abbrev pub AreChildrenAt : ℕ → Packed → List (Packed × ℕ) → Type 0
AreChildrenAt place parent es = All (λ e. e.1 ≡ place → IsChildTable parent e.0) es
