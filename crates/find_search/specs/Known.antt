-- What is known of tables by a text of records.
use Rattle.std.specs.Prelude.{ℕ, ◌+◌, ◌^◌, ◌-◌, List, [], ◌∷◌, ◌++◌, Option, Some, None, min, codes, decimal, ◌≡◌, ◌⊎◌, Bool, true, Result, Ok, Err, ◌||◌, cond, is_none, is_some, option_map}
use Rattle.std.specs.Option.{option_or}
use Rattle.std.specs.BTreeMap.{get, is_at}
use Rattle.std.specs.Borrow.{Bor}
use Rattle.find_search.specs.declared.known.Refusals.{Refusals}
use Rattle.machine_text.specs.Terms.{Packed, table_cmp}
use Rattle.text.specs.Terms.{bounded_line}
use Rattle.cert.specs.Terms.{IsPassedOver, ShowsVerdict, Claim, HaltsClaim, NeverClaim, NoClaim, Recorded, owned_claim}
use Rattle.cert.specs.declared.record.RecordFault.{RecordFault}
use Rattle.cmd_lines.specs.Terms.{read_line, AreLines}
use Rattle.cmd_ledgers.specs.Terms.{AreFirstBytes}
use Rattle.find_search.specs.declared.known.Told.{Told}
use Rattle.find_search.specs.declared.known.Known.{Known}
use Rattle.cmd_options.specs.declared.options.Options.{Options}
use Rattle.cmd_options.specs.declared.options.Options.TheVariants.{Check, Decide, Explain, Show, Tables, Coord, CoordPart, Work, Run, Loop, Retry, Merge, Carry, Mend, Split, Settle, Walk, Join, Look, Draw, Page, Report}

-- Refused lines: how many, and which is the first.

-- the number after one; no text has so many lines that they end
abbrev pub next_number : ℕ → ℕ
next_number n = min (n + 1) (2 ^ 64 - 1)

abbrev pub no_refusals : Refusals
no_refusals = record { count = 0; first = None }

-- the lesser of a number and one that there may be
abbrev pub least : Option ℕ → ℕ → ℕ
least None n = n
least (Some m) n = min m n

-- one line more
abbrev pub with_number : Refusals → ℕ → Refusals
with_number refused line = record { count = next_number refused.count; first = Some (least refused.first line) }

abbrev pub with_numbers : Refusals → List ℕ → Refusals
with_numbers refused [] = refused
with_numbers refused (line ∷ lines) = with_numbers (with_number refused line) lines

-- how many there are, behind the path of their file
abbrev pub count_behind : List ℕ → ℕ → List ℕ
count_behind path count = path ++ codes ": " ++ decimal count

-- and which is the first
abbrev pub first_refused : ℕ → List ℕ
first_refused first = codes " refused, the first in line " ++ decimal first ++ 10 ∷ []

abbrev pub refusals_line : List ℕ → ℕ → ℕ → List ℕ
refusals_line path count first = count_behind path count ++ first_refused first

-- what is said of them, which is nothing where there are none
abbrev pub said_of : List ℕ → ℕ → Option ℕ → List ℕ
said_of path count None = []
said_of path count (Some first) = refusals_line path count first

abbrev pub refusals_text : List ℕ → Refusals → List ℕ
refusals_text path refused = said_of path refused.count refused.first

-- What is known of tables by a text of records, a line each, and what a look-up gives.

-- what is said of a table: a claim, and the number of the line that has it
pub record Saying : Type 0 where
  pub line : ℕ
  pub claim : Claim

abbrev pub saying : ℕ → Claim → Saying
saying line claim = record { line = line; claim = claim }

abbrev pub said_in : Told → Saying
said_in told = saying told.line (owned_claim told.certificate)

-- what is known of a table
abbrev pub known_of : Known → Packed → Option Saying
known_of known p = option_map said_in (get table_cmp known.told p)

-- a claim, where it says something
abbrev pub some_claim : Claim → Option Claim
some_claim NoClaim = None
some_claim (HaltsClaim e) = Some (HaltsClaim e)
some_claim (NeverClaim r) = Some (NeverClaim r)

-- what a line says of a table: the claim of its record, where it is one of that table
abbrev pub said_by : ℕ → Result Recorded RecordFault → Packed → Option Saying
said_by n (Err fault) p = None
said_by n (Ok r) p = cond (is_at (table_cmp r.table) p) (option_map (saying n) (some_claim r.claim)) None

-- what the first line that says something of a table says, of lines behind so many others
abbrev pub first_said : ℕ → List (List ℕ) → Packed → Option Saying
first_said n [] p = None
first_said n (line ∷ lines) p =
    option_or (said_by (next_number n) (read_line (bounded_line line)) p) (first_said (next_number n) lines p)

-- a line tells nothing: it is no record, its record claims nothing, or something is known of its table
abbrev pub tells_nothing : (Packed → Option Saying) → Result Recorded RecordFault → Bool
tells_nothing known (Err fault) = true
tells_nothing known (Ok r) = is_none (some_claim r.claim) || is_some (known r.table)

-- the numbers of the lines that tell nothing, where so much is known before them
abbrev pub untold : (Packed → Option Saying) → ℕ → List (List ℕ) → List ℕ
untold known n [] = []
untold known n (line ∷ lines) =
    let read = read_line (bounded_line line) in
    let later = untold (λ p. option_or (known p) (said_by (next_number n) read p)) (next_number n) lines in
    cond (tells_nothing known read) (next_number n ∷ later) later

-- of each table the first line that says something of it is known, and the lines that tell nothing are refused
pub record IsKnownBy (has : Option (List ℕ)) (limit : ℕ) (known : Known) : Type 0 where
  pub text : List ℕ
  pub first : AreFirstBytes has limit text
  pub lines : List (List ℕ)
  pub are_lines : AreLines text lines
  pub tables : (p : Packed) → known_of known p ≡ first_said 0 lines p
  pub refused : known.refused ≡ with_numbers no_refusals (untold (λ p. None) 0 lines)

-- what is known of a table is given where it stands, or passed over
abbrev pub IsGiven : Option Saying → Packed → Option Claim → Type 0
IsGiven None p given = given ≡ None
IsGiven (Some said) p given =
    (ShowsVerdict p (Some said.claim) × (given ≡ Some said.claim))
    ⊎ (IsPassedOver p (Some said.claim) × (given ≡ None))

-- what is known of a table is known no more, and its line is refused
abbrev pub IsRefused : Option Saying → Known → Packed → Known → Type 0
IsRefused None old p new = new ≡ old
IsRefused (Some said) old p new =
    (new.refused ≡ with_number old.refused said.line)
    × ((q : Packed) → known_of new q ≡ cond (is_at (table_cmp p) q) None (known_of old q))

-- where something is given nothing changes, else what was known of the table is refused
abbrev pub IsLookedUp : Known → Packed → Option Claim → Known → Type 0
IsLookedUp old p (Some given) new = new ≡ old
IsLookedUp old p None new = IsRefused (known_of old p) old p new

-- Where a command that searches for certificates is to look first.

-- the file of records that were found elsewhere; none where none is asked for, or nothing is searched for
abbrev pub known_in : Options → Option (Bor (List ℕ))
known_in (Decide d) = d.search.known
known_in (Retry r) = r.search.known
known_in (Run p ledger) = p.search.known
known_in (Loop p ledger) = p.search.known
known_in (Split p) = p.search.known
known_in (Settle p) = p.search.known
known_in (Walk w) = w.search.known
known_in (Work w) = w.search.known
known_in (Check checking) = None
known_in (Explain explaining) = None
known_in (Show showing) = None
known_in (Tables listing) = None
known_in (Draw drawing) = None
known_in (Coord beginning ledger listening) = None
known_in (CoordPart coordinating) = None
known_in (Merge merging) = None
known_in (Carry carrying) = None
known_in (Mend mending) = None
known_in (Report reporting) = None
known_in (Page paging) = None
known_in (Join joining) = None
known_in (Look looking) = None
