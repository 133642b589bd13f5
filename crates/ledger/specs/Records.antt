-- What a list of records says of a table, and which lists a board holds.
use Rattle.std.specs.Prelude.{◌≡◌, List, [], ◌∷◌, Option, MatchOption, Bool, ◌&&◌, if◌then◌else◌, Some, None, option_map, nat_eq, ℕ, ◌≤◌, All, ◌++◌, IsSome}
use Rattle.std.specs.Cmp.Lexicographic.{pointwise}
use Rattle.cert.specs.Terms.{Recorded, Claim, ending_by, shown_by, recorded, IsCertified, with_score}
use Rattle.cert.specs.declared.record.Record.{Record}
use Rattle.machine_text.specs.Terms.{Packed, IsTable, entry_of}
use Rattle.kind_evidence.specs.declared.verdicts.Ending.{Ending}
use Rattle.kind_evidence.specs.declared.verdicts.Verdict.{Verdict}
use Rattle.kind_evidence.specs.declared.verdicts.Ending.TheVariants.{Halts, Never}
use Rattle.law_tree.specs.Terms.{Mark, Halting, NeverHalting, Holdout, Scores, IsOpen, InOrder}
use Rattle.law_turing.specs.Terms.{Machine, IsMachine}
use Rattle.ledger.specs.declared.header.Format.{Format}

-- One record after another.

-- the first of the records that are left comes, and the others are left; none where none is left
abbrev pub GivesRecord : List Recorded → Option Record → List Recorded → Type 0
GivesRecord old given new = MatchOption given ((old ≡ []) × (new ≡ [])) (λ r. old ≡ recorded r ∷ new)

-- What a list of records says of a table.

-- whether two tables are one
unfoldable pub same_table : Packed → Packed → Bool
same_table a b = pointwise nat_eq a.codes b.codes && nat_eq a.states b.states

-- what the first record for a table claims of it; none where there is no record for it
unfoldable pub claim_in : List Recorded → Packed → Option Claim
claim_in [] t = None
claim_in (r ∷ rs) t = if same_table r.table t then Some r.claim else claim_in rs t

-- the mark of a table for which a verdict is shown, or none
abbrev pub mark_by : Option Ending → Mark
mark_by None = Holdout
mark_by (Some (Halts k)) = Halting k
mark_by (Some Never) = NeverHalting

abbrev pub mark_of : Claim → Mark
mark_of c = mark_by (ending_by c)

-- what is recorded of a table: that it halts or never does, that it is a holdout, or nothing
abbrev pub mark_in : List Recorded → Packed → Option Mark
mark_in rs t = option_map mark_of (claim_in rs t)

-- how a table's run ends by its record; nothing where there is no record, and for a holdout
abbrev pub ending_where : Option Claim → Option Ending
ending_where None = None
ending_where (Some c) = ending_by c

abbrev pub ending_in : List Recorded → Packed → Option Ending
ending_in rs t = ending_where (claim_in rs t)

-- the recorded verdict; none where there is no record, and for a holdout
abbrev pub shown_where : Packed → Option Claim → Option Verdict
shown_where t None = None
shown_where t (Some c) = shown_by c t

abbrev pub verdict_in : List Recorded → Packed → Option Verdict
verdict_in rs t = shown_where t (claim_in rs t)

-- The greatest score: Σ(n) (Radó 1962).

-- s is the greatest score with which a machine of n states halts: Σ(n)
pub record IsSigma (n s : ℕ) : Type 0 where
  pub champion : Machine
  pub is_machine : IsMachine n champion
  pub scores : Scores champion s
  pub greatest : (m : Machine) (k : ℕ) → IsMachine n m → Scores m k → k ≤ s

-- Which lists of records a board may hold from a root, and how a record changes them.

-- fit after earlier records: its table is open by them (the root, or a child of one recorded as halting, without a
-- record of its own), and it is certified
pub record IsFit (root : Packed) (earlier : List Recorded) (r : Recorded) : Type 0 where
  pub is_open : IsOpen root (mark_in earlier) r.table
  pub certified : IsCertified r

-- each record is fit after the earlier ones and those before it
abbrev pub AreFitAfter : Packed → List Recorded → List Recorded → Type 0
AreFitAfter root earlier [] = Unit {0}
AreFitAfter root earlier (r ∷ rs) = IsFit root earlier r × AreFitAfter root (earlier ++ (r ∷ [])) rs

-- a record is held with its score
abbrev pub HasScore : Recorded → Type 0
HasScore r = with_score r ≡ r

-- held from a root: each record is fit after those before it, and has its score
pub record IsHeld (root : Packed) (rs : List Recorded) : Type 0 where
  pub fit : AreFitAfter root [] rs
  pub scored : All HasScore rs

-- a holdout: recorded, without a verdict
abbrev pub IsHoldout : List Recorded → Packed → Type 0
IsHoldout rs t = mark_in rs t ≡ Some Holdout

-- the record resolves a holdout: it has a verdict, and is certified
pub record Resolves (rs : List Recorded) (r : Recorded) : Type 0 where
  pub is_holdout : IsHoldout rs r.table
  pub verdict : IsSome (ending_by r.claim)
  pub certified : IsCertified r

-- the records with this one in the place of the first for its table
unfoldable pub resolved : List Recorded → Recorded → List Recorded
resolved [] r = []
resolved (x ∷ xs) r = if same_table x.table r.table then r ∷ xs else x ∷ resolved xs r

-- What a board holds: the root of its tree, the records in their order, and the version of its ledger's text.
pub record Contents : Type 0 where
  pub root : Packed
  pub records : List Recorded
  pub format : Format

-- the root is a table in order, and the records are held from it
pub record IsBoardOf (root : Packed) (rs : List Recorded) : Type 0 where
  pub is_table : IsTable root
  pub in_order : (u : ℕ) × InOrder u (entry_of root)
  pub held : IsHeld root rs

abbrev pub IsBoard : Contents → Type 0
IsBoard b = IsBoardOf b.root b.records

-- the table is open on the board
abbrev pub IsOpenOn : Contents → Packed → Type 0
IsOpenOn b t = IsOpen b.root (mark_in b.records) t
