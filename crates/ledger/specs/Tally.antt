-- Which tables are of a kind, and how many they are.
use Rattle.std.specs.Prelude.{◌≡◌, ◌≢◌, ℕ, ◌+◌, ◌<◌, ◌≤◌, ◌↔◌, List, Contains, AllPairs, Option, Some, None, length}
use Rattle.std.specs.Ordering.{nat_cmp}
use Rattle.std.specs.declared.cmp.Ordering.TheVariants.{Less}
use Rattle.std.specs.Cmp.Lexicographic.{slice_cmp}
use Rattle.machine_text.specs.Terms.{Packed, entry_of, text_of}
use Rattle.law_turing.specs.Terms.{score_at, HaltsAt, Never}
use Rattle.law_tree.specs.Terms.{Halting, NeverHalting, IsOpen, IsComplete, Scores, InTableTree, IsGreatestInTables}
use Rattle.cert.specs.Terms.{Recorded}
use Rattle.ledger.specs.Records.{mark_in, IsHoldout}
use Rattle.ledger.specs.declared.counts.Tally.{Tally}
use Rattle.ledger.specs.declared.faults.Status.{Status}
use Rattle.ledger.specs.declared.faults.Status.TheVariants.{Working, Holdouts, Complete}

-- Which tables are of a kind, how many they are, and how a board stands.

-- each text comes before the later ones, in the order of their bytes
abbrev pub AreInTextOrder : List Packed → Type 0
AreInTextOrder tables = AllPairs (λ a b. slice_cmp nat_cmp (text_of a) (text_of b) ≡ Less) tables

-- the tables of a kind, all of them and no other, in the order of their texts
pub record AreAll (IsOfKind : Packed → Type 0) (tables : List Packed) : Type 0 where
  pub exact : (t : Packed) → Contains tables t ↔ IsOfKind t
  pub rising : AreInTextOrder tables

-- so many tables are of a kind: they can be listed, each once
pub record AreSoMany (IsOfKind : Packed → Type 0) (number : ℕ) : Type 0 where
  pub tables : List Packed
  pub exact : (t : Packed) → Contains tables t ↔ IsOfKind t
  pub once : AllPairs (λ a b. a ≢ b) tables
  pub is : number ≡ length tables

-- recorded as halting in so many steps; recorded as halting; recorded as never halting
abbrev pub HaltsAfter : List Recorded → ℕ → Packed → Type 0
HaltsAfter rs k t = mark_in rs t ≡ Some (Halting k)

abbrev pub IsHalting : List Recorded → Packed → Type 0
IsHalting rs t = (k : ℕ) × HaltsAfter rs k t

abbrev pub IsNeverHalting : List Recorded → Packed → Type 0
IsNeverHalting rs t = mark_in rs t ≡ Some NeverHalting

-- the greatest number of steps recorded of a table that halts; none where none is
abbrev pub IsGreatestCount : List Recorded → Option ℕ → Type 0
IsGreatestCount rs None = (t : Packed) (k : ℕ) → HaltsAfter rs k t → ⊥
IsGreatestCount rs (Some s) = ((t : Packed) × HaltsAfter rs s t) × ((t : Packed) (k : ℕ) → HaltsAfter rs k t → k ≤ s)

-- recorded as halting with so many ones on its tape then, its score (Radó 1962)
abbrev pub HasOnes : List Recorded → ℕ → Packed → Type 0
HasOnes rs s t = (k : ℕ) × HaltsAfter rs k t × (s ≡ score_at (entry_of t) k)

-- the greatest score of a table that is recorded as halting; none where none is
abbrev pub IsGreatestOnes : List Recorded → Option ℕ → Type 0
IsGreatestOnes rs None = (t : Packed) (s : ℕ) → HasOnes rs s t → ⊥
IsGreatestOnes rs (Some best) = ((t : Packed) × HasOnes rs best t) × ((t : Packed) (s : ℕ) → HasOnes rs s t → s ≤ best)

-- a table that is recorded with the greatest number of steps
abbrev pub IsChampion : List Recorded → Option ℕ → Packed → Type 0
IsChampion rs None t = ⊥
IsChampion rs (Some s) t = HaltsAfter rs s t

-- a table that is recorded with the greatest score
abbrev pub IsOnesChampion : List Recorded → Option ℕ → Packed → Type 0
IsOnesChampion rs None t = ⊥
IsOnesChampion rs (Some s) t = HasOnes rs s t

-- how many tables there are of each kind; the nodes are the records and the open tables together
pub record IsTally (root : Packed) (rs : List Recorded) (tally : Tally) : Type 0 where
  pub nodes : tally.nodes ≡ length rs + tally.open_count
  pub open_count : AreSoMany (IsOpen root (mark_in rs)) tally.open_count
  pub halting : AreSoMany (IsHalting rs) tally.halting
  pub never : AreSoMany (IsNeverHalting rs) tally.never
  pub holdouts : AreSoMany (IsHoldout rs) tally.holdouts
  pub best : IsGreatestCount rs tally.best
  pub ones : IsGreatestOnes rs tally.ones

-- how a board stands: tables are open; none is, but there are holdouts; or neither
abbrev pub IsStatus : Packed → List Recorded → Status → Type 0
IsStatus root rs (Working count) = (0 < count) × AreSoMany (IsOpen root (mark_in rs)) count
IsStatus root rs (Holdouts count) = ((t : Packed) → IsOpen root (mark_in rs) t → ⊥) × (0 < count)
    × AreSoMany (IsHoldout rs) count
IsStatus root rs (Complete best ones) = IsComplete root (mark_in rs) × IsGreatestCount rs best × IsGreatestOnes rs ones

-- How many tables the tree of a root has of each kind, and which of them halt last or with the most ones: what a complete
-- board tells.

-- the tables of the tree, those that halt, those that never do, the greatest number of steps and the greatest score;
-- nothing is left open
pub record IsTreeTally (root : Packed) (tally : Tally) : Type 0 where
  pub nodes : AreSoMany (InTableTree root) tally.nodes
  pub halting : AreSoMany (λ t. InTableTree root t × ((k : ℕ) × HaltsAt (entry_of t) k)) tally.halting
  pub never : AreSoMany (λ t. InTableTree root t × Never (entry_of t)) tally.never
  pub holdouts : tally.holdouts ≡ 0
  pub open_count : tally.open_count ≡ 0
  pub best : IsGreatestInTables HaltsAt root tally.best
  pub ones : IsGreatestInTables Scores root tally.ones

-- a table of the tree that halts after the greatest number of steps
abbrev pub IsTreeChampion : Packed → Option ℕ → Packed → Type 0
IsTreeChampion root None t = ⊥
IsTreeChampion root (Some s) t = InTableTree root t × HaltsAt (entry_of t) s

-- a table of the tree that halts with the greatest score
abbrev pub IsTreeOnesChampion : Packed → Option ℕ → Packed → Type 0
IsTreeOnesChampion root None t = ⊥
IsTreeOnesChampion root (Some s) t = InTableTree root t × Scores (entry_of t) s
