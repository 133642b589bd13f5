-- What a report tells of records and of those of a part behind them, a tree in parts, and what a walk of a tree holds.
use Rattle.std.specs.Prelude.{◌≢◌, ◌↔◌, ℕ, ◌+◌, ◌-◌, nat_lt, nat_eq, if◌then◌else◌, List, ◌++◌, Contains, AllPairs, Option, Some, None, [], ◌∷◌, ◌≡◌, map, Result, Ok, Err, ◌⊎◌, All, length}
use Rattle.machine_text.specs.Terms.{Packed}
use Rattle.cert.specs.Terms.{Recorded, with_score}
use Rattle.ledger.specs.Terms.{IsHoldout, mark_in, IsHeld, Contents, IsBoard, IsOpenOn, IsBoardOf, IsTally, IsChampion, IsOnesChampion}
use Rattle.ledger.specs.declared.counts.Tally.{Tally}
use Rattle.totals.specs.declared.sums.Sums.{Sums}
use Rattle.law_tree.specs.Terms.{IsOpen}
use Rattle.totals.specs.declared.whole.PartFault.{PartFault}
use Rattle.totals.specs.declared.whole.PartFault.TheVariants.{NotOpen, AddedBefore, NoMemory}

-- What a report tells of records, and what it tells of them with those of a part behind them.

-- what a report tells of a list of records; the tables in any order
pub record Totals : Type 0 where
  pub tally : Tally
  pub champions : List Packed
  pub ones_champions : List Packed
  pub holdouts : List Packed

-- the tables are exactly those of a kind, each once
pub record AreExactly (IsOfKind : Packed → Type 0) (tables : List Packed) : Type 0 where
  pub exact : (t : Packed) → Contains tables t ↔ IsOfKind t
  pub once : AllPairs (λ a b. a ≢ b) tables

-- of records held from a root: how many tables there are of each kind, the champions by steps and by scores, the holdouts
pub record AreTotals (root : Packed) (rs : List Recorded) (totals : Totals) : Type 0 where
  pub counted : IsTally root rs totals.tally
  pub are_champions : AreExactly (IsChampion rs totals.tally.best) totals.champions
  pub are_ones_champions : AreExactly (IsOnesChampion rs totals.tally.ones) totals.ones_champions
  pub are_holdouts : AreExactly (IsHoldout rs) totals.holdouts

-- the greater of two numbers of which either may be missing
abbrev pub greater_of : Option ℕ → Option ℕ → Option ℕ
greater_of None b = b
greater_of (Some a) None = Some a
greater_of (Some a) (Some b) = if nat_lt a b then Some b else Some a

-- a tally with a part's: the sums, but that the root of the part was counted as open before
abbrev pub with_part : Tally → Tally → Tally
with_part a b = record {
  nodes = a.nodes - 1 + b.nodes;
  halting = a.halting + b.halting;
  never = a.never + b.never;
  holdouts = a.holdouts + b.holdouts;
  open_count = a.open_count - 1 + b.open_count;
  best = greater_of a.best b.best;
  ones = greater_of a.ones b.ones;
}

-- the champions of two lists of records: those of the one with the greater number, or of both where the numbers are one
abbrev pub champions_of_both : Option ℕ → List Packed → Option ℕ → List Packed → List Packed
champions_of_both best xs None ys = xs
champions_of_both None xs (Some b) ys = ys
champions_of_both (Some a) xs (Some b) ys = if nat_lt a b then ys else (if nat_eq a b then xs ++ ys else xs)

-- the totals with a part's
abbrev pub totals_with : Totals → Totals → Totals
totals_with a b = record {
  tally = with_part a.tally b.tally;
  champions = champions_of_both a.tally.best a.champions b.tally.best b.champions;
  ones_champions = champions_of_both a.tally.ones a.ones_champions b.tally.ones b.ones_champions;
  holdouts = a.holdouts ++ b.holdouts;
}

-- the totals that are kept
abbrev pub totals_of : Sums → Totals
totals_of s = record {
  tally = s.tally;
  champions = s.champions.items;
  ones_champions = s.ones_champions.items;
  holdouts = s.holdouts.items;
}

-- A tree in parts: records from its root, the trunk, and behind them parts, each from a table that the trunk leaves open.

-- a part behind records from a root: its own root is open by them, and its records are held from there
pub record IsPartOf (root : Packed) (rs : List Recorded) (r : Packed) (ps : List Recorded) : Type 0 where
  pub is_open : IsOpen root (mark_in rs) r
  pub held : IsHeld r ps

-- parts behind a trunk's records: each is one, and no two have the same root
pub record AreParts (root : Packed) (rs : List Recorded) (parts : List Contents) : Type 0 where
  pub each : (p : Contents) → Contains parts p → IsPartOf root rs p.root p.records
  pub once : AllPairs (λ a b. a.root ≢ b.root) parts

-- the records of all together: the trunk's, and then those of the parts
abbrev pub joined_with : List Recorded → List Contents → List Recorded
joined_with rs [] = rs
joined_with rs (p ∷ parts) = joined_with (rs ++ p.records) parts

-- What a whole holds of a trunk and the parts that were added to it, and of which parts it is the whole.

-- what a whole holds: the trunk, the roots of the parts that were added, in their order, and the totals of all together
pub record Collected : Type 0 where
  pub trunk : Contents
  pub roots : List Packed
  pub totals : Totals

-- it is the whole of these parts: the trunk is a board, they are parts behind it, their roots are the ones that are held,
-- and the totals are those of the joined records
pub record IsWhole (w : Collected) (parts : List Contents) : Type 0 where
  pub trunk_is : IsBoard w.trunk
  pub are_parts : AreParts w.trunk.root w.trunk.records parts
  pub roots_are : w.roots ≡ map (λ p. p.root) parts
  pub totals_are : AreTotals w.trunk.root (joined_with w.trunk.records parts) w.totals

-- what becomes of a whole to which a part is added: of whichever parts it was the whole, it is now that of these and this
-- one; or nothing changes, since the part's root isn't open by the trunk, is that of a part that was added before, or, where
-- it is neither, for want of memory
abbrev pub AddGives : Collected → Contents → Result (Unit {0}) PartFault → Collected → Type 0
AddGives old part (Ok done) new =
    IsOpenOn old.trunk part.root × (Contains old.roots part.root → ⊥) × (new.trunk ≡ old.trunk)
    × ((parts : List Contents) → IsWhole old parts → IsWhole new (parts ++ (part ∷ [])))
AddGives old part (Err NotOpen) new = (IsOpenOn old.trunk part.root → ⊥) × (new ≡ old)
AddGives old part (Err AddedBefore) new = IsOpenOn old.trunk part.root × Contains old.roots part.root × (new ≡ old)
AddGives old part (Err NoMemory) new = IsOpenOn old.trunk part.root × (Contains old.roots part.root → ⊥) × (new ≡ old)

-- What a walk of a tree holds, and of which records it tells.

-- what a walk holds: the root of the tree, the tables that it has found and not decided yet, and what a report tells of
-- those that it has decided
pub record Walked : Type 0 where
  pub root : Packed
  pub ahead : List Packed
  pub totals : Totals

-- it has come so far: these are the records of the tables that it decided, which one board would hold; ahead are exactly
-- the tables that are open by them, and the totals are theirs
pub record IsWalked (w : Walked) (rs : List Recorded) : Type 0 where
  pub is_board : IsBoardOf w.root rs
  pub are_open : AreExactly (IsOpen w.root (mark_in rs)) w.ahead
  pub totals_are : AreTotals w.root rs w.totals

-- a decider answered the record for its table, at some time; it is held with its score
abbrev pub IsAnswered : (D : Type 0) → (D → Packed → Recorded → Type 0) → Recorded → Type 0
IsAnswered D answers x = (d : D) × (r : Recorded) × answers d x.table r × (x ≡ with_score r)

-- a walk goes on by so many tables, from the same root: of whichever records it told, it tells now of these and of so many
-- behind them, each of which is the decider's answer
pub record WalksOn (D : Type 0) (answers : D → Packed → Recorded → Type 0) (old : Walked) (count : ℕ)
    (new : Walked) : Type 0 where
  pub root : new.root ≡ old.root
  pub more : (rs : List Recorded) → IsWalked old rs
      → (more : List Recorded) × (length more ≡ count) × All (IsAnswered D answers) more × IsWalked new (rs ++ more)

-- or by at most so many: it ends with that number, or where no table is ahead
abbrev pub WalksOnFor : (D : Type 0) → (D → Packed → Recorded → Type 0) → Walked → ℕ → Walked → Type 0
WalksOnFor D answers old most new = (count : ℕ) × WalksOn D answers old count new × ((count ≡ most) ⊎ (new.ahead ≡ []))

-- or by some tables
abbrev pub WalksOnSomehow : (D : Type 0) → (D → Packed → Recorded → Type 0) → Walked → Walked → Type 0
WalksOnSomehow D answers old new = (count : ℕ) × WalksOn D answers old count new
