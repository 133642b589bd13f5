-- The children of a machine in tree normal form, its tree, and the best in it; and trees of tables.
use Rattle.std.specs.Prelude.{◌≡◌, ℕ, zero, suc, ◌<◌, ◌==◌, ◌||◌, Bool, false, Option, Some, None, is_some, count_by, ◌+◌, ◌*◌, ◌≤◌, min, ◌⊎◌, ◌++◌, if◌then◌else◌, List, map, max, fold, unwrap_or, nat_le, []}
use Rattle.std.specs.List.{range_with_len}
use Rattle.machine_text.specs.declared.table.Sym.{Sym}
use Rattle.machine_text.specs.declared.table.Sym.TheVariants.{Zero, One}
use Rattle.machine_text.specs.declared.table.Entry.{Entry}
use Rattle.law_turing.specs.Terms.{Machine, IsMachine, Extends}
pub use Rattle.machine_text.specs.Packed.{same_symbol, filled}
use Rattle.machine_text.specs.declared.table.Dir.{Dir}
use Rattle.machine_text.specs.declared.table.Dir.TheVariants.{L, R}
use Rattle.machine_text.specs.Terms.{holes, symbol_number, direction_number, Packed, IsTable, entry_of, with_entry}
pub use Rattle.law_turing.specs.Halting.{HaltsOn}
use Rattle.law_turing.specs.Terms.{HaltsAt, Never, HaltsWith}

-- Which states a machine uses: A, each state that has an entry, and each target of an entry; and machines in
-- order, whose used states are the first letters.
pub data IsUsed (m : Machine) (q : ℕ) : Type 0 where
  Start : q ≡ 0 → IsUsed m q
  Source : (s : Sym) (e : Entry) → m q s ≡ Some e → IsUsed m q
  Target : (p : ℕ) (s : Sym) (e : Entry) → m p s ≡ Some e → e.next.0 ≡ q → IsUsed m q

-- in order: the used states are the first u, so u is the first unused one
pub record InOrder (u : ℕ) (m : Machine) : Type 0 where
  pub only : (q : ℕ) → IsUsed m q → q < u
  pub each : (q : ℕ) → q < u → IsUsed m q

-- the test of a used state, over the entries of the first n states
abbrev pub leads_to : Option Entry → ℕ → Bool
leads_to None q = false
leads_to (Some e) q = e.next.0 == q

abbrev pub has_entry : Machine → ℕ → Bool
has_entry m q = is_some (m q Zero) || is_some (m q One)

unfoldable pub is_target : ℕ → Machine → ℕ → Bool
is_target zero m q = false
is_target (suc n) m q = (leads_to (m n Zero) q || leads_to (m n One) q) || is_target n m q

unfoldable pub is_used : ℕ → Machine → ℕ → Bool
is_used n m q = (q == 0) || (has_entry m q || is_target n m q)

-- how many of the first n states are used
unfoldable pub used_count : ℕ → Machine → ℕ
used_count n m = count_by (is_used n m) (range_with_len 0 n)

-- What more entries make of a machine: one pair filled, and no pair filled at all.

-- the machine in which every pair is undefined
abbrev pub empty_machine : Machine
empty_machine = λ q s. None

-- every pair is undefined
pub record IsEmpty (m : Machine) : Type 0 where
  pub is : (q : ℕ) (s : Sym) → m q s ≡ None

-- The children of a machine in tree normal form: it halts on a pair, and the pair gets an entry.

-- an entry that a child gets, where the used states are the first u: its target is one of the n states, and a
-- used one or the first unused one; the first move of all is to the right
pub record IsChildEntry (n u : ℕ) (m : Machine) (e : Entry) : Type 0 where
  pub within : e.next.0 < n
  pub target : e.next.0 ≤ u
  pub right : IsEmpty m → e.dir ≡ R

-- t is a child of m: m halts on a pair, at least two pairs are undefined, and that pair gets such an entry
pub record IsChild (n : ℕ) (m t : Machine) : Type 0 where
  pub used : ℕ
  pub in_order : InOrder used m
  pub count : ℕ
  pub state : ℕ
  pub symbol : Sym
  pub halts : HaltsOn m count state symbol
  pub undefined : 2 ≤ holes n m
  pub entry : Entry
  pub is_entry : IsChildEntry n used m entry
  pub is : t ≡ filled m state symbol entry

-- the order of the texts of entries: by the symbol, then by the direction, then by the target
abbrev pub move_number : Entry → ℕ
move_number e = 2 * symbol_number e.write + direction_number e.dir

abbrev pub Precedes : Entry → Entry → Type 0
Precedes a b = (move_number a < move_number b) ⊎ ((move_number a ≡ move_number b) × (a.next.0 < b.next.0))

-- the entries to the first so many states that write a symbol and move in a direction
abbrev pub entries_to : ℕ → Sym → Dir → List Entry
entries_to targets w d = map (λ q. record { write = w; dir = d; next = record { 0 = q } }) (range_with_len 0 targets)

-- the entries of the children in the order of their texts; where every pair is undefined, to the right alone
unfoldable pub child_entries : ℕ → ℕ → Machine → List Entry
child_entries n u m =
    let targets = min n (u + 1) in
    if holes n m == 2 * n then entries_to targets Zero R ++ entries_to targets One R
    else (entries_to targets Zero L ++ entries_to targets Zero R)
    ++ (entries_to targets One L ++ entries_to targets One R)

-- The tree of a machine: the machine itself, and the trees of its children.

-- the second machine stands in the tree of the first
pub data InTree (n : ℕ) : Machine → Machine → Type 0 where
  Root : {m : Machine} → InTree n m m
  Below : {m c t : Machine} → IsChild n m c → InTree n c t → InTree n m t

-- each machine of the tree halts or never does
abbrev pub IsDecided : ℕ → Machine → Type 0
IsDecided n m = (t : Machine) → InTree n m t → ((k : ℕ) × HaltsAt t k) ⊎ Never t

-- the greatest worth (as the number of steps of a halting run) in the tree of m; none where no machine has one
abbrev pub IsGreatestInTree : (Machine → ℕ → Type 0) → ℕ → Machine → Option ℕ → Type 0
IsGreatestInTree V n m None = (t : Machine) (k : ℕ) → InTree n m t → V t k → ⊥
IsGreatestInTree V n m (Some s) =
    ((t : Machine) × InTree n m t × V t s) × ((t : Machine) (k : ℕ) → InTree n m t → V t k → k ≤ s)

-- The best of a machine: the greatest worth, as the number of steps, of all its extensions, in the tree or not.

-- the run from the blank tape halts with this score
abbrev pub Scores : Machine → ℕ → Type 0
Scores m s = (k : ℕ) × HaltsWith m k s

-- some extension of m of n states has this worth: with `HaltsAt`, it halts in so many steps
pub record Attains (V : Machine → ℕ → Type 0) (n : ℕ) (m : Machine) (t : ℕ) : Type 0 where
  pub big : Machine
  pub is_machine : IsMachine n big
  pub extends : Extends big m
  pub worth : V big t

-- the greatest worth of an extension; none where no extension has one
abbrev pub IsBest : (Machine → ℕ → Type 0) → ℕ → Machine → Option ℕ → Type 0
IsBest V n m None = (t : ℕ) → Attains V n m t → ⊥
IsBest V n m (Some s) = Attains V n m s × ((t : ℕ) → Attains V n m t → t ≤ s)

-- s is the greatest of k and of what the children have by b
pub record IsGreatestOf (n u : ℕ) (m : Machine) (k : ℕ) (b : Entry → Option ℕ) (s : ℕ) : Type 0 where
  pub one : (s ≡ k) ⊎ ((e : Entry) × IsChildEntry n u m e × (b e ≡ Some s))
  pub own : k ≤ s
  pub each : (e : Entry) (t : ℕ) → IsChildEntry n u m e → b e ≡ Some t → t ≤ s

-- the greatest of k and of what the entries of a list have by b
unfoldable pub greatest_of : ℕ → (Entry → Option ℕ) → List Entry → ℕ
greatest_of k b es = fold (λ g e. max g (unwrap_or (b e) 0)) k es

-- the greatest worth of all machines of n states, in any order and with any undefined pairs
pub record IsGreatestOfAll (V : Machine → ℕ → Type 0) (n s : ℕ) : Type 0 where
  pub champion : Machine
  pub is_machine : IsMachine n champion
  pub worth : V champion s
  pub greatest : (m : Machine) (k : ℕ) → IsMachine n m → V m k → k ≤ s

-- Children, the tree and the best of tables, which are what programs hold. The map of a table is a
-- machine of its states.

-- t is a child of p: p halts on a pair, at least two pairs are undefined, and that pair gets an entry whose
-- target is used or the first unused state; where p is empty, only to the right
pub record IsChildTable (p t : Packed) : Type 0 where
  pub used : ℕ
  pub in_order : InOrder used (entry_of p)
  pub count : ℕ
  pub state : ℕ
  pub symbol : Sym
  pub halts : HaltsOn (entry_of p) count state symbol
  pub undefined : 2 ≤ holes p.states (entry_of p)
  pub entry : Entry
  pub is_entry : IsChildEntry p.states used (entry_of p) entry
  pub is : t ≡ with_entry p state symbol entry

-- the children of a table in order that halts on a pair, in the order of their texts; none where only one pair is
-- undefined
unfoldable pub children_at : Packed → ℕ → Sym → List Packed
children_at p q s =
    if nat_le 2 (holes p.states (entry_of p)) then map (with_entry p q s)
    (child_entries p.states (used_count p.states (entry_of p)) (entry_of p))
    else []

-- t stands in the tree of p: it is p, or stands in the tree of a child
pub data InTableTree : Packed → Packed → Type 0 where
  Itself : {p : Packed} → InTableTree p p
  OfChild : {p c t : Packed} → IsChildTable p c → InTableTree c t → InTableTree p t

-- each table of the tree halts or never does
abbrev pub IsDecidedTable : Packed → Type 0
IsDecidedTable p = (t : Packed) → InTableTree p t → ((k : ℕ) × HaltsAt (entry_of t) k) ⊎ Never (entry_of t)

-- some extension of p, a table of as many states, has this worth: with `HaltsAt`, it halts in so many steps
pub record TableAttains (V : Machine → ℕ → Type 0) (p : Packed) (k : ℕ) : Type 0 where
  pub big : Packed
  pub is_table : IsTable big
  pub states : big.states ≡ p.states
  pub extends : Extends (entry_of big) (entry_of p)
  pub worth : V (entry_of big) k

-- the greatest worth of an extension of p; none where no extension has one
abbrev pub IsBestOfTable : (Machine → ℕ → Type 0) → Packed → Option ℕ → Type 0
IsBestOfTable V p None = (k : ℕ) → TableAttains V p k → ⊥
IsBestOfTable V p (Some s) = TableAttains V p s × ((k : ℕ) → TableAttains V p k → k ≤ s)

-- the greatest worth in the tree of p; none where no table of it has one
abbrev pub IsGreatestInTables : (Machine → ℕ → Type 0) → Packed → Option ℕ → Type 0
IsGreatestInTables V p None = (t : Packed) (k : ℕ) → InTableTree p t → V (entry_of t) k → ⊥
IsGreatestInTables V p (Some s) =
    ((t : Packed) × InTableTree p t × V (entry_of t) s)
    × ((t : Packed) (k : ℕ) → InTableTree p t → V (entry_of t) k → k ≤ s)

-- What is recorded of the tables of a tree, and when a table is closed: its tree is settled.

-- what is recorded of a table: it halts in so many steps, it never halts, or it wasn't decided (a holdout)
pub data Mark : Type 0 where
  Halting : ℕ → Mark
  NeverHalting : Mark
  Holdout : Mark

-- the verdict that a mark gives is true
abbrev pub IsTrueMark : Packed → Option Mark → Type 0
IsTrueMark t None = Unit {0}
IsTrueMark t (Some (Halting k)) = HaltsAt (entry_of t) k
IsTrueMark t (Some NeverHalting) = Never (entry_of t)
IsTrueMark t (Some Holdout) = Unit {0}

abbrev pub AreTrueMarks : (Packed → Option Mark) → Type 0
AreTrueMarks marks = (t : Packed) → IsTrueMark t (marks t)

-- each table recorded as halting halts with the score that is given for it
abbrev pub AreTrueScores : (Packed → Option Mark) → (Packed → ℕ) → Type 0
AreTrueScores marks scores = (t : Packed) (k : ℕ) → marks t ≡ Some (Halting k) → HaltsWith (entry_of t) k (scores t)

-- a mark gives a verdict
abbrev pub IsVerdict : Option Mark → Type 0
IsVerdict None = ⊥
IsVerdict (Some (Halting k)) = Unit {0}
IsVerdict (Some NeverHalting) = Unit {0}
IsVerdict (Some Holdout) = ⊥

-- open: the root, or a child of a table recorded as halting, of which nothing is recorded
pub record IsOpen (root : Packed) (marks : Packed → Option Mark) (t : Packed) : Type 0 where
  pub unmarked : marks t ≡ None
  pub place : (t ≡ root) ⊎ ((p : Packed) × (k : ℕ) × (marks p ≡ Some (Halting k)) × IsChildTable p t)

-- closed: with a verdict, and no table of the tree is open or a holdout
pub record IsClosed (root : Packed) (marks : Packed → Option Mark) (p : Packed) : Type 0 where
  pub verdict : IsVerdict (marks p)
  pub none_open : (t : Packed) → InTableTree p t → IsOpen root marks t → ⊥
  pub no_holdout : (t : Packed) → InTableTree p t → marks t ≡ Some Holdout → ⊥

-- complete: no table is open, and none is a holdout
pub record IsComplete (root : Packed) (marks : Packed → Option Mark) : Type 0 where
  pub none_open : (t : Packed) → IsOpen root marks t → ⊥
  pub no_holdout : (t : Packed) → marks t ≡ Some Holdout → ⊥

-- the greatest value recorded in the tree of p, where a table t recorded as halting in k has the value `value t k`
abbrev pub IsGreatestRecorded : (Packed → ℕ → ℕ) → (Packed → Option Mark) → Packed → Option ℕ → Type 0
IsGreatestRecorded value marks p None = (t : Packed) (k : ℕ) → InTableTree p t → marks t ≡ Some (Halting k) → ⊥
IsGreatestRecorded value marks p (Some s) =
    ((t : Packed) × (k : ℕ) × InTableTree p t × (marks t ≡ Some (Halting k)) × (s ≡ value t k))
    × ((t : Packed) (k : ℕ) → InTableTree p t → marks t ≡ Some (Halting k) → value t k ≤ s)
