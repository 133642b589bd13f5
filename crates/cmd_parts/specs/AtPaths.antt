-- A trunk and its parts by what stands at their paths.
use Rattle.std.specs.Prelude.{◌≡◌, ◌⊎◌, ℕ, Bool, false, nat_lt, List, [], ◌∷◌, Option, Some, None, Result, Ok, Err, ⊤, codes, length}
use Rattle.std.specs.Io.KnownBytes.{Appends}
use Rattle.machine_text.specs.Terms.{Packed, empty_table, text_of}
use Rattle.cert.specs.Terms.{Recorded}
use Rattle.ledger.specs.Terms.{Contents, IsOpenOn, AreAll, IsTally}
use Rattle.ledger.specs.declared.loading.Left.{Left}
use Rattle.ledger.specs.declared.counts.Tally.{Tally}
use Rattle.cmd_options.specs.declared.ended.Outcome.{Outcome}
use Rattle.cmd_options.specs.declared.ended.Outcome.TheVariants.{Accepted}
use Rattle.cmd_options.specs.declared.ended.Ended.{Ended}
use Rattle.files.specs.Terms.{Shelf, Known, SameFile, Unknown, Missing, Bytes, IsBlank, IsKept, IsKeptBut, IsLedgerAt, IsPut}
use Rattle.cmd_ledgers.specs.Terms.{GoesOnAt, LeavesAt}
use Rattle.cmd_options.specs.Terms.{PrintsNothing}
use Rattle.cmd_parts.specs.Join.{Findings, TellsAll, WarnsFirst, IsSpared}
use Rattle.cmd_parts.specs.Settle.{SettlesLedger, ComesFirst, LeavesSettled, GrowsTrunk, LeavesBegun, LeavesTrunk, begun_part, path_within, split_text}

-- what is found where this stands
abbrev pub IsFoundAt : Known → Option (Option (List ℕ) × ℕ) → Type 0
IsFoundAt Unknown found = ⊤
IsFoundAt Missing found = found ≡ None
IsFoundAt (Bytes bytes) found = found ≡ Some (Some bytes, length bytes)

abbrev pub finds_at : Shelf → Findings
finds_at shelf path found = IsFoundAt (shelf path) found

-- how many bytes stand there; none where there is no file
abbrev pub IsSizeAt : Known → ℕ → Type 0
IsSizeAt Unknown size = ⊤
IsSizeAt Missing size = size ≡ 0
IsSizeAt (Bytes bytes) size = size ≡ length bytes

-- whether something is seen there
abbrev pub SeesAt : Known → Result Bool Ended → Type 0
SeesAt known (Ok seen) = (size : ℕ) × IsSizeAt known size × (seen ≡ nat_lt 0 size)
SeesAt known (Err e) = ⊤

-- the ledger of a part comes to stand at a path, by how many bytes it had, and by its text before and after; nothing
-- changes at any path of another file
pub record IsPartMade (Does : ℕ → Option (List ℕ) → Option (List ℕ) → Type 0) (tells : SameFile) (path : List ℕ)
    (old new : Shelf) : Type 0 where
  pub before : Option (List ℕ)
  pub size : ℕ
  pub is_before : IsLedgerAt (old path) before
  pub is_size : IsSizeAt (old path) size
  pub after : Option (List ℕ)
  pub does : Does size before after
  pub is_put : IsPut tells path after old new

-- the part of a root is begun at a path
abbrev pub IsPartBegun : SameFile → List ℕ → Packed → Shelf → Shelf → Type 0
IsPartBegun tells path root old new =
    IsPartMade (λ size before after. after ≡ begun_part root size before) tells path old new

-- where that ends early nothing has changed at any path, or no more than a beginning of its header is written
abbrev pub LeavesPartAt : SameFile → List ℕ → Packed → Shelf → Shelf → Type 0
LeavesPartAt tells path root old new = IsKept old new ⊎ IsPartMade (LeavesBegun root) tells path old new

-- the part of a root is begun in a folder
abbrev pub IsBegunAt : SameFile → List ℕ → Packed → Shelf → Shelf → Type 0
IsBegunAt tells folder root old new = IsPartBegun tells (path_within folder (text_of root)) root old new

-- and those of several, one after another
abbrev pub AreBegunAt : SameFile → List ℕ → List Packed → Shelf → Shelf → Type 0
AreBegunAt tells folder [] old new = IsKept old new
AreBegunAt tells folder (root ∷ roots) old new = (middle : Shelf) × IsBegunAt tells folder root old middle
    × AreBegunAt tells folder roots middle new

-- where that ends early the first of them are begun, one after another, and the next may be left so
abbrev pub LeavesPartsAt : SameFile → List ℕ → List Packed → Shelf → Shelf → Type 0
LeavesPartsAt tells folder [] old new = IsKept old new
LeavesPartsAt tells folder (root ∷ roots) old new =
    LeavesPartAt tells (path_within folder (text_of root)) root old new
    ⊎ ((middle : Shelf) × IsBegunAt tells folder root old middle × LeavesPartsAt tells folder roots middle new)

-- the ledger at a path is locked, and settled where it stands, which is told
abbrev pub SettlesAt : {K : Type 0} → (Packed → Recorded → Type 0) → (Result (Option K) Ended → Type 0) → SameFile
    → List ℕ → Shelf → Shelf
    → Option (List ℕ) → Option (List ℕ) → Result (Unit {0}) Ended → Type 0
SettlesAt {K} Answers Locks tells path old new said new_said (Ok done) =
    (lock : K) × Locks (Ok (Some lock)) × GoesOnAt
    (λ has size before after. SettlesLedger Answers has size before after said new_said) tells path old new
SettlesAt {K} Answers Locks tells path old new said new_said (Err e) =
    LeavesAt (LeavesSettled Answers ComesFirst) tells path old new said new_said e

-- there is a file at a path: where none was, one that holds nothing
abbrev pub IsCreated : SameFile → List ℕ → Shelf → Shelf → Type 0
IsCreated tells path old new = (text : Option (List ℕ)) × IsLedgerAt (old path) text × IsPut tells path text old new

-- a trunk is read and gone on with where it stands, by the tables that have no part in the folder while it is open, by
-- what its reader has, how many bytes that is, and its text before and after
pub record TrunkGoesOnAt (Does : (Packed → Type 0) → Option (List ℕ) → ℕ → Option (List ℕ) → Option (List ℕ) → Type 0)
    (tells : SameFile) (folder path : List ℕ) (old new : Shelf) : Type 0 where
  pub opened : Shelf
  pub is_opened : IsKeptBut tells path old opened
  pub goes_on : GoesOnAt (Does (λ t. SeesAt (opened (path_within folder (text_of t))) (Ok false))) tells path old new

-- the trunk of the tree of n states that stands at a path is grown where it stands: none of the tables to be settled in
-- it has a part in the folder
abbrev pub GrowsAt : (Packed → Recorded → Type 0) → SameFile → ℕ → ℕ → List ℕ → List ℕ → Shelf → Shelf → Contents
    → Type 0
GrowsAt Answers tells n limit folder path old new trunk = TrunkGoesOnAt
    (λ HasNoPart has size before after. GrowsTrunk HasNoPart Answers n limit has size before trunk after) tells folder
    path old new

-- where that ends early nothing has changed at any path, or the trunk there is left so
abbrev pub LeavesTrunkAt : (Packed → Recorded → Type 0) → SameFile → ℕ → ℕ → List ℕ → List ℕ → Shelf → Shelf → Type 0
LeavesTrunkAt Answers tells n limit folder path old new = IsKept old new
    ⊎ TrunkGoesOnAt (λ HasNoPart. LeavesTrunk HasNoPart Answers n limit) tells folder path old new

-- a tree is split in a folder, and it is told: there is a file of the trunk, which is grown; then the part of each
-- table that the trunk leaves open is begun
pub record SplitsTree (Answers : Packed → Recorded → Type 0) (tells : SameFile) (n limit : ℕ) (folder : List ℕ)
    (old new : Shelf) (said new_said : Option (List ℕ)) : Type 0 where
  pub trunk : Contents
  pub root : trunk.root ≡ empty_table n
  pub created : Shelf
  pub is_created : IsCreated tells (path_within folder (codes "trunk")) old created
  pub grown : Shelf
  pub grows : GrowsAt Answers tells n limit folder (path_within folder (codes "trunk")) created grown trunk
  pub roots : List Packed
  pub are_open : AreAll (IsOpenOn trunk) roots
  pub begun : AreBegunAt tells folder roots grown new
  pub tally : Tally
  pub counted : IsTally trunk.root trunk.records tally
  pub says : Appends said new_said (split_text tally)

-- what an early end leaves of the parts: the trunk is grown, and of the tables that it leaves open the parts of the first
-- are begun
pub record LeavesParts (Answers : Packed → Recorded → Type 0) (tells : SameFile) (n limit : ℕ) (folder : List ℕ)
    (old new : Shelf) : Type 0 where
  pub trunk : Contents
  pub root : trunk.root ≡ empty_table n
  pub grown : Shelf
  pub grows : GrowsAt Answers tells n limit folder (path_within folder (codes "trunk")) old grown trunk
  pub roots : List Packed
  pub are_open : AreAll (IsOpenOn trunk) roots
  pub begun : LeavesPartsAt tells folder roots grown new

-- and of the folder: nothing has changed at any path; or there is a file of the trunk, and nothing else has changed, or it
-- was locked, and it or the parts are left so
abbrev pub LeavesSplit : {K : Type 0} → (Packed → Recorded → Type 0) → (Result (Option K) Ended → Type 0) → SameFile
    → ℕ → ℕ → List ℕ → Shelf → Shelf → Type 0
LeavesSplit {K} Answers Locks tells n limit folder old new = IsKept old new
    ⊎ ((created : Shelf) × IsCreated tells (path_within folder (codes "trunk")) old created
    × (IsKept created new ⊎ (((lock : K) × Locks (Ok (Some lock)))
    × (LeavesTrunkAt Answers tells n limit folder (path_within folder (codes "trunk")) created new
    ⊎ LeavesParts Answers tells n limit folder created new))))

-- it is accepted only where the trunk was locked and the tree is split so
abbrev pub SplitsAt : {K : Type 0} → (Packed → Recorded → Type 0) → (Result (Option K) Ended → Type 0) → SameFile → ℕ
    → ℕ → List ℕ → Shelf → Shelf
    → Option (List ℕ) → Option (List ℕ) → Result Outcome Ended → Type 0
SplitsAt {K} Answers Locks tells n limit folder old new said new_said (Ok o) =
    (o ≡ Accepted) × ((lock : K) × Locks (Ok (Some lock)))
    × SplitsTree Answers tells n limit folder old new said new_said
SplitsAt {K} Answers Locks tells n limit folder old new said new_said (Err e) = PrintsNothing e said new_said
    × LeavesSplit Answers Locks tells n limit folder old new

-- a trunk and its parts are told of, where they stand; nothing changes at any path
abbrev pub JoinsAt : (Packed → List Recorded → Left → List ℕ → Type 0) → List ℕ → Shelf → Shelf → Option (List ℕ)
    → Option (List ℕ) → Option (List ℕ) → Option (List ℕ)
    → Result Outcome Ended → Type 0
JoinsAt IsText folder old new said new_said faults new_faults (Ok o) =
    TellsAll IsText (finds_at old) folder None None said new_said faults new_faults o × IsKept old new
JoinsAt IsText folder old new said new_said faults new_faults (Err e) = PrintsNothing e said new_said
    × WarnsFirst (finds_at old) folder faults new_faults e × IsKept old new

-- they are told of, and the one ledger of all comes to stand at a path, which is locked and that of none of them. Where that ends early nothing
-- changes at any path; the telling ended, or all is told, but the ledger isn't put
abbrev pub CollectsAt : {K : Type 0} → (Packed → List Recorded → Left → List ℕ → Type 0)
    → (Result (Option K) Ended → Type 0) → SameFile → List ℕ → List ℕ → Shelf → Shelf
    → Option (List ℕ) → Option (List ℕ) → Option (List ℕ) → Option (List ℕ) → Result Outcome Ended → Type 0
CollectsAt {K} IsText Locks tells folder out old new said new_said faults new_faults (Ok o) =
    ((lock : K) × Locks (Ok (Some lock))) × IsSpared (tells out) (finds_at old) folder
    × ((begun text : Option (List ℕ)) × IsBlank begun
    × TellsAll IsText (finds_at old) folder begun text said new_said faults new_faults o × IsPut tells out text old new)
CollectsAt {K} IsText Locks tells folder out old new said new_said faults new_faults (Err e) =
    ((PrintsNothing e said new_said × WarnsFirst (finds_at old) folder faults new_faults e)
    ⊎ ((begun text : Option (List ℕ)) × (o : Outcome)
    × TellsAll IsText (finds_at old) folder begun text said new_said faults new_faults o)) × IsKept old new
