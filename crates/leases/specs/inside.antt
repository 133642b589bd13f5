-- For the code: how leases are stored, children under a lease, and free tables.
use Rattle.std.specs.Prelude.{◌≡◌, ℕ, ◌+◌, ◌<◌, ◌≤◌, ◌==◌, ◌↔◌, Bool, true, false, not, nat_le, List, AllPairs, Contains, Option, Some, None, IfSome, length, map, filter, slice_index_or, ◌⊎◌, if◌then◌else◌, slice_set}
use Rattle.std.specs.List.{list_any}
use Rattle.std.specs.declared.cmp.Ordering.{Ordering}
use Rattle.std.specs.declared.cmp.Reverse.{Reverse}
use Rattle.indexmap.specs.IndexSet.{spare}
use Rattle.machine_text.specs.Terms.{Packed, table_cmp}
use Rattle.ledger.specs.Terms.{Contents, IsOpenOn, same_table, IsHalting}
use Rattle.leases.specs.Limits.{lease_time, child_limit}
use Rattle.leases.specs.Leases.{Lease, Leases, came_under, is_live, while_live}
use Rattle.leases.specs.declared.held_leases.HeldLease.{HeldLease}
use Rattle.law_tree.specs.Terms.{IsChildTable}

-- For the code: how leases are stored, and as what they are seen.

-- a live lease as it is stored: its number, its worker, when it was given or renewed, the open tables that are under it, and for how
-- many more there is room
pub record StoredLease : Type 0 where
  pub number : ℕ
  pub id : ℕ
  pub renewed : ℕ
  pub tables : List Packed
  pub room : ℕ

abbrev pub stored_lease : HeldLease → StoredLease
stored_lease l = record {
  number = l.number;
  id = l.id;
  renewed = l.renewed;
  tables = l.tables.keys;
  room = spare l.tables;
}

-- a lease as it is seen: the code keeps when it was given or renewed, since a deadline may be greater than its numbers
abbrev pub as_lease : StoredLease → Lease
as_lease l = record { number = l.number; id = l.id; deadline = l.renewed + lease_time }

-- whether a lease has ended by a moment
abbrev pub has_ended : ℕ → Lease → Bool
has_ended moment l = nat_le l.deadline moment

-- the numbers of the leases that have ended by a moment, in their order
abbrev pub due_of : ℕ → List StoredLease → List ℕ
due_of moment leases = map (λ l. l.number) (filter (λ l. has_ended moment (as_lease l)) leases)

-- the leases that are stored so, as they are seen
abbrev pub as_leases : List StoredLease → List (Packed × ℕ) → ℕ → ℕ → Leases
as_leases leases came moment given = record { live = map as_lease leases; came = came; moment = moment; given = given }

-- each live lease lists the tables that came under it, and each open table that is under none is among the free ones
pub record AreStored (b : Contents) (leases : List StoredLease) (came : List (Packed × ℕ))
    (free : List Packed) : Type 0 where
  pub listed : (l : StoredLease) (t : Packed) → Contains leases l → came_under came t ≡ Some l.number
      → Contains l.tables t
  pub freed : (t : Packed) → IsOpenOn b t → while_live (map as_lease leases) (came_under came t) ≡ None
      → Contains free t

-- the tables of the leases that pass a test are among the free ones
abbrev pub AreAmongFree : (Lease → Bool) → List StoredLease → List Packed → Type 0
AreAmongFree ends leases free = (l : StoredLease) (t : Packed) → Contains leases l → ends (as_lease l) ≡ true
    → Contains l.tables t → Contains free t

abbrev pub is_numbered : Option ℕ → ℕ → Bool
is_numbered None n = false
is_numbered (Some m) n = n == m

-- the leases without the one of a number
abbrev pub without : Option ℕ → List StoredLease → List StoredLease
without which leases = filter (λ l. not (is_numbered which l.number)) leases

-- the same of several numbers
abbrev pub are_numbered : List ℕ → ℕ → Bool
are_numbered numbers n = list_any (λ m. n == m) numbers

abbrev pub without_each : List ℕ → List StoredLease → List StoredLease
without_each numbers leases = filter (λ l. not (are_numbered numbers l.number)) leases

-- the leases stand in the order of their numbers, none of which comes twice
abbrev pub RiseByNumber : List StoredLease → Type 0
RiseByNumber leases = AllPairs (λ a b. a.number < b.number) leases

-- the lease of a number stands at a place
abbrev pub StandsAt : ℕ → List StoredLease → ℕ → Type 0
StandsAt n leases place =
    (place < length leases) × ((l : StoredLease) → (slice_index_or leases place l).number ≡ n)

-- there is a lease of a worker under a number
abbrev pub HasLease : List StoredLease → ℕ → ℕ → Type 0
HasLease leases id n = (l : StoredLease) × Contains leases l × (l.number ≡ n) × (l.id ≡ id)

-- the numbers of the workers' leases
abbrev pub AreOfWorkers : (ℕ → Option ℕ) → List StoredLease → Type 0
AreOfWorkers number_of leases = (id n : ℕ) → number_of id ≡ Some n ↔ HasLease leases id n

-- no lease was given or renewed before a moment
abbrev pub AreNotBefore : ℕ → List StoredLease → Type 0
AreNotBefore moment leases = (l : StoredLease) → Contains leases l → moment ≤ l.renewed

-- no lease was given or renewed after a moment
abbrev pub AreNotAhead : ℕ → List StoredLease → Type 0
AreNotAhead moment leases = (l : StoredLease) → Contains leases l → l.renewed ≤ moment

-- these are the numbers of the leases that have ended by a moment
pub record AreDue (moment : ℕ) (leases : List Lease) (numbers : List ℕ) : Type 0 where
  pub all : (l : Lease) → Contains leases l → has_ended moment l ≡ true → Contains numbers l.number
  pub only : (l : Lease) → Contains leases l → Contains numbers l.number → has_ended moment l ≡ true

-- this is the number of a worker's lease, or none where it has none
pub record IsOwn (id : ℕ) (own : Option ℕ) (leases : List StoredLease) : Type 0 where
  pub lives : IfSome own (λ n. is_live (map as_lease leases) n ≡ true)
  pub only : (l : StoredLease) → Contains leases l → l.id ≡ id → own ≡ Some l.number
  pub exact : (l : StoredLease) → Contains leases l → own ≡ Some l.number → l.id ≡ id

-- For the code: children that come under a lease.

-- what came under a lease had come before, or came under this one now: then it is open, and listed
abbrev pub CameOnly : Contents → ℕ → List (Packed × ℕ) → List (Packed × ℕ) → List Packed → Type 0
CameOnly b number old new listed =
    (q : Packed) (n : ℕ) → came_under new q ≡ Some n → (came_under old q ≡ Some n)
    ⊎ ((n ≡ number) × IsOpenOn b q × Contains listed q)

-- a table came under the lease of a number, and each other one stays
abbrev pub ComesUnder : List (Packed × ℕ) → Packed → ℕ → List (Packed × ℕ) → Type 0
ComesUnder came t n next = (q : Packed) → came_under next q ≡ (if same_table t q then Some n else came_under came q)

-- a lease is renewed, a table leaves it, and the children of that come under it
pub record Renews (b : Contents) (t : Packed) (moment : ℕ) (old new : StoredLease)
    (came next : List (Packed × ℕ)) : Type 0 where
  pub number : new.number ≡ old.number
  pub id : new.id ≡ old.id
  pub renewed : new.renewed ≡ moment
  pub here : (q : Packed) → IsChildTable t q → IsHalting b.records t → IsOpenOn b q
      → came_under next q ≡ Some old.number
  pub other : (q : Packed) → (IsChildTable t q → ⊥) → came_under next q ≡ came_under came q
  pub only : CameOnly b old.number came next new.tables
  pub more : (q : Packed) → Contains old.tables q → (q ≡ t → ⊥) → Contains new.tables q

-- the lease of a number is renewed so, and the others stay
abbrev pub RenewsOne : Contents → Packed → ℕ → ℕ → List StoredLease → List StoredLease → List (Packed × ℕ)
    → List (Packed × ℕ) → Type 0
RenewsOne b t number moment old new came next =
    (at : ℕ) × (l : StoredLease) × (at < length old) × (number ≡ (slice_index_or old at l).number)
    × (new ≡ slice_set old at l) × Renews b t moment (slice_index_or old at l) l came next

-- there is room for the children of a table among those of a lease
abbrev pub HasRoomForChildren : ℕ → List StoredLease → Type 0
HasRoomForChildren number leases = (l : StoredLease) → Contains leases l → l.number ≡ number → child_limit ≤ l.room

-- what of a lease is seen, and its tables
abbrev pub shown : StoredLease → Lease × List Packed
shown l = (as_lease l, l.tables)

-- For the code: tables that may be free, of which the first in the order of texts comes first.

-- the tables, some of them perhaps more than once, and for how many more there is room
pub record Free : Type 0 where
  pub tables : List Packed
  pub room : ℕ

-- the order of a heap that gives the first table
abbrev pub reverse_cmp : Reverse Packed → Reverse Packed → Ordering
reverse_cmp a b = table_cmp b.0 a.0

-- a table came in, and none went
pub record ComesIn (old : List Packed) (t : Packed) (new : List Packed) : Type 0 where
  pub here : Contains new t
  pub others : (q : Packed) → Contains old q → Contains new q

-- no table but this one went
abbrev pub LosesOnly : List Packed → Packed → List Packed → Type 0
LosesOnly old t new = (q : Packed) → Contains old q → (q ≡ t → ⊥) → Contains new q

-- a table stands first
abbrev pub IsOnTop : List Packed → Packed → Type 0
IsOnTop tables t = (0 < length tables) × (t ≡ slice_index_or tables 0 t)
