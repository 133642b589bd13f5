-- The leases of a coordinator, what a worker that asks is answered, and what offers do to leases.
use Rattle.std.specs.Prelude.{◌≡◌, ◌≢◌, ℕ, ◌<◌, ◌≤◌, ◌==◌, Bool, not, if◌then◌else◌, max, nat_le, List, [], All, AllPairs, Option, Some, None, Contains, length, filter, ◌+◌, false, ◌∷◌, ◌++◌, ◌⊎◌, Result, Ok, Err, map}
use Rattle.std.specs.List.{list_any}
use Rattle.std.specs.Map.{lookup}
use Rattle.std.specs.Ordering.{nat_cmp, is_lt}
use Rattle.std.specs.Cmp.Lexicographic.{slice_cmp}
use Rattle.machine_text.specs.Terms.{Packed, text_of}
use Rattle.ledger.specs.Terms.{Contents, IsOpenOn, same_table, gained_line, KeepsTree, OfferGives}
use Rattle.leases.specs.Limits.{lease_limit, lease_time, last_number}
use Rattle.leases.specs.declared.held_leases.Reply.{Reply}
use Rattle.leases.specs.declared.held_leases.Reply.TheVariants.{Stop, Later, Grant}
use Rattle.ledger.specs.declared.faults.Taken.{Taken}
use Rattle.ledger.specs.declared.faults.Taken.TheVariants.{New, Known, Settled}
use Rattle.cert.specs.Terms.{Recorded}
use Rattle.ledger.specs.declared.faults.OfferFault.{OfferFault}
use Rattle.ledger.specs.declared.faults.OfferFault.TheVariants.{NoMemory}

-- The leases of a coordinator: which leases live, under which of them each open table stands, and what each event
-- does to them.

-- a live lease: its number, the worker that has it, and the moment at which it ends
pub record Lease : Type 0 where
  pub number : ℕ
  pub id : ℕ
  pub deadline : ℕ

pub record Leases : Type 0 where
  -- the live leases, in the order in which they were given
  pub live : List Lease
  -- tables, each with the number of the lease under which it came last: it stands under that while it lives
  pub came : List (Packed × ℕ)
  pub moment : ℕ
  -- the last number that was given, 0 at first
  pub given : ℕ

-- a board, and the leases on its open tables
pub record Leased : Type 0 where
  pub board : Contents
  pub leases : Leases

-- a lease of this number lives
abbrev pub is_live : List Lease → ℕ → Bool
is_live live n = list_any (λ l. l.number == n) live

-- a number while its lease lives, and then none
abbrev pub while_live : List Lease → Option ℕ → Option ℕ
while_live live None = None
while_live live (Some n) = if is_live live n then Some n else None

abbrev pub came_under : List (Packed × ℕ) → Packed → Option ℕ
came_under came t = lookup (same_table t) came

-- the number of the live lease under which a table stands, or none
abbrev pub lease_of : Leases → Packed → Option ℕ
lease_of s t = while_live s.live (came_under s.came t)

-- what holds at each moment: so many leases live at most, no number and no id stands twice, each number was given, and
-- each table that came under a lease is open
pub record AreLeases (b : Contents) (s : Leases) : Type 0 where
  pub most : length s.live ≤ lease_limit
  pub numbers : AllPairs (λ a b. a.number < b.number) s.live
  pub ids : AllPairs (λ a b. a.id ≢ b.id) s.live
  pub given : All (λ l. l.number ≤ s.given) s.live
  pub came_given : (t : Packed) (n : ℕ) → came_under s.came t ≡ Some n → n ≤ s.given
  pub is_open : (t : Packed) (n : ℕ) → came_under s.came t ≡ Some n → IsOpenOn b t

-- at first: nothing is under a lease, the moment is 0, and no number was given
abbrev pub no_leases : Leases
no_leases = record { live = []; came = []; moment = 0; given = 0 }

-- the leases that pass a test end: their tables are under none
abbrev pub ended : (Lease → Bool) → Leases → Leases
ended ends s = record { live = filter (λ l. not (ends l)) s.live; came = s.came; moment = s.moment; given = s.given }

-- some live lease ends by a moment
abbrev pub SomeEnds : ℕ → List Lease → Type 0
SomeEnds moment live = (l : Lease) × Contains live l × (l.deadline ≤ moment)

-- a tick: the moment becomes the greater of itself and t, and each lease whose deadline is at most the moment ends
abbrev pub ticked : ℕ → Leases → Leases
ticked t s =
    let now = max s.moment t in
    ended (λ l. nat_le l.deadline now) (record { live = s.live; came = s.came; moment = now; given = s.given })

-- the lease of a number ends, if it lives, and that is answered
abbrev pub IsDone : ℕ → Leases → Bool → Leases → Type 0
IsDone n old lived new = (lived ≡ is_live old.live n) × (new ≡ ended (λ l. l.number == n) old)

-- What a worker that asks is answered, and the lease that it gets.

-- open, and under none
abbrev pub IsFree : Contents → Leases → Packed → Type 0
IsFree b s t = IsOpenOn b t × (lease_of s t ≡ None)

-- the first of the free tables, in the order of their texts
abbrev pub IsFirstFree : Contents → Leases → Packed → Type 0
IsFirstFree b s t = IsFree b s t × ((q : Packed) → IsFree b s q
    → is_lt (slice_cmp nat_cmp (text_of q) (text_of t)) ≡ false)

-- one more lease may live, and a number is left for it
abbrev pub MayGrant : Leases → Type 0
MayGrant s = (length s.live < lease_limit) × (s.given < last_number)

-- a table comes under a new lease of a worker, with the next number
pub record Grants (id : ℕ) (t : Packed) (old new : Leases) : Type 0 where
  pub live : new.live ≡ old.live ++ (record { number = old.given + 1; id = id; deadline = old.moment + lease_time }
      ∷ [])
  pub here : lease_of new t ≡ Some (old.given + 1)
  pub others : (q : Packed) → (q ≡ t → ⊥) → lease_of new q ≡ lease_of old q
  pub moment : new.moment ≡ old.moment
  pub given : new.given ≡ old.given + 1

-- what is answered, once the worker's own lease has ended
abbrev pub IsReply : Contents → ℕ → Leases → Reply → Leases → Type 0
IsReply b id s Stop new = ((t : Packed) → IsOpenOn b t → ⊥) × (new ≡ s)
IsReply b id s Later new = ((t : Packed) × IsOpenOn b t) × (MayGrant s → (t : Packed) → IsFree b s t → ⊥) × (new ≡ s)
IsReply b id s (Grant number t) new = MayGrant s × (number ≡ s.given + 1) × IsFirstFree b s t × Grants id t s new

-- a worker asks: its own lease ends, if it has one, and it is answered
abbrev pub Asks : Contents → ℕ → Leases → Reply → Leases → Type 0
Asks b id old reply new = IsReply b id (ended (λ l. l.id == id) old) reply new

-- What becomes of the leases when a record is offered to the board.

-- what becomes of the records: as the board says of an offer; or memory was refused, and they stay as they were
abbrev pub BoardGives : Packed → List Recorded → Recorded → Result Taken OfferFault → List Recorded → Type 0
BoardGives root old r result new = OfferGives root old r result new ⊎ ((result ≡ Err NoMemory) × (new ≡ old))

-- an offer to the board, or memory refused before it, together with the line that a ledger gains by it, and what stays
pub record OffersBoardLine (r : Recorded) (result : Result Taken OfferFault) (old : Contents) (text : List ℕ)
    (new : Contents) (new_text : List ℕ) : Type 0 where
  pub gives : BoardGives old.root old.records r result new.records
  pub line : new_text ≡ text ++ gained_line old.format r result
  pub kept : KeepsTree old new

-- the lease of this number is renewed: its deadline counts from the moment
abbrev pub renewed : Option ℕ → ℕ → List Lease → List Lease
renewed None moment live = live
renewed (Some n) moment live = map (λ l.
    if l.number == n then record { number = l.number; id = l.id; deadline = moment + lease_time } else l) live

-- a table became open
abbrev pub BecameOpen : Leased → Leased → Packed → Type 0
BecameOpen old new q = IsOpenOn new.board q × (IsOpenOn old.board q → ⊥)

-- a record of an open table was taken: its children, which became open, are under the lease under which it stood, or
-- none, and that lease is renewed; the other open tables stay where they were
pub record TakesNew (t : Packed) (old new : Leased) : Type 0 where
  pub live : new.leases.live ≡ renewed (lease_of old.leases t) old.leases.moment old.leases.live
  pub children : (q : Packed) → BecameOpen old new q → lease_of new.leases q ≡ lease_of old.leases t
  pub others : (q : Packed) → IsOpenOn old.board q → (q ≡ t → ⊥) → lease_of new.leases q ≡ lease_of old.leases q
  pub moment : new.leases.moment ≡ old.leases.moment
  pub given : new.leases.given ≡ old.leases.given

-- a holdout was resolved: its children, which became open, are under none; the leases stay as they were
pub record TakesSettled (old new : Leased) : Type 0 where
  pub leases : new.leases ≡ old.leases
  pub children : (q : Packed) → BecameOpen old new q → lease_of new.leases q ≡ None

abbrev pub LeasesAfter : Packed → Result Taken OfferFault → Leased → Leased → Type 0
LeasesAfter t (Ok New) old new = TakesNew t old new
LeasesAfter t (Ok Settled) old new = TakesSettled old new
LeasesAfter t (Ok Known) old new = new.leases ≡ old.leases
LeasesAfter t (Err fault) old new = new.leases ≡ old.leases
