-- What a guard lets through: which of the lines of a peer the node is handed, and what the peer is told.
use Rattle.std.specs.Prelude.{◌≡◌, ◌≢◌, ◌⊎◌, ◌<◌, ◌≤◌, ℕ, ◌+◌, ◌%◌, ◌^◌, ◌==◌, Bool, true, false, nat_lt, if◌then◌else◌, List, [], ◌∷◌, ◌++◌, Option, Some, None, codes, length, position}
use Rattle.std.specs.List.{All, Any, Contains, flat_map}
use Rattle.std.specs.Str.{bytes_eq}
use Rattle.text.specs.Terms.{cut_at, decimal_value}
use Rattle.wire.specs.declared.node.Note.{Note}
use Rattle.wire.specs.declared.node.Note.TheVariants.{Quiet, Strange, Stale, Refused}
use Rattle.wire.specs.declared.node.Out.{Out}
use Rattle.wire.specs.Terms.{Reply, Happening, Came, ◌>>=◌}
use Rattle.peers.specs.declared.guard.Dismissal.{Dismissal}
use Rattle.peers.specs.declared.guard.Dismissal.TheVariants.{Strange as StrangeLine, Refused as RefusedRecord, Holdout as SentHoldout, NoMemory}
use Rattle.peers.specs.Limits.{peer_lease_limit}

-- an id of a peer that asked: the frame that gives its lease back, as long as it has one; and how many new records the
-- peer had brought when that was granted
pub record AskerState : Type 0 where
  pub id : ℕ
  pub returning : Option (List ℕ)
  pub records : ℕ

-- the ids that asked; how many new records the peer has brought; and why it was let go, if it was
pub record GuardState : Type 0 where
  pub askers : List AskerState
  pub records : ℕ
  pub dismissal : Option Dismissal

abbrev pub fresh : GuardState
fresh = record { askers = []; records = 0; dismissal = None }

-- 1. Lines by their letters: a guard reads none of them as a message

-- what stands behind a word and a space
abbrev pub text_behind : List ℕ → List ℕ → Option (List ℕ)
text_behind word line = cut_at 32 line >>= λ cut. if bytes_eq cut.0 word then Some cut.1 else None

-- the id of an `ASK`
unfoldable pub asked_id : List ℕ → Option ℕ
asked_id line = text_behind (codes "ASK") line >>= λ text. decimal_value text >>= λ id.
    if nat_lt id (2 ^ 32) then Some id else None

abbrev pub IsAsk : List ℕ → Type 0
IsAsk line = (id : ℕ) × (asked_id line ≡ Some id)

-- whether it is the record of a holdout: `REC`, a table and `U`
abbrev pub says_nothing : Option (List ℕ × List ℕ) → Bool
says_nothing (Some cut) = bytes_eq cut.1 (codes "U")
says_nothing None = false

unfoldable pub is_holdout : List ℕ → Bool
is_holdout line = says_nothing (text_behind (codes "REC") line >>= λ text. cut_at 32 text)

-- era and number of the lease that the first of some frames grants, `GRANT era number table`, as they are written
abbrev pub lease_in : List ℕ → Option (List ℕ × List ℕ)
lease_in frames =
    text_behind (codes "GRANT") frames >>= λ text. cut_at 32 text >>= λ first. cut_at 32 first.1 >>= λ second.
    Some (first.0, second.0)

-- the frame that gives that back
unfoldable pub granted : List ℕ → Option (List ℕ)
granted frames = lease_in frames >>= λ lease. Some (codes "DONE " ++ lease.0 ++ codes " " ++ lease.1)

-- 2. A peer that keeps to the protocol

abbrev pub is_of : ℕ → AskerState → Bool
is_of id asker = asker.id == id

-- by this id it may ask: each of its ids by which it brought no new record since the table was granted is another, and
-- has that table still; and one more may ask
pub record MayAsk (guard : GuardState) (id : ℕ) : Type 0 where
  pub owes_nothing :
      All (λ asker. asker.records ≡ guard.records → (asker.id ≢ id) × (asker.returning ≢ None)) guard.askers
  pub is_one_of_few : position (is_of id) guard.askers ≡ None → length guard.askers < peer_lease_limit

-- it sends no holdout where none is taken, and asks where it may
pub record IsHonest (takes_holdouts : Bool) (guard : GuardState) (line : List ℕ) : Type 0 where
  pub decides : takes_holdouts ≡ false → is_holdout line ≡ false
  pub asks : (id : ℕ) → asked_id line ≡ Some id → MayAsk guard id

-- 3. What the node is handed for a line

-- a frame that gives back a lease of these
abbrev pub IsReturn : List AskerState → List ℕ → Type 0
IsReturn askers frame = Any (λ asker. asker.returning ≡ Some frame) askers

-- nothing, an empty frame, of a peer that was let go. Of another the line; or, where that isn't honest, nothing, or a
-- frame that gives back a lease that the peer has
abbrev pub IsHanded : Option Dismissal → Bool → GuardState → List ℕ → List ℕ → Type 0
IsHanded (Some why) takes_holdouts guard line frame = frame ≡ []
IsHanded None takes_holdouts guard line frame =
    ((frame ≡ line) × (takes_holdouts ≡ false → is_holdout line ≡ false))
    ⊎ ((IsHonest takes_holdouts guard line → ⊥) × ((frame ≡ []) ⊎ IsReturn guard.askers frame))

-- 4. What is known of the peer then

-- a line by which the ledger gains something has brought a new record
abbrev pub records_then : List ℕ → ℕ → ℕ
records_then append records = if length append == 0 then records else (records + 1) % 2 ^ 64

-- who sends what is no message, or a record that is refused, is let go
abbrev pub dismissed_by : Note → Option Dismissal → Option Dismissal
dismissed_by Quiet dismissal = dismissal
dismissed_by Stale dismissal = dismissal
dismissed_by Strange dismissal = Some StrangeLine
dismissed_by (Refused number) dismissal = Some (RefusedRecord number)

-- an id that asked was known before, as it is; or it has given its lease back by this frame; or its lease was granted
-- by what the peer is told
abbrev pub IsKnownThen : GuardState → List ℕ → List ℕ → List ℕ → AskerState → Type 0
IsKnownThen guard line frame told asker =
    Contains guard.askers asker
    ⊎ ((before : AskerState) × Contains guard.askers before × (before.returning ≡ Some frame)
    × (asker ≡ record before { returning = None }))
    ⊎ ((asked_id line ≡ Some asker.id) × (asker.records ≡ guard.records)
    × ((lease : List ℕ) × (asker.returning ≡ Some lease) × (granted told ≡ Some lease)))

-- all of them, and so many at most
abbrev pub Knows : GuardState → List ℕ → List ℕ → List ℕ → List AskerState → Type 0
Knows guard line frame told askers = All (IsKnownThen guard line frame told) askers
    × (length guard.askers ≤ peer_lease_limit → length askers ≤ peer_lease_limit)

-- 5. What the peer is told

abbrev pub later_frame : List ℕ
later_frame = codes "LATER" ++ (10 ∷ [])

-- the line was handed over, and the peer is told what the node answers; a lease that is granted is known
abbrev pub HearsAnswer : GuardState → List ℕ → List ℕ → Out → List ℕ → GuardState → Type 0
HearsAnswer guard line frame out told new =
    (frame ≡ line) × (told ≡ out.frames.items) × Knows guard line frame told new.askers
    × ((lease : List ℕ) → IsAsk line → granted told ≡ Some lease → IsReturn new.askers lease)
    × (new ≡ record {
      askers = new.askers;
      records = records_then out.append.items guard.records;
      dismissal = dismissed_by out.note guard.dismissal;
    })

-- it is told to come later
abbrev pub IsPutOff : GuardState → List ℕ → List ℕ → List ℕ → GuardState → Type 0
IsPutOff guard line frame told new = (told ≡ later_frame) × Knows guard line frame told new.askers
    × (new ≡ record guard { askers = new.askers })

-- it is told nothing, and let go
abbrev pub IsLetGo : Dismissal → GuardState → List ℕ → GuardState → Type 0
IsLetGo why guard told new = (told ≡ []) × (new ≡ record guard { dismissal = Some why })

-- who wasn't honest may be put off; who sent a holdout where none is taken is let go, and who asks where memory is
-- refused
abbrev pub IsToldThen : Bool → GuardState → List ℕ → List ℕ → Out → List ℕ → GuardState → Type 0
IsToldThen takes_holdouts guard line frame out told new =
    HearsAnswer guard line frame out told new
    ⊎ ((IsHonest takes_holdouts guard line → ⊥) × IsPutOff guard line frame told new)
    ⊎ ((takes_holdouts ≡ false) × (is_holdout line ≡ true) × IsLetGo SentHoldout guard told new)
    ⊎ (IsAsk line × IsLetGo NoMemory guard told new)

-- nothing where it was let go before, and it stays so
abbrev pub IsToldBy : Option Dismissal → Bool → GuardState → List ℕ → List ℕ → Out → List ℕ → GuardState → Type 0
IsToldBy (Some why) takes_holdouts guard line frame out told new = (told ≡ []) × (new ≡ guard)
IsToldBy None takes_holdouts guard line frame out told new = IsToldThen takes_holdouts guard line frame out told new

-- 6. One line after another

-- a line came, the node was handed this frame for it, and of its answer the peer is told this. The ledger's part stays
-- as it is
pub record PassesLine (takes_holdouts : Bool) (guard : GuardState) (line frame : List ℕ) (out said : Out)
    (new : GuardState) : Type 0 where
  pub handed : IsHanded guard.dismissal takes_holdouts guard line frame
  pub told : IsToldBy guard.dismissal takes_holdouts guard line frame out said.frames.items new
  pub cut : said.cut ≡ out.cut
  pub append : said.append.items ≡ out.append.items

-- what came, and what its peer was told; and what the node was handed for it, and its answer
abbrev pub HandsLine : Bool → GuardState → Reply → Reply → GuardState → Type 0
HandsLine takes_holdouts guard reply handed new =
    (line : List ℕ) × (frame : List ℕ) × (reply.to ≡ Came line) × (handed.to ≡ Came frame)
    × PassesLine takes_holdouts guard line frame handed.out reply.out new

abbrev pub Guards : Bool → GuardState → List Reply → List Reply → GuardState → Type 0
Guards takes_holdouts guard [] [] new = new ≡ guard
Guards takes_holdouts guard [] (handed ∷ others) new = ⊥
Guards takes_holdouts guard (reply ∷ replies) [] new = ⊥
Guards takes_holdouts guard (reply ∷ replies) (handed ∷ others) new =
    (at : GuardState) × HandsLine takes_holdouts guard reply handed at × Guards takes_holdouts at replies others new

-- what a node is handed of some lines: one after another the line itself, or nothing, or a frame that gives back a
-- lease of the peer's own
abbrev pub ArePassed : (List ℕ → Type 0) → List Happening → List Happening → Type 0
ArePassed IsOwn [] [] = Unit {0}
ArePassed IsOwn [] (handed ∷ others) = ⊥
ArePassed IsOwn (line ∷ lines) [] = ⊥
ArePassed IsOwn (line ∷ lines) (handed ∷ others) =
    ((handed ≡ line) ⊎ (handed ≡ Came []) ⊎ ((frame : List ℕ) × IsOwn frame × (handed ≡ Came frame)))
    × ArePassed IsOwn lines others

-- it is one that the peer had, or was granted by an answer to it
abbrev pub IsOwnOf : GuardState → List Reply → List ℕ → Type 0
IsOwnOf guard replies frame =
    IsReturn guard.askers frame ⊎ Any (λ reply. granted reply.out.frames.items ≡ Some frame) replies

-- 7. What is handed over when the peer is gone: each lease that it has is given back

abbrev pub returned_by : Option (List ℕ) → List Happening
returned_by (Some frame) = Came frame ∷ []
returned_by None = []

abbrev pub returned : List AskerState → List Happening
returned askers = flat_map (λ asker. returned_by asker.returning) askers
