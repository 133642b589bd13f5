-- For the code: what a guard makes of a line before the node answers, and of the answer.
use Rattle.std.specs.Prelude.{◌≡◌, ◌⊎◌, ◌<◌, ℕ, ◌==◌, Bool, true, false, nat_lt, if◌then◌else◌, List, [], ◌∷◌, ◌++◌, Option, Some, None, get_or, length, remove, set}
use Rattle.wire.specs.declared.node.Out.{Out}
use Rattle.peers.specs.declared.guard.Dismissal.{Dismissal}
use Rattle.peers.specs.declared.guard.Dismissal.TheVariants.{Holdout as SentHoldout, NoMemory}
use Rattle.peers.specs.declared.guard.Passage.{Passage}
use Rattle.peers.specs.declared.guard.Passage.TheVariants.{Whole, Ask, GiveBack, Later, Holdout, Nothing}
use Rattle.peers.specs.Limits.{peer_lease_limit}
use Rattle.peers.specs.Guard.{AskerState, GuardState, IsAsk, IsHonest, MayAsk, asked_id, records_then, granted, is_holdout, later_frame, dismissed_by}

abbrev pub nobody : AskerState
nobody = record { id = 0; returning = None; records = 0 }

abbrev pub asker_at : GuardState → ℕ → AskerState
asker_at guard place = get_or guard.askers place nobody

-- the peer has brought no new record since the table of this id was granted; and it has given that back
abbrev pub is_idle_at : ℕ → AskerState → Bool
is_idle_at records asker = asker.records == records

abbrev pub is_spent_by : Option (List ℕ) → ℕ → AskerState → Bool
is_spent_by (Some frame) records asker = false
is_spent_by None records asker = is_idle_at records asker

abbrev pub is_spent : ℕ → AskerState → Bool
is_spent records asker = is_spent_by asker.returning records asker

-- 1. Before the answer

abbrev pub IsPlaceFor : GuardState → ℕ → Type 0
IsPlaceFor guard place = (place < length guard.askers) ⊎ (length guard.askers < peer_lease_limit)

-- a lease stands at a place
abbrev pub IsLeased : AskerState → Type 0
IsLeased asker = (frame : List ℕ) × (asker.returning ≡ Some frame)

-- what may become of an `ASK` at the place of an id that brought nothing
abbrev pub BecomesOfIdle : ℕ → ℕ → AskerState → Passage → Type 0
BecomesOfIdle id place asker Whole = ⊥
BecomesOfIdle id place asker (Ask by at wait) = (by ≡ id) × (at ≡ place)
BecomesOfIdle id place asker (GiveBack at) = (at ≡ place) × IsLeased asker
BecomesOfIdle id place asker Later = Unit {0}
BecomesOfIdle id place asker Holdout = ⊥
BecomesOfIdle id place asker Nothing = ⊥

-- of an `ASK`
abbrev pub BecomesOfAsk : GuardState → ℕ → Passage → Type 0
BecomesOfAsk guard id Whole = ⊥
BecomesOfAsk guard id (Ask by place wait) = (by ≡ id) × IsPlaceFor guard place
BecomesOfAsk guard id (GiveBack place) =
    (MayAsk guard id → ⊥) × (place < length guard.askers) × IsLeased (asker_at guard place)
BecomesOfAsk guard id Later = MayAsk guard id → ⊥
BecomesOfAsk guard id Holdout = ⊥
BecomesOfAsk guard id Nothing = ⊥

-- of a line
abbrev pub IsPassage : Bool → GuardState → List ℕ → Passage → Type 0
IsPassage takes guard line Whole = (guard.dismissal ≡ None) × (takes ≡ false → is_holdout line ≡ false)
    × (asked_id line ≡ None)
IsPassage takes guard line (Ask id place wait) = (guard.dismissal ≡ None) × (takes ≡ false → is_holdout line ≡ false)
    × (asked_id line ≡ Some id) × IsPlaceFor guard place
IsPassage takes guard line (GiveBack place) = (guard.dismissal ≡ None) × IsAsk line
    × (IsHonest takes guard line → ⊥) × (place < length guard.askers) × IsLeased (asker_at guard place)
IsPassage takes guard line Later = (guard.dismissal ≡ None) × IsAsk line × (IsHonest takes guard line → ⊥)
IsPassage takes guard line Holdout = (guard.dismissal ≡ None) × (takes ≡ false) × (is_holdout line ≡ true)
IsPassage takes guard line Nothing = (why : Dismissal) × (guard.dismissal ≡ Some why)

-- 2. What the node is handed

abbrev pub or_none : Option (List ℕ) → List ℕ
or_none (Some frame) = frame
or_none None = []

abbrev pub handed_line : GuardState → List ℕ → Passage → List ℕ
handed_line guard line Whole = line
handed_line guard line (Ask id place wait) = line
handed_line guard line (GiveBack place) = or_none (asker_at guard place).returning
handed_line guard line Later = []
handed_line guard line Holdout = []
handed_line guard line Nothing = []

-- 3. After the answer

abbrev pub dismissed_for : Dismissal → GuardState → GuardState
dismissed_for why guard = record guard { dismissal = Some why }

abbrev pub heard_out : Out → GuardState → GuardState
heard_out out guard = record guard {
  records = records_then out.append.items guard.records;
  dismissal = dismissed_by out.note guard.dismissal;
}

abbrev pub without_asker : ℕ → GuardState → GuardState
without_asker place guard = record guard { askers = remove guard.askers place }

abbrev pub put_at : ℕ → AskerState → List AskerState → List AskerState
put_at place asker askers = if nat_lt place (length askers) then set askers place asker else askers ++ (asker ∷ [])

abbrev pub leased : ℕ → ℕ → List ℕ → GuardState → GuardState
leased id place lease guard = record guard {
  askers = put_at place (record { id = id; returning = Some lease; records = guard.records }) guard.askers;
}

abbrev pub gone_back : AskerState → AskerState
gone_back asker = record asker { returning = None }

abbrev pub given_back : ℕ → GuardState → GuardState
given_back place guard = record guard { askers = set guard.askers place (gone_back (asker_at guard place)) }

-- a lease ends, or none
abbrev pub Forgets : GuardState → GuardState → Type 0
Forgets guard new = (new ≡ guard) ⊎ ((place : ℕ) × (new ≡ without_asker place guard))

-- the lease that an answer grants is remembered, if it grants one
abbrev pub Remembers : ℕ → ℕ → List ℕ → GuardState → GuardState → Type 0
Remembers id place frames guard new =
    ((granted frames ≡ None) × (new ≡ guard))
    ⊎ ((lease : List ℕ) × (granted frames ≡ Some lease) × (new ≡ leased id place lease guard))

-- memory was refused
abbrev pub TellsNothing : GuardState → List ℕ → GuardState → Type 0
TellsNothing guard told new = (told ≡ []) × (new ≡ dismissed_for NoMemory guard)

-- what the peer is told, and what is known of it then
abbrev pub Tells : Passage → GuardState → Out → List ℕ → GuardState → Type 0
Tells Whole guard out told new =
    (told ≡ out.frames.items) × ((at : GuardState) × Forgets guard at × (new ≡ heard_out out at))
Tells (Ask id place wait) guard out told new =
    ((told ≡ out.frames.items)
    × ((at : GuardState) × Remembers id place out.frames.items guard at × (new ≡ heard_out out at)))
    ⊎ TellsNothing guard told new
Tells (GiveBack place) guard out told new =
    ((told ≡ later_frame) × (new ≡ given_back place guard)) ⊎ TellsNothing guard told new
Tells Later guard out told new = ((told ≡ later_frame) × (new ≡ guard)) ⊎ TellsNothing guard told new
Tells Holdout guard out told new = (told ≡ []) × (new ≡ dismissed_for SentHoldout guard)
Tells Nothing guard out told new = (told ≡ []) × (new ≡ guard)
