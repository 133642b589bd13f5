-- How long a core works at once, and how much a peer may have of a coordinator.
use Rattle.std.specs.Prelude.{ℕ}

-- the most work turns that a core gets before the next one's turn
abbrev pub work_turn_limit : ℕ
work_turn_limit = 4096

-- the most ids of a peer that have a lease, or wait for one
abbrev pub peer_lease_limit : ℕ
peer_lease_limit = 64

-- how long a lease lasts by which nothing comes, in seconds
abbrev pub lease_seconds : ℕ
lease_seconds = 60

-- the longest time for which an id waits that gave back a lease without a new record, in seconds
abbrev pub most_wait_seconds : ℕ
most_wait_seconds = 60
