-- The limits of a coordinator and of workers.
use Rattle.std.specs.Prelude.{ℕ}

-- the most steps of a late halt that a coordinator judges for a peer
abbrev pub peer_step_limit : ℕ
peer_step_limit = 1000000000

-- a work turn makes no record on a board with so many
abbrev pub work_record_limit : ℕ
work_record_limit = 32

-- a tick sends so many records at most
abbrev pub tick_record_limit : ℕ
tick_record_limit = 64
