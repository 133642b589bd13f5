-- The limits of leases.
use Rattle.std.specs.Prelude.{ℕ, ◌*◌}
use Rattle.machine_text.specs.Terms.{state_limit}

-- so many leases live at most
abbrev pub lease_limit : ℕ
lease_limit = 4096

-- a lease lasts for so long after it was given or renewed
abbrev pub lease_time : ℕ
lease_time = 60

-- the last number that a lease can have
abbrev pub last_number : ℕ
last_number = 18446744073709551615

-- a table has so many children at most: to each of its states four
abbrev pub child_limit : ℕ
child_limit = 4 * state_limit
