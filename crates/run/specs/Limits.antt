-- How far runs go.
use Rattle.std.specs.Prelude.{ℕ, ◌^◌}

-- the most steps that one runner makes
abbrev pub run_step_limit : ℕ
run_step_limit = 2 ^ 62

-- the most steps that a record `H` may claim, and the most that a record `L` may
abbrev pub halt_step_limit : ℕ
halt_step_limit = 100000000

abbrev pub late_step_limit : ℕ
late_step_limit = 10000000000

-- the most steps that a runner makes by windows of sixteen cells
abbrev pub window_step_limit : ℕ
window_step_limit = 2 ^ 61
