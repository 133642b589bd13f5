-- How far loops are looked for.
use Rattle.std.specs.Prelude.{ℕ}

-- the latest time, in steps, that a cycle or a translated cycle may name
abbrev pub time_limit : ℕ
time_limit = 10000000
