-- How much is looked for.
use Rattle.std.specs.Prelude.{ℕ}

-- the most counts of both automata together
abbrev pub found_count_limit : ℕ
found_count_limit = 12
