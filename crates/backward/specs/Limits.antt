-- How far back backward reasoning goes.
use Rattle.std.specs.Prelude.{ℕ}

-- the most steps that it goes back
abbrev pub depth_limit : ℕ
depth_limit = 1000

-- the most paths of one depth that it goes through
abbrev pub path_limit : ℕ
path_limit = 65536
