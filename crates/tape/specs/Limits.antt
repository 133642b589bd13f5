-- How far from its start a tape may be used.
use Rattle.std.specs.Prelude.{ℤ, pos, ◌^◌}

-- the greatest distance from place 0 of a head before it moves, and the greatest size of the place and of the
-- shift by which half tapes are compared
abbrev pub place_limit : ℤ
place_limit = pos (2 ^ 62)
