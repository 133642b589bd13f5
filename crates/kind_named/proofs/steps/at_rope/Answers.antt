use Rattle.std.proofs.Common.{arith}
use Rattle.kind_named.proofs.Openings.{right_later}
use Rattle.kind_named.proofs.Leading.{passes_rope, passes_wound, passes_opened}
use Rattle.kind_named.proofs.steps.at_rope.Goals as goal

pub open_right-requires : goal.open_right-requires
open_right-requires c = record {
  rope = omega (arith, c.requires.token, c.open_left.ensures.extends.grows);
  within = right_later _ _ c.open_left.ensures.extends 0 _ c.requires.sound.on_right;
}

pub returns-then-is_long : goal.returns-then-is_long
returns-then-is_long c =
    passes_wound _ _ _ _ _ _ _ _ _ c.requires.sound c.open_left.ensures.extends c.wind.ensures.old c.requires.token c.in-C.is c.in_ok-open_left-in-C.ensures.same c.in_ok-wind-in-C.ensures.winds

pub returns-in_ok-put_left-in-A : goal.returns-in_ok-put_left-in-A
returns-in_ok-put_left-in-A c = passes_rope _ _ _ _ _ _ _ c.requires.sound c.put_left.ensures.old (c.are_odd.ensures _) c.in-A.is c.in_ok-put_left-in-A.ensures.put

pub returns-in_ok-open_right-in-C : goal.returns-in_ok-open_right-in-C
returns-in_ok-open_right-in-C c =
    passes_opened _ _ _ _ _ _ _ _ _ c.requires.sound c.open_left.ensures.extends c.open_right.ensures.old c.requires.token c.in_ok-open_left-in-C.ensures.same c.in_ok-open_right-in-C.ensures.put
