use Rattle.kind_named.proofs.Openings.{within_rest, rope_taken, wound_taken, same_put}
use Rattle.kind_named.proofs.stacks.open_once.Goals as goal

pub open_rope-requires : goal.open_rope-requires
open_rope-requires c = record {
  rope = rope_taken _ _ _ _ _ c.in-Some.ensures.items c.in-Rope.is c.requires;
  within = within_rest _ _ _ _ c.in-Some.ensures.items c.requires;
}

pub open_wound-requires : goal.open_wound-requires
open_wound-requires c = record {
  rope = wound_taken _ _ _ _ _ c.in-Some.ensures.items c.in-Wound.is c.requires;
  within = within_rest _ _ _ _ c.in-Some.ensures.items c.requires;
}

pub returns-in_ok-open_rope-in-Rope : goal.returns-in_ok-open_rope-in-Rope
returns-in_ok-open_rope-in-Rope c = record {
  extends = c.open_rope.ensures.old;
  same = same_put _ _ _ _ _ _ _ c.in-Some.ensures.items c.in-Rope.is c.in_ok-open_rope-in-Rope.ensures.put;
}

pub returns-in_ok-open_wound-in-Wound : goal.returns-in_ok-open_wound-in-Wound
returns-in_ok-open_wound-in-Wound c = record {
  extends = c.open_wound.ensures.old;
  same = same_put _ _ _ _ _ _ _ c.in-Some.ensures.items c.in-Wound.is c.in_ok-open_wound-in-Wound.ensures.put;
}
