use Rattle.kind_named.proofs.Openings.{ends_same}
use Rattle.kind_named.proofs.tokens.ends_with.Goals as goal

pub returns-then-branch : goal.returns-then-branch
returns-then-branch c = record {
  extends = c.take_tail.ensures.old;
  same = ends_same _ _ _ _ _ _ c.requires.tail (c.in_ok-take_tail.ensures.taken c.if-branch.true) c.in_ok-extend_from_slice.ensures.items;
}
