use Rattle.std.proofs.Common.{refl}
use Rattle.kind_named.proofs.ArenaLaws.{extends_same}
use Rattle.kind_named.proofs.TokenLaws.{puts_left_first, puts_left_again}
use Rattle.kind_named.proofs.Openings.{taken, taken_as, nothing, rope_taken, rope_joined}
use Rattle.kind_named.proofs.stacks.put_rope.Goals as goal

pub join-requires-clause-a : goal.join-requires-clause-a
join-requires-clause-a c = rope_taken _ _ _ _ _ (taken_as _ _ _ _ _ c.pop.ensures.items c.in-Some-Rope.is c.in-Some-Rope.field-0-is) refl c.requires.within

pub returns-in_ok-push-in-Some-Rope-clause-put : goal.returns-in_ok-push-in-Some-Rope-clause-put
returns-in_ok-push-in-Some-Rope-clause-put c =
    rope_joined _ _ _ _ _ _ _ _ c.join.ensures.old c.requires.within (taken_as _ _ _ _ _ c.pop.ensures.items c.in-Some-Rope.is c.in-Some-Rope.field-0-is) c.in_ok-push-in-Some-Rope.ensures.items c.in_ok-both-in-Some-Rope.ensures.rope

pub returns-in_ok-push-in-Some-2 : goal.returns-in_ok-push-in-Some-2
returns-in_ok-push-in-Some-2 c = record {
  old = extends_same _;
  put = puts_left_again _ _ _ _ _ _ _ c.requires.within c.requires.rope (taken _ _ _ _ c.pop.ensures.items c.in-Some.is) c.in_ok-push-in-Some.ensures.items c.in_ok-push-in-Some-2.ensures.items;
}

pub returns-in_ok-push-in-None-clause-put : goal.returns-in_ok-push-in-None-clause-put
returns-in_ok-push-in-None-clause-put c = puts_left_first _ _ _ _ _ c.requires.within c.requires.rope (nothing _ _ _ c.pop.ensures.items c.in-None.is) c.in_ok-push-in-None.ensures.items
