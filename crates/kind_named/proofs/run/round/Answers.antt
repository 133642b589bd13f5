use Rattle.kind_named.proofs.Looping.{sound_empty, round_a, round_c}
use Rattle.kind_named.proofs.run.round.Goals as goal

pub visit-requires-clause-sound : goal.visit-requires-clause-sound
visit-requires-clause-sound c = sound_empty _ _ _ c.requires.left c.requires.right

pub returns-in-A-clause-rounds : goal.returns-in-A-clause-rounds
returns-in-A-clause-rounds c = round_a _ _ _ _ _ _ c.in_ok-visit.ensures.visited c.in-A.is

pub returns-in_ok-put_one-in-C-clause-rounds : goal.returns-in_ok-put_one-in-C-clause-rounds
returns-in_ok-put_one-in-C-clause-rounds c = round_c _ _ _ _ _ _ _ _ c.in_ok-visit.ensures.visited c.in-C.is c.in_ok-put_one-in-C.ensures.put
