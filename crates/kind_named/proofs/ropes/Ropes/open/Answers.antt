use Rattle.kind_named.proofs.ArenaLaws.{place_within, known, known_group, known_joined, known_repeated, front_parts, leftward_parts}
use Rattle.kind_named.proofs.ropes.Ropes.open.Goals as goal

pub index-requires : goal.index-requires
index-requires c = place_within _ _ _ _ c.self.view_is c.self.inside.pieces.ok.0 c.requires

pub repeat-requires-clause-a : goal.repeat-requires-clause-a
repeat-requires-clause-a c = (known_repeated _ _ _ _ _ c.requires (known _ _ _ _ c.self.invariant c.self.view_is c.requires c.index.ensures) c.in-Repeated.is).0

pub returns-in-Group-clause-opened : goal.returns-in-Group-clause-opened
returns-in-Group-clause-opened c = known_group _ _ _ _ (known _ _ _ _ c.self.invariant c.self.view_is c.requires c.index.ensures) c.in-Group.is

pub returns-in-Joined-clause-opened : goal.returns-in-Joined-clause-opened
returns-in-Joined-clause-opened c = known_joined _ _ _ _ _ c.requires (known _ _ _ _ c.self.invariant c.self.view_is c.requires c.index.ensures) c.in-Joined.is

pub returns-then-from_front-clause-opened : goal.returns-then-from_front-clause-opened
returns-then-from_front-clause-opened c =
    let means = known_repeated _ _ _ _ _ c.requires (known _ _ _ _ c.self.invariant c.self.view_is c.requires c.index.ensures) c.in-Repeated.is in
    front_parts _ _ _ _ _ _ c.repeat.ensures.old means.0 means.1 c.if-count-lt2.false c.in_ok-others-in-Repeated.ensures.rope

pub returns-else-from_front-clause-opened : goal.returns-else-from_front-clause-opened
returns-else-from_front-clause-opened c =
    let means = known_repeated _ _ _ _ _ c.requires (known _ _ _ _ c.self.invariant c.self.view_is c.requires c.index.ensures) c.in-Repeated.is in
    leftward_parts _ _ _ _ _ _ c.repeat.ensures.old means.0 means.1 c.if-count-lt2.false c.in_ok-others-in-Repeated.ensures.rope
