use Rattle.std.proofs.Common.{◌∙◌, ap, refl}
use Rattle.kind_named.specs.inside.Tokens.{rope_times}
use Rattle.kind_named.proofs.ArenaLaws.{extends_on}
use Rattle.kind_named.proofs.SectionLaws.{glided}
use Rattle.kind_named.proofs.glider.glide.Goals as goal

pub returns-clause-glided : goal.returns-clause-glided
returns-clause-glided c =
    let row = c.in_ok-row.ensures.rope in
    glided c.requires.glides _ _ _ c.take_tail.ensures.old (extends_on _ _ _ c.block.ensures.old c.repeat.ensures.old) _ _ _ _ _ 0 _ _ _ _ _ _ _ _ _
    c.requires.below.taken_within c.in_ok-group.ensures refl c.in_ok-less.ensures c.if-group-less.false refl c.if-rest-ne0.false c.in_ok-visits.ensures c.glider.ensures.is
    (c.in_ok-take_tail.ensures.taken c.if-not-branch.false)
    (row.0, row.1 ∙ ap (rope_times c.args.periods) c.in_ok-one.ensures.block.1)
    c.in_ok-put_glider.ensures c.in_ok-push.ensures.items
