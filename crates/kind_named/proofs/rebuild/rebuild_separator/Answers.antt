use Rattle.std.proofs.Common.{◌/◌, ◌%◌, ◌-◌, ◌∙◌, ap, refl, arith}
use Rattle.kind_named.proofs.SectionLaws.{rebuild_separator}
use Rattle.kind_named.proofs.rebuild.rebuild_separator.Goals as goal

pub returns-clause-rebuilds : goal.returns-clause-rebuilds
returns-clause-rebuilds c =
    rebuild_separator _ _ _ _ _ _ _ _ _ _ _ _ _ _ _ _ _ c.put_left.ensures.old c.put_left-2.ensures.old c.if-digit-gt3.false
    (c.if-inside-all.false ∙ ap (λ s. s / 4) c.in_ok-all.ensures) (ap (λ s. s % 4) c.in_ok-all.ensures)
    (let less = c.in_ok-less.ensures in let below = c.if-less-before.false in omega (arith, less, below)) (ap (λ s. c.args.before - s) c.in_ok-less.ensures) c.turned.ensures c.turned-asked.ensures (c.if-not-suits.ensures refl) c.answer_of.ensures
    c.in_ok-put_left.ensures.put c.in_ok-put_back.ensures c.in_ok-put_left-2.ensures.put
