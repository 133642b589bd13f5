use Rattle.std.proofs.Common.{◌≡◌, length, sym, ◌∙◌, subst, arith}
use Rattle.kind_counted.proofs.ReadTexts.{HasNone, cut_here, cut_whole}
use Rattle.kind_counted.proofs.item.first_end.Goals as goal

pub returns-then-is_letter-clause-cut : goal.returns-then-is_letter-clause-cut
returns-then-is_letter-clause-cut c =
    cut_here c.args.text.now c.loop-k.k c.loop-k-test.true c.loop-k.invariant (sym c.is_letter.ensures ∙ c.if-is_letter.true)

pub returns-clause-cut : goal.returns-clause-cut
returns-clause-cut c =
    let text = c.args.text.now in
    let end : c.loop-k.k ≡ length text = omega arith in
    cut_whole text c.requires (subst (HasNone text) end c.loop-k.invariant)
