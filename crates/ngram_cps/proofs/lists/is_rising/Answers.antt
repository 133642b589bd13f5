use Rattle.std.proofs.Common.{◌≡◌, true, false, sym, ◌∙◌}
use Rattle.ngram_cps.proofs.Closed.{rises_more, comma_before, less_index}
use Rattle.ngram_cps.proofs.lists.is_rising.Goals as goal

pub returns-then-text-k-ne44 : goal.returns-then-text-k-ne44
returns-then-text-k-ne44 c = (
  λ t. absurd (let one : false ≡ true = t in cc),
  λ l. absurd (c.if-text-k-ne44.true (comma_before c.args.width c.args.count c.loop-k.k c.args.text.now l c.loop-k.auto.k c.loop-k-test.true)),
)

pub loop-k-preserved : goal.loop-k-preserved
loop-k-preserved c =
    rises_more _ _ _ c.loop-k.auto.k c.if-text-k-ne44.false
    (rw (← c.item_of-before.ensures.item, ← c.item_of.ensures.item) (sym c.cmp.ensures ∙ less_index _ (sym c.ne.ensures ∙ c.if-ne.false))) c.loop-k.invariant
