use Rattle.std.proofs.Common.{◌≡◌, true, false, sym, ◌∙◌, refl, arith}
use Rattle.ngram_cps.proofs.Closed.{go_up, go_down, found, not_found}
use Rattle.ngram_cps.proofs.lists.Listing.contains.Goals as goal

pub search-preserved-in-Less : goal.search-preserved-in-Less
search-preserved-in-Less c = go_up _ _ _ _ _ _ _ _ c.args.self.now.listed c.search.invariant (omega arith) (omega arith) c.item.ensures.item (sym c.cmp.ensures ∙ c.in-Less.is)

pub returns-in-Equal : goal.returns-in-Equal
returns-in-Equal c = (λ t. found _ _ _ _ _ _ c.args.self.now.listed (omega (arith, c.search.invariant.last)) c.item.ensures.item (sym c.cmp.ensures ∙ c.in-Equal.is), λ i. refl)

pub search-preserved : goal.search-preserved
search-preserved c = go_down _ _ _ _ _ _ _ _ c.args.self.now.listed c.search.invariant (omega arith) (omega arith) c.item.ensures.item (sym c.cmp.ensures ∙ c.in-Greater.is)

pub returns : goal.returns
returns c = (λ t. absurd (let one : false ≡ true = t in cc), λ i. absurd (not_found _ _ _ _ _ _ c.args.self.now.listed c.search.invariant (omega arith) i))
