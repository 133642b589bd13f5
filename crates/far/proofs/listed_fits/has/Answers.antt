use Rattle.std.proofs.Common.{◌∙◌}
use Rattle.far.proofs.ListedEdges.{found}
use Rattle.far.proofs.listed_fits.has.Goals as goal

pub returns : goal.returns
returns c = c.is_ok.ensures.value ∙ found _ _ _ c.requires c.binary_search.ensures.position
