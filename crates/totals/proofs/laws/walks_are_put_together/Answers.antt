use Rattle.totals.proofs.Walks.{walk_walked}
use Rattle.totals.proofs.laws.walks_are_put_together.Goals as goal

pub returns : goal.returns
returns c = λ w p rs ps below walked top part. walk_walked w p rs ps below walked top part
