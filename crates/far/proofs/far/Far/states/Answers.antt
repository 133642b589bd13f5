use Rattle.std.proofs.Common.{refl}
use Rattle.far.proofs.Written.{texts_give}
use Rattle.far.proofs.far.Far.states.Goals as goal

pub returns-clause-numbers : goal.returns-clause-numbers
returns-clause-numbers c =
    let e = c.args.self.now in
    texts_give e.states e.size e.side _ _ _ e.delta.now e.rows.now e.keep.now e.limits.2 refl e.texts.moves refl e.texts.edges refl e.texts.kept
