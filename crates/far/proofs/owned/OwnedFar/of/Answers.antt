use Rattle.std.proofs.Common.{arith}
use Rattle.far.proofs.Written.{texts_are_short}
use Rattle.far.proofs.owned.OwnedFar.of.Goals as goal

pub overflow_add-delta-2 : goal.overflow_add-delta-2
overflow_add-delta-2 c =
    let e = c.args.e.now in
    omega (arith, texts_are_short e.states e.size e.side e.delta.now e.rows.now e.keep.now e.limits.2 e.limits.3 e.limits.0 e.limits.1 e.texts)
