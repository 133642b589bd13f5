use Rattle.std.proofs.Common.{arith, ◌∙◌, ◌<◌, ap, length, set, sym}
use Rattle.std.proofs.lemmas.List.Edits.{map_over_more}
use Rattle.peers.specs.declared.pool_core.Core.{Core}
use Rattle.peers.specs.Crew.{Crewed, forgiven}
use Rattle.peers.proofs.pool.Crew.forget_due.Goals as goal

pub loop-core-preserved : goal.loop-core-preserved
loop-core-preserved g c =
    let test = c.loop-core-test.true in
    let same = c.loop-core.auto.core-items in
    let lent = ap length c.deref_mut-core-items.ensures.value in
    let all = ap (λ (crew : Crewed g.row.N.Denot g.row.W.Denot). length crew.cores) c.self.view_is in
    let within : c.loop-core.core-index < length c.args.self.now.cores = omega arith in
    ap (λ (core : Core g.row.N.Denot g.row.W.Denot). set c.loop-core.core-items c.loop-core.core-index core) c.forget_due.ensures
    ∙ ap (λ (core : Core g.row.N.Denot g.row.W.Denot). set c.loop-core.core-items c.loop-core.core-index (forgiven core)) (sym c.core-item.is)
    ∙ map_over_more forgiven c.args.self.now.cores c.loop-core.core-items c.loop-core.core-index c.core-item.result within c.loop-core.invariant c.core-item.is
