use Rattle.std.proofs.Common.{◌∙◌, ap, set, List}
use Rattle.peers.specs.declared.pool_core.Core.{Core}
use Rattle.peers.specs.Crew.{Crewed, heeding}
use Rattle.peers.proofs.Cores.{stands}
use Rattle.peers.proofs.pool.Crew.heed.Goals as goal

pub returns-clause-heeds : goal.returns-clause-heeds
returns-clause-heeds g c =
    let is = ap (λ (crew : Crewed g.row.N.Denot g.row.W.Denot). crew.cores) c.self.view_is in
    record {
      core = c.index_mut.result.now;
      at = stands c.args.place c.index_mut.result.now _ _ is c.requires c.index_mut.ensures.value;
      cores =
          ap (λ (core : Core g.row.N.Denot g.row.W.Denot). set c.self.inside.cores.items c.args.place core) c.heed.ensures
          ∙ ap (λ (cores : List (Core g.row.N.Denot g.row.W.Denot)). set cores c.args.place (heeding c.args.out.now.note c.index_mut.result.now)) is;
      asks = ap (λ (crew : Crewed g.row.N.Denot g.row.W.Denot). crew.asks) c.self.view_is;
      latest = ap (λ (crew : Crewed g.row.N.Denot g.row.W.Denot). crew.latest) c.self.view_is;
    }
