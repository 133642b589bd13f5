use Rattle.std.proofs.Common.{◌≡◌, ◌∙◌, ap, subst, refl, set, List, ℕ}
use Rattle.std.specs.Prelude.{Some, slice_get}
use Rattle.peers.specs.declared.pool_core.Core.{Core}
use Rattle.peers.specs.Crew.{Crewed, with_word}
use Rattle.peers.proofs.Cores.{stands}
use Rattle.peers.proofs.pool.Crew.take_word.Goals as goal

pub returns-clause-taken : goal.returns-clause-taken
returns-clause-taken g c =
    let is = ap (λ (crew : Crewed g.row.N.Denot g.row.W.Denot). crew.cores) c.self.view_is in
    let whose = c.owing-owing.ensures.owing in
    let other = stands c.owing-owing.result c.index_mut.result.now _ _ is c.owing-owing.ensures.within c.index_mut.ensures.value in
    record {
      core = whose.0;
      at = whose.1;
      other = c.index_mut.result.now;
      owes = subst (λ (place : ℕ). slice_get c.args.self.now.cores place ≡ Some c.index_mut.result.now) whose.2 other;
      cores =
          ap (λ (core : Core g.row.N.Denot g.row.W.Denot). set c.self.inside.cores.items c.owing-owing.result core) c.count_answered.ensures
          ∙ ap (λ (cores : List (Core g.row.N.Denot g.row.W.Denot)). set cores c.owing-owing.result (with_word c.index_mut.result.now)) is
          ∙ ap (λ (place : ℕ). set c.args.self.now.cores place (with_word c.index_mut.result.now)) whose.2;
      asks = ap (λ (crew : Crewed g.row.N.Denot g.row.W.Denot). crew.asks) c.self.view_is;
      latest = refl;
    }
