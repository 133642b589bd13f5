use Rattle.std.proofs.Common.{◌↔◌, IfSome, IsSome, subst}
use Rattle.ledger.specs.Records.{claim_in, Contents}
use Rattle.ledger.specs.inside.Trees.{IsTreeCount}
use Rattle.ledger.proofs.TreeIndex.{count_found, count_there}
use Rattle.ledger.proofs.board.Board.tree_count.Goals as goal

pub returns-clause-some : goal.returns-clause-some
returns-clause-some c =
    subst (λ (b : Contents). IfSome c.tree_count_of.result (IsTreeCount b.root b.records c.args.t.now)) c.self.view_is
    (count_found c.self.inside.root c.self.inside.records.entries c.args.t.now c.tree_count_of.result c.self.invariant.4 c.tree_count_of.ensures)

pub returns-clause-none : goal.returns-clause-none
returns-clause-none c =
    subst (λ (b : Contents). IsSome c.tree_count_of.result ↔ IsSome (claim_in b.records c.args.t.now)) c.self.view_is
    (count_there c.self.inside.records.entries c.args.t.now c.tree_count_of.result c.tree_count_of.ensures)
