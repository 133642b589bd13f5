use Rattle.std.proofs.Common.{refl}
use Rattle.ledger.proofs.Completeness.{bound_settled, bound_unsettled}
use Rattle.ledger.proofs.board.Board.bound_by_count.Goals as goal

pub returns-then-is_closed : goal.returns-then-is_closed
returns-then-is_closed c =
    let none = c.is_closed.ensures.0 c.if-is_closed.true in
    bound_settled c.args.self.now.root c.args.self.now.records c.args.t.now c.in-Some.tree c.in-Some.ensures.some (c.in-Some.ensures.none.0 refl) none.0 none.1

pub returns-else-is_closed : goal.returns-else-is_closed
returns-else-is_closed c =
    bound_unsettled c.args.self.now.root c.args.self.now.records c.args.t.now c.in-Some.tree c.in-Some.ensures.some (c.in-Some.ensures.none.0 refl)
    (λ none. let resolved = c.is_closed.ensures.1 none in let fails = c.if-is_closed.false in absurd (cc))
