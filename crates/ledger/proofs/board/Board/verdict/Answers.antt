use Rattle.ledger.proofs.HeldLaws.{verdict_true}
use Rattle.ledger.proofs.board.Board.verdict.Goals as goal

pub verdict_in-requires : goal.verdict_in-requires
verdict_in-requires c = c.self.invariant.0.held.scored

pub returns-clause-is_true : goal.returns-clause-is_true
returns-clause-is_true c = rw c.verdict_in.ensures (verdict_true _ _ c.args.t.now c.self.invariant.0.held c.states.ensures.table c.standing_claims_are_true.ensures)
