use Rattle.std.proofs.Common.{◌++◌, ℕ, List, ap, take_all, arith, ◌∙◌}
use Rattle.ledger.proofs.HeaderLaws.{start_added}
use Rattle.ledger.proofs.lines.HeaderLine.add.Goals as goal

pub returns : goal.returns
returns c =
    c.loop-byte.invariant ∙ (ap (λ (l : List ℕ). c.args.self.now ++ l) (take_all _ _ (omega (arith, c.loop-byte-test.false)))
    ∙ start_added 64 c.room.result c.min.result c.args.self.now c.args.more.now c.room.ensures c.min.ensures)
