use Rattle.std.proofs.Common.{[], inr, subst, ◌∙◌}
use Rattle.machine_text.specs.Terms.{Packed}
use Rattle.ledger.specs.LedgerText.{LoadGives}
use Rattle.ledger.specs.inside.Taking.{IsHeaded}
use Rattle.ledger.proofs.board.Board.load.Goals as goal

pub returns-in-Ok : goal.returns-in-Ok
returns-in-Ok c =
    let fed = c.in-Ok.ensures.ok in
    subst (λ (p : Packed). LoadGives p c.args.bytes.now c.finish.result) (fed.root ∙ c.new-loader.ensures.root)
    (c.finish.ensures c.args.bytes.now (fed.stands [] c.new-loader.ensures.stands))

pub returns-in-Err : goal.returns-in-Err
returns-in-Err c = inr (subst (λ (p : Packed). IsHeaded p c.args.bytes.now) c.new-loader.ensures.root (c.in-Err.ensures.stopped.header [] c.new-loader.ensures.stands))
