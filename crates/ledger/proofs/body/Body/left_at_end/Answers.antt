use Rattle.ledger.proofs.Feeding.{ends_whole, ends_torn, ends_left}
use Rattle.ledger.proofs.body.Body.left_at_end.Goals as goal

pub returns-in-Some : goal.returns-in-Some
returns-in-Some c root text is = ends_left root text c.args.self.now c.in-Some.left c.in-Some.is is

pub returns-then-is_empty : goal.returns-then-is_empty
returns-then-is_empty c root text is = ends_whole root text c.args.self.now c.in_default.is (c.is_empty.ensures.0 c.if-is_empty.true) is

pub returns : goal.returns
returns c root text is =
    ends_torn root text c.args.self.now c.in_default.is (λ e. let holds = c.is_empty.ensures.1 e in let fails = c.if-is_empty.false in absurd (cc)) is
