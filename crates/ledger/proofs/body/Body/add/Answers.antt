use Rattle.std.proofs.Common.{refl}
use Rattle.std.proofs.lemmas.Result.{on_ok_weaker}
use Rattle.ledger.proofs.Feeding.{none_left, stays_left, line_grows}
use Rattle.ledger.proofs.body.Body.add.Goals as goal

pub returns-then-is_some-clause-ok : goal.returns-then-is_some-clause-ok
returns-then-is_some-clause-ok c =
    stays_left c.args.self.now c.is_some.result c.is_some.ensures c.if-is_some.true c.args.part.now

pub returns-clause-ok : goal.returns-clause-ok
returns-clause-ok c =
    let none = none_left c.args.self.now.left c.is_some.result c.is_some.ensures c.if-is_some.false in
    on_ok_weaker c.add.result (λ kept root text is. line_grows root text c.args.part.now c.args.self.now _ c.requires none none refl refl refl kept is) c.add.ensures.ok
