use Rattle.std.proofs.Common.{ℕ, List, [], ◌∷◌, ◌++◌, refl, sym, subst, arith, length, take, take_all}
use Rattle.ledger.specs.inside.Taking.{BodyGrows}
use Rattle.ledger.specs.declared.body.Body.{Body}
use Rattle.ledger.proofs.Feeding.{none_left, stays_left, whole_ends, begun_ends, line_grows, body_headed}
use Rattle.ledger.proofs.body.Body.end_line.Goals as goal

pub returns-then-is_some-clause-ok : goal.returns-then-is_some-clause-ok
returns-then-is_some-clause-ok c root text all is =
    stays_left c.args.self.now c.is_some.result c.is_some.ensures c.if-is_some.true (c.args.part.now ++ (10 ∷ [])) root text is

pub returns-in-Ok-clause-ok : goal.returns-in-Ok-clause-ok
returns-in-Ok-clause-ok c =
    whole_ends c.args.part.now c.args.after c.args.self.now c.take_whole.new.self c.requires c.ranges.after.fits
    (none_left c.args.self.now.left c.is_some.result c.is_some.ensures c.if-is_some.false) (c.is_empty.ensures.0 c.if-is_empty.true) c.in-Ok.ensures.ok

pub returns-in-Ok-take_begun-clause-ok : goal.returns-in-Ok-take_begun-clause-ok
returns-in-Ok-take_begun-clause-ok c =
    let none = none_left c.args.self.now.left c.is_some.result c.is_some.ensures c.if-is_some.false in
    begun_ends c.args.part.now c.args.after c.args.self.now _ c.take_begun.new.self c.requires c.ranges.after.fits none none refl refl refl c.in-Ok-add.ensures.ok c.in-Ok-take_begun.ensures.ok

pub returns-in-Err-take_begun-clause-stopped : goal.returns-in-Err-take_begun-clause-stopped
returns-in-Err-take_begun-clause-stopped c =
    let none = none_left c.args.self.now.left c.is_some.result c.is_some.ensures c.if-is_some.false in
    let mid : Body = record {
      board = c.args.self.now.board;
      number = c.args.self.now.number;
      before = c.args.self.now.before;
      line = c.add.new.self;
      left = c.args.self.now.left;
    } in
    let grown : BodyGrows c.args.self.now c.args.part.now mid =
    λ root text is. line_grows root text c.args.part.now c.args.self.now mid c.requires none none refl refl refl c.in-Ok-add.ensures.ok is in
    let all = take_all (length c.args.part.now) c.args.part.now (omega arith) in
    record {
      within = omega arith;
      grows = subst (λ (b : Body). BodyGrows c.args.self.now (take (length c.args.part.now) c.args.part.now) b) (sym c.in-Err-take_begun.ensures.err)
          (subst (λ (l : List ℕ). BodyGrows c.args.self.now l mid) (sym all) grown);
      headed = λ root text is. body_headed root text c.args.self.now none is;
    }
