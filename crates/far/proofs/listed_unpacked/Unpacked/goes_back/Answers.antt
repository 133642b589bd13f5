use Rattle.std.proofs.Common.{◌≡◌, false, true, length, subst, refl, rules, arith}
use Rattle.far.specs.inside.Steps.{BackOverEach}
use Rattle.far.specs.inside.ListedUnpacked.{numbers_of_unpacked}
use Rattle.far.proofs.Listing.{moves_within, over_each, over_all, over_more}
use Rattle.far.proofs.listed_unpacked.Unpacked.goes_back.Goals as goal

pub goes_back_over-requires-clause-from : goal.goes_back_over-requires-clause-from
goes_back_over-requires-clause-from c = (moves_within _ _ c.requires.moves c.args.self.now.numbers _ _ c.loop-k-test.true).0

pub goes_back_over-requires-clause-to : goal.goes_back_over-requires-clause-to
goes_back_over-requires-clause-to c = (moves_within _ _ c.requires.moves c.args.self.now.numbers _ _ c.loop-k-test.true).1

pub returns-then-not-goes_back_over-clause-fits : goal.returns-then-not-goes_back_over-clause-fits
returns-then-not-goes_back_over-clause-fits c = (
  λ t. absurd (let clash : false ≡ true = t in cc),
  λ goes. absurd (let holds = c.goes_back_over.ensures.fits.1 (over_each _ _ c.requires.moves _ _ _ goes _ _ c.loop-k-test.true) in let fails = c.if-not-goes_back_over.true in cc),
)

pub loop-k-preserved : goal.loop-k-preserved
loop-k-preserved c = (over_more _ _ _ _ _ _ _ c.loop-k.invariant.0 c.loop-k-test.true (c.goes_back_over.ensures.fits.0 (search rules)), c.goes_back_over.ensures.seen)

pub returns-clause-fits : goal.returns-clause-fits
returns-clause-fits c =
    let all : c.loop-k.k ≡ length c.args.moves.now = omega (arith, c.loop-k.auto.k-end, c.loop-k-test.false) in (
      λ t. over_all _ _ c.requires.moves _ _ _ (subst (BackOverEach (numbers_of_unpacked c.args.self.now) c.args.f c.args.r c.args.entry c.args.moves.now) all c.loop-k.invariant.0),
      λ goes. refl,
    )
