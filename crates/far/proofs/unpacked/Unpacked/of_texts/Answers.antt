use Rattle.std.proofs.Common.{◌*◌, subst, rules}
use Rattle.far.specs.Texts.{IsRows, IsHex}
use Rattle.far.proofs.Written.{texts_give}
use Rattle.far.proofs.unpacked.Unpacked.of_texts.Goals as goal

pub invariant_of-result : goal.invariant_of-result
invariant_of-result c = record {
  limits = search rules;
  numbers = texts_give _ _ _ _ _ _ _ _ _ c.requires.size.0 c.in_ok-delta.ensures.some.0 c.in_ok-delta.ensures.some.1 c.in_ok-rows.ensures.some.0
      (subst (λ n. IsRows (2 * (c.args.size * c.args.states)) n c.args.rows.now) c.set_limit-limit.ensures.limit c.in_ok-rows.ensures.some.1)
      c.in_ok-keep.ensures.some.0 (subst (λ n. IsHex n c.args.keep.now) c.set_limit-limit.ensures.limit c.in_ok-keep.ensures.some.1);
}
