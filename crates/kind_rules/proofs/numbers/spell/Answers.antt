use Rattle.std.proofs.Common.{◌≡◌, ◌+◌, ◌-◌, ◌/◌, ◌++◌, ◌∷◌, ◌∙◌, [], ap, arith}
use Rattle.law_induction.specs.Terms.{symbols_in}
use Rattle.kind_rules.proofs.RuleLaws.{spelled_more, spelled_out, spelled_all}
use Rattle.kind_rules.proofs.numbers.spell.Goals as goal

pub returns-then-rest-le1 : goal.returns-then-rest-le1
returns-then-rest-le1 c = spelled_out _ _ _ _ c.if-rest-le1.true c.loop-i.invariant

pub loop-i-preserved : goal.loop-i-preserved
loop-i-preserved c =
    let row : c.push.new.self.items ≡ c.loop-i.row.items ++ c.digit.result ∷ [] = c.in_ok-push.ensures.items in
    ap (λ x. x ++ symbols_in (63 - (c.loop-i.i + 1)) (c.loop-i.rest / 2)) (row ∙ ap (λ d. c.loop-i.row.items ++ d ∷ []) c.digit.ensures) ∙
    spelled_more 63 c.loop-i.i c.loop-i.rest c.loop-i.row.items _ c.loop-i-test.true c.if-rest-le1.false c.loop-i.invariant

pub returns : goal.returns
returns c = spelled_all (63 - c.loop-i.i) c.loop-i.rest _ _ (omega arith) c.loop-i.invariant
