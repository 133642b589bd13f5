use Rattle.std.proofs.Common.{◌≡◌, ◌+◌, ◌-◌, ◌++◌, [], ap, ◌∙◌}
use Rattle.law_machines.specs.Terms.{repeat}
use Rattle.law_induction.specs.Terms.{word_symbols}
use Rattle.kind_rules.proofs.RuleLaws.{repeated_more}
use Rattle.kind_rules.proofs.sides.spelled_often.Goals as goal

pub loop-i-preserved : goal.loop-i-preserved
loop-i-preserved c =
    let row : c.spell.new.row.items ≡ c.loop-i.row.items ++ word_symbols c.args.word = c.in_ok-spell.ensures in
    ap (λ x. x ++ repeat (word_symbols c.args.word) (c.args.copies - (c.loop-i.i + 1)) []) row ∙
    repeated_more (word_symbols c.args.word) c.args.copies c.loop-i.i _ _ c.loop-i-test.true c.loop-i.invariant
