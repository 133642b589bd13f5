use Rattle.std.proofs.Common.{Some, map, ap, ◌∙◌}
use Rattle.law_induction.specs.Terms.{forms_of, all_forms}
use Rattle.kind_rules.specs.declared.texts_given.ProvedRule.{ProvedRule}
use Rattle.kind_rules.specs.Views.{rule_in, proved_in, group_in}
use Rattle.kind_rules.proofs.RuleLaws.{grouped_found, grouped_past, grouped_earlier}
use Rattle.kind_rules.proofs.running.grouped.Goals as goal

pub returns-then-rest-s : goal.returns-then-rest-s
returns-then-rest-s c = grouped_past (all_forms (map group_in c.args.s.now.groups.now)) c.args.s.now.group.now c.args.k c.in-Err.rest c.in-Err.ensures.behind c.if-rest-s.true

pub returns-in-Ok : goal.returns-in-Ok
returns-in-Ok c = grouped_earlier (all_forms (map group_in c.args.s.now.groups.now)) (forms_of (map proved_in c.args.s.now.group.now)) c.args.k _ c.in-Ok.ensures.found

pub returns-else-rest-s : goal.returns-else-rest-s
returns-else-rest-s c =
    grouped_found (all_forms (map group_in c.args.s.now.groups.now)) c.args.s.now.group.now c.args.k c.in-Err.rest c.index-s-rest.result c.in-Err.ensures.behind c.if-rest-s.false c.index-s-rest.is ∙
    ap (λ (p : ProvedRule). Some (rule_in p.rule)) c.index-s-rest.is
