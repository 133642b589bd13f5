use Rattle.std.proofs.Common.{◌≡◌, true, List, map, take, subst}
use Rattle.machine_text.specs.Terms.{entry_of}
use Rattle.kind_rules.specs.declared.texts_given.ProvedRule.{ProvedRule}
use Rattle.std.specs.Global.{Vec}
use Rattle.law_induction.specs.Terms.{all_forms, is_group_proved}
use Rattle.kind_rules.specs.Views.{proved_in, group_in}
use Rattle.kind_rules.proofs.RuleLaws.{proved_step}
use Rattle.kind_rules.proofs.judging.check_groups.Goals as goal

pub loop-k-preserved : goal.loop-k-preserved
loop-k-preserved c =
    let x : Vec ProvedRule = c.index-groups-k.result in
    let one : is_group_proved (entry_of c.args.t.now) (all_forms (map group_in (take c.loop-k.k c.args.groups.now))) (group_in x) ≡ true =
    subst (λ (l : List ProvedRule). is_group_proved (entry_of c.args.t.now) (all_forms (map group_in (take c.loop-k.k c.args.groups.now))) (map proved_in l) ≡ true) c.deref.ensures.value c.in_ok-check_group.ensures in
    proved_step (entry_of c.args.t.now) c.args.groups.now c.loop-k.k x _ c.loop-k-test.true c.index-groups-k.is one c.loop-k.invariant
