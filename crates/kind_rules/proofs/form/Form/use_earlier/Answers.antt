use Rattle.kind_rules.specs.Views.{form_in, setting_in}
use Rattle.kind_rules.proofs.RuleLaws.{use_missing}
use Rattle.kind_rules.proofs.form.Form.use_earlier.Goals as goal

pub returns-in_default : goal.returns-in_default
returns-in_default c = use_missing (setting_in c.args.s.now) c.args.k c.args.by.now (form_in c.args.self.now) _ c.in_default.ensures.behind
