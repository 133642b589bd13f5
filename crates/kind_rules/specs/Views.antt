-- What the structs of the code say, and how the check's steps answer.
use Rattle.std.specs.Prelude.{◌≡◌, Bool, true, false, Option, Some, None, Result, Ok, Err, List, map, option_map}
use Rattle.std.specs.Global.{Vec}
use Rattle.kind_rules.specs.declared.running.Stop.{Stop}
use Rattle.kind_rules.specs.declared.running.Stop.TheVariants.{Fails, NoMemory}
use Rattle.machine_text.specs.Terms.{entry_of}
use Rattle.kind_rules.specs.declared.form.Form.{Form as FormIn}
use Rattle.kind_rules.specs.declared.form.Rule.{Rule}
use Rattle.kind_rules.specs.declared.form.Queues.{Queues}
use Rattle.kind_rules.specs.declared.sides.BothSides.{BothSides}
use Rattle.kind_rules.specs.declared.texts_given.ProvedRule.{ProvedRule}
use Rattle.kind_rules.specs.declared.texts_given.Unpacked.{Unpacked}
use Rattle.kind_rules.specs.declared.running.Setting.{Setting as SettingIn}
use Rattle.kind_rules.specs.declared.numbers.Factor.{Factor}
use Rattle.kind_rules.specs.declared.rule_text.OpenEnds.{OpenEnds}
use Rattle.law_induction.specs.Terms.{Form, form_with, RuleForm, Sides, sides_of, Setting, Proved, Certificate, forms_of, all_forms}
use Rattle.kind_rules.specs.Texts.{Factored, RuleEnds}

-- How the check's own steps answer: as the definition says, but where memory is refused.

-- what is said is the result, as a value of its own; where memory was refused, nothing is said
abbrev pub Yields : {A B : Type 0} → (A → B) → Option B → Result A Stop → Type 0
Yields view said (Ok a) = said ≡ Some (view a)
Yields view said (Err Fails) = said ≡ None
Yields view said (Err NoMemory) = Unit {0}

-- a test, of which Ok is that it is passed
abbrev pub Meets : Bool → Result (Unit {0}) Stop → Type 0
Meets test (Ok u) = test ≡ true
Meets test (Err Fails) = test ≡ false
Meets test (Err NoMemory) = Unit {0}

-- What the structs of the code say.
abbrev pub form_in : FormIn → Form
form_in f = form_with f.left.items f.state f.heading f.right.items

abbrev pub queues_in : Queues → Form
queues_in f = form_with f.left.items f.state f.heading f.right.items

abbrev pub rule_in : Rule → RuleForm
rule_in r = record { open_left = r.open_left; open_right = r.open_right; from = form_in r.from; to = form_in r.to }

abbrev pub sides_in : BothSides → Sides
sides_in s = sides_of s.before.items s.after.items

abbrev pub proved_in : ProvedRule → Proved
proved_in p = record { rule = rule_in p.rule; base = option_map (λ v. v.items) p.base; script = p.script.items }

abbrev pub group_in : Vec ProvedRule → List Proved
group_in v = map proved_in v.items

abbrev pub certificate_of : Unpacked → Certificate
certificate_of c = record {
  groups = map group_in c.groups.items;
  family = form_in c.family;
  first = c.first;
  begin = c.begin.items;
  next = c.next;
  loop = c.again.items;
}

abbrev pub setting_in : SettingIn → Setting
setting_in s = record {
  machine = entry_of s.table.now;
  rules = all_forms (map group_in s.groups.now);
  group = forms_of (map proved_in s.group.now);
  again = option_map (λ r. rule_in r.now) s.again;
  open_left = s.open_left;
  open_right = s.open_right;
}

abbrev pub factored_of : Factor → Factored
factored_of f = record { before = f.before.now; factor = f.factor }

abbrev pub ends_of : OpenEnds → RuleEnds
ends_of e = record { open_left = e.left; open_right = e.right }
