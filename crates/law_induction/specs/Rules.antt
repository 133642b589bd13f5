-- Rules with induction, alone or together, and when they keep a machine from halting.
use Rattle.std.specs.Prelude.{ℕ, ◌+◌, nat_le, ◌==◌, ◌&&◌, Bool, true, false, is_some, List, [], ◌∷◌, ◌++◌, Option, Some, None}
use Rattle.machine_text.specs.declared.table.Dir.TheVariants.{R}
use Rattle.law_turing.specs.Terms.{Machine}
use Rattle.law_induction.specs.declared.scripts.Exponent.{Exponent}
use Rattle.law_induction.specs.declared.scripts.Exponents.{Exponents}
use Rattle.law_induction.specs.declared.scripts.Move.{Move}
use Rattle.law_induction.specs.Words.{all_steps_limit, times_with, never_once, blocks_eq, Form, form_with, RuleForm}
use Rattle.law_induction.specs.Scripts.{◌>>=◌, instance_of, Setting, same_side, all_done, has_step, steps_in}

-- a rule with its proof: one script; or by induction on the variable a a script for 0, and one for a + 1
pub record Proved : Type 0 where
  pub rule : RuleForm
  pub base : Option (List Move)
  pub script : List Move

-- the rules, in groups of those that are proved together; the form that the run comes to again and again, its numbers at
-- first, and how it comes there; and what stands for its variables when it comes there next
pub record Certificate : Type 0 where
  pub groups : List (List Proved)
  pub family : Form
  pub first : Exponents
  pub begin : List Move
  pub next : Exponents
  pub loop : List Move

unfoldable pub form_by : Exponents → Form → Option Form
form_by by f = instance_of by f.left >>= λ left. instance_of by f.right >>= λ right.
    Some (form_with left f.state f.heading right)

abbrev pub form_eq : Form → Form → Bool
form_eq f g =
    (f.state == g.state)
    && (same_side f.heading g.heading && (blocks_eq f.left g.left && blocks_eq f.right g.right))

-- whether a script leads from one form to another
abbrev pub arrives : Option Form → Form → Bool
arrives None g = false
arrives (Some f) g = form_eq f g

unfoldable pub script_leads : Setting → List Move → Form → Form → Bool
script_leads s moves f g = arrives (all_done s moves f) g

-- and for others in place of the variables
abbrev pub leads_from : Setting → List Move → Option Form → Option Form → Bool
leads_from s moves None g = false
leads_from s moves (Some f) None = false
leads_from s moves (Some f) (Some g) = script_leads s moves f g

unfoldable pub leads_by : Setting → Exponents → List Move → RuleForm → Bool
leads_by s by moves rule = leads_from s moves (form_by by rule.from) (form_by by rule.to)

abbrev pub with_a : Exponent → Exponents
with_a a = record { a = a; b = times_with 0 0 1 0 0; c = times_with 0 0 0 1 0; d = times_with 0 0 0 0 1 }

abbrev pub setting : Machine → List RuleForm → List RuleForm → Option RuleForm → Bool → Bool → Setting
setting m rules group again open_left open_right =
    record { machine = m; rules = rules; group = group; again = again; open_left = open_left; open_right = open_right }

-- whether a rule of a group is proved: by those before the group, and from a to a + 1 by the group's rules for a as well
unfoldable pub is_proved_by :
    Machine → List RuleForm → List RuleForm → RuleForm → Option (List Move) → List Move → Bool
is_proved_by m rules group rule None moves =
    script_leads (setting m rules [] None rule.open_left rule.open_right) moves rule.from rule.to
is_proved_by m rules group rule (Some base) moves =
    leads_by (setting m rules [] None rule.open_left rule.open_right) (with_a never_once) base rule
    && leads_by (setting m rules group (Some rule) rule.open_left rule.open_right) (with_a (times_with 1 1 0 0 0)) moves
    rule

unfoldable pub each_proved : Machine → List RuleForm → List RuleForm → List Proved → Bool
each_proved m rules group [] = true
each_proved m rules group (p ∷ ps) =
    is_proved_by m rules group p.rule p.base p.script && each_proved m rules group ps

abbrev pub forms_of : List Proved → List RuleForm
forms_of [] = []
forms_of (p ∷ ps) = p.rule ∷ forms_of ps

-- rules that are proved together are proved by induction; one by itself need not be
abbrev pub by_induction : List Proved → Bool
by_induction [] = true
by_induction (p ∷ ps) = is_some p.base && by_induction ps

abbrev pub may_be_group : List Proved → Bool
may_be_group [] = true
may_be_group (p ∷ []) = true
may_be_group (p ∷ (q ∷ ps)) = by_induction (p ∷ (q ∷ ps))

unfoldable pub is_group_proved : Machine → List RuleForm → List Proved → Bool
is_group_proved m rules group = may_be_group group && each_proved m rules (forms_of group) group

-- whether all groups are proved, each by those before it
unfoldable pub are_proved : Machine → List RuleForm → List (List Proved) → Bool
are_proved m rules [] = true
are_proved m rules (group ∷ groups) = is_group_proved m rules group && are_proved m (rules ++ forms_of group) groups

-- the rules of all groups: their numbers are those in this list
abbrev pub all_forms : List (List Proved) → List RuleForm
all_forms [] = []
all_forms (group ∷ groups) = forms_of group ++ all_forms groups

abbrev pub blank_form : Form
blank_form = form_with [] 0 R []

-- how many steps of the machine a certificate has, in all its scripts
abbrev pub base_steps : Option (List Move) → ℕ
base_steps None = 0
base_steps (Some moves) = steps_in moves

abbrev pub steps_of_all : List Proved → ℕ
steps_of_all [] = 0
steps_of_all (p ∷ ps) = base_steps p.base + steps_in p.script + steps_of_all ps

abbrev pub steps_of_groups : List (List Proved) → ℕ
steps_of_groups [] = 0
steps_of_groups (group ∷ groups) = steps_of_all group + steps_of_groups groups

abbrev pub all_steps : Certificate → ℕ
all_steps c = steps_of_groups c.groups + steps_in c.begin + steps_in c.loop

-- whether the certificate is one of the machine
unfoldable pub is_certificate : Machine → Certificate → Bool
is_certificate m c =
    nat_le (all_steps c) all_steps_limit
    && (are_proved m [] c.groups
    && (leads_from (setting m (all_forms c.groups) [] None false false) c.begin (Some blank_form)
    (form_by c.first c.family)
    && (leads_from (setting m (all_forms c.groups) [] None false false) c.loop (Some c.family)
    (form_by c.next c.family)
    && has_step c.loop)))
