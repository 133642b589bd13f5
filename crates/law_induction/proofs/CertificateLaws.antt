-- A certificate's machine never halts.
use Rattle.std.proofs.Common.{◌≡◌, ℕ, zero, suc, Bool, true, false, List, [], ◌∷◌, ◌++◌, Option, Some, None, refl, sym, ap, ◌∙◌, subst, append_assoc, arith}
use Rattle.std.specs.Prelude.{nat_le, is_some}
use Rattle.std.proofs.lemmas.Bool.{and_parts, false≢true}
use Rattle.std.proofs.lemmas.Bool.Decides.{Decides-eqb}
use Rattle.std.proofs.lemmas.Option.{same_Some, none-some}
use Rattle.machine_text.specs.declared.table.Sym.{Sym}
use Rattle.law_turing.specs.Terms.{Machine, Never}
use Rattle.law_machines.specs.Terms.{Comes, Goes}
use Rattle.law_machines.proofs.RuleLaws.{same, ◌⨾◌, ◌⁺⨾◌, never_by_rules}
use Rattle.law_induction.specs.declared.scripts.Exponents.{Exponents}
use Rattle.law_induction.specs.declared.scripts.Move.{Move}
use Rattle.law_induction.specs.Words.{Values, all_steps_limit, times_with, never_once, cells, Form, zipper_of, IsBeyond, RuleForm, HoldsAt, RuleHolds}
use Rattle.law_induction.specs.Scripts.{instance_of, Setting, rule_at, all_done, has_step}
use Rattle.law_induction.specs.Rules.{Proved, Certificate, form_by, form_eq, arrives, script_leads, leads_from, leads_by, with_a, setting, is_proved_by, each_proved, by_induction, is_group_proved, are_proved, forms_of, all_forms, all_steps, blank_form, is_certificate}
use Rattle.law_induction.proofs.BlockLaws.{bound, values_by, same_blocks}
use Rattle.law_induction.proofs.ScriptLaws.{cells_instance, same_heading, zipper_same, IsSound, script_comes, script_goes}

-- a form with others in place of its variables
pub zipper_by : (by : Exponents) (f g : Form) (v : Values) (l r : List Sym) → form_by by f ≡ Some g → zipper_of g v l r ≡ zipper_of f (values_by by v) l r
unfolding form_by
zipper_by by f g v l r is =
    let (left, is_left, more) = bound (instance_of by f.left) _ g is in
    let (right, is_right, end) = bound (instance_of by f.right) _ g more in
    ap (λ (x : Form). zipper_of x v l r) (sym (same_Some _ _ end)) ∙
    zipper_same f.heading f.heading f.state f.state _ _ _ _ refl refl (cells_instance by f.left left v l is_left) (cells_instance by f.right right v r is_right)

zipper_eq : (f g : Form) (v : Values) (l r : List Sym) → form_eq f g ≡ true → zipper_of f v l r ≡ zipper_of g v l r
zipper_eq f g v l r is =
    let (state, r1) = and_parts _ _ is in
    let (heading, r2) = and_parts _ _ r1 in
    let (left, right) = and_parts _ _ r2 in
    zipper_same f.heading g.heading f.state g.state _ _ _ _ (same_heading _ _ heading) ((Decides-eqb f.state g.state).0 state)
    (ap (λ x. cells x v l) (same_blocks f.left g.left left)) (ap (λ x. cells x v r) (same_blocks f.right g.right right))

arrived : (o : Option Form) (g : Form) → arrives o g ≡ true → (f : Form) × (o ≡ Some f) × (form_eq f g ≡ true)
arrived None g is = absurd (false≢true is)
arrived (Some f) g is = (f, refl, is)

module _ (s : Setting) (v : Values) (sound : IsSound s v) (l r : List Sym) (on_left : IsBeyond s.open_left l) (on_right : IsBeyond s.open_right r) where
  leads_comes : (moves : List Move) (f g : Form) → script_leads s moves f g ≡ true → Comes s.machine (zipper_of f v l r) (zipper_of g v l r)
  unfolding script_leads
  leads_comes moves f g is =
      let (h, run, end) = arrived (all_done s moves f) g is in
      script_comes s v sound l r on_left on_right moves f h run ⨾ same s.machine (zipper_eq h g v l r end)

  leads_goes : (moves : List Move) (f g : Form) → has_step moves ≡ true → script_leads s moves f g ≡ true → Goes s.machine (zipper_of f v l r) (zipper_of g v l r)
  unfolding script_leads
  leads_goes moves f g steps is =
      let (h, run, end) = arrived (all_done s moves f) g is in
      script_goes s v sound l r on_left on_right moves f h steps run ⁺⨾ same s.machine (zipper_eq h g v l r end)

both_forms : (s : Setting) (moves : List Move) (o p : Option Form) → leads_from s moves o p ≡ true → (f : Form) × (g : Form) × (o ≡ Some f) × (p ≡ Some g) × (script_leads s moves f g ≡ true)
both_forms s moves None p is = absurd (false≢true is)
both_forms s moves (Some f) None is = absurd (false≢true is)
both_forms s moves (Some f) (Some g) is = (f, g, refl, refl, is)

-- values
values_same : (a b c d e f g h : ℕ) → a ≡ e → b ≡ f → c ≡ g → d ≡ h →
    ◌≡◌ {A = Values} (record { a = a; b = b; c = c; d = d }) (record { a = e; b = f; c = g; d = h })
values_same a b c d e f g h p q r s = cc

zero_values : (v : Values) → v.a ≡ 0 → values_by (with_a never_once) v ≡ v
zero_values v is = values_same _ _ _ _ v.a v.b v.c v.d (omega arith) (omega arith) (omega arith) (omega arith)

next_values : (v u : Values) → v.a ≡ suc u.a → v.b ≡ u.b → v.c ≡ u.c → v.d ≡ u.d → values_by (with_a (times_with 1 1 0 0 0)) u ≡ v
next_values v u a b c d = values_same _ _ _ _ v.a v.b v.c v.d (omega arith) (omega arith) (omega arith) (omega arith)

-- rules that hold
pub record AllHold (m : Machine) (rules : List RuleForm) : Type 0 where
  pub each : (k : ℕ) (rule : RuleForm) → rule_at rules k ≡ Some rule → RuleHolds m rule

module _ (m : Machine) (rules : List RuleForm) (all : AllHold m rules) where
  no_group : (v : Values) (k : ℕ) (rule : RuleForm) → rule_at [] k ≡ Some rule → (w : Values) → w.a ≡ v.a → HoldsAt m rule w
  no_group v k rule is w at = absurd (none-some rule is)

  plain_sound : (open_left open_right : Bool) (v : Values) → IsSound (setting m rules [] None open_left open_right) v
  plain_sound open_left open_right v = record { rules = all.each; group = no_group v; again = λ other is. absurd (none-some other is) }

  by_script : (rule : RuleForm) (moves : List Move) → script_leads (setting m rules [] None rule.open_left rule.open_right) moves rule.from rule.to ≡ true → RuleHolds m rule
  by_script rule moves is = record {
    at = λ v. record {
      run = λ l r on_left on_right. leads_comes (setting m rules [] None rule.open_left rule.open_right) v (plain_sound rule.open_left rule.open_right v) l r on_left on_right moves rule.from rule.to is;
    };
  }

  -- at other values
  leads_at : (group : List RuleForm) (again : Option RuleForm) (by : Exponents) (rule : RuleForm) (moves : List Move) (v : Values) →
      leads_by (setting m rules group again rule.open_left rule.open_right) by moves rule ≡ true → IsSound (setting m rules group again rule.open_left rule.open_right) v → HoldsAt m rule (values_by by v)
  unfolding leads_by
  leads_at group again by rule moves v is sound =
      let s = setting m rules group again rule.open_left rule.open_right in
      let (f, g, from, to, script_leads) = both_forms s moves (form_by by rule.from) (form_by by rule.to) is in
      record {
        run = λ l r on_left on_right.
            same m (sym (zipper_by by rule.from f v l r from)) ⨾
            (leads_comes s v sound l r on_left on_right moves f g script_leads ⨾ same m (zipper_by by rule.to g v l r to));
      }

  -- a rule of a group in which each is proved by induction
  record IsInduced (group : List RuleForm) (rule : RuleForm) : Type 0 where
    base : List Move
    moves : List Move
    first : leads_by (setting m rules [] None rule.open_left rule.open_right) (with_a never_once) base rule ≡ true
    next : leads_by (setting m rules group (Some rule) rule.open_left rule.open_right) (with_a (times_with 1 1 0 0 0)) moves rule ≡ true

  induced : (group : List RuleForm) (rule : RuleForm) (base : Option (List Move)) (moves : List Move) → is_some base ≡ true → is_proved_by m rules group rule base moves ≡ true → IsInduced group rule
  unfolding is_proved_by
  induced group rule None moves by is = absurd (false≢true by)
  induced group rule (Some base) moves by is =
      let (first, next) = and_parts _ _ is in
      record { base = base; moves = moves; first = first; next = next }

  each_induced : (group : List RuleForm) (ps : List Proved) → by_induction ps ≡ true → each_proved m rules group ps ≡ true →
      (k : ℕ) (rule : RuleForm) → rule_at (forms_of ps) k ≡ Some rule → IsInduced group rule
  unfolding each_proved
  each_induced group [] by is k rule at = absurd (none-some rule at)
  each_induced group (p ∷ ps) by is zero rule at =
      let (one, rest) = and_parts (is_proved_by m rules group p.rule p.base p.script) _ is in
      let (one_by, rest_by) = and_parts (is_some p.base) _ by in
      subst (IsInduced group) (same_Some p.rule rule at) (induced group p.rule p.base p.script one_by one)
  each_induced group (p ∷ ps) by is (suc k) rule at =
      let (one, rest) = and_parts (is_proved_by m rules group p.rule p.base p.script) _ is in
      let (one_by, rest_by) = and_parts (is_some p.base) _ by in
      each_induced group ps rest_by rest k rule at

  -- by induction on a value of a: all rules of the group hold where a is that
  all_at : (group : List RuleForm) → ((k : ℕ) (rule : RuleForm) → rule_at group k ≡ Some rule → IsInduced group rule) →
      (n : ℕ) (k : ℕ) (rule : RuleForm) → rule_at group k ≡ Some rule → (v : Values) → v.a ≡ n → HoldsAt m rule v
  all_at group each zero k rule at v is =
      let p = each k rule at in
      subst (HoldsAt m rule) (zero_values v is) (leads_at [] None (with_a never_once) rule p.base v p.first (plain_sound rule.open_left rule.open_right v))
  all_at group each (suc n) k rule at v is =
      let p = each k rule at in
      let u : Values = record { a = n; b = v.b; c = v.c; d = v.d } in
      subst (HoldsAt m rule) (next_values v u is refl refl refl) (leads_at group (Some rule) (with_a (times_with 1 1 0 0 0)) rule p.moves u p.next (record {
        rules = all.each;
        group = all_at group each n;
        again = λ other same w at_w. subst (λ x. HoldsAt m x w) (same_Some rule other same) (all_at group each n k rule at w at_w);
      }))

  together_hold : (ps : List Proved) → by_induction ps ≡ true → each_proved m rules (forms_of ps) ps ≡ true → AllHold m (forms_of ps)
  together_hold ps by is = record {
    each = λ k rule at. record { at = λ v. all_at (forms_of ps) (each_induced (forms_of ps) ps by is) v.a k rule at v refl };
  }

  one_holds : (rule : RuleForm) → RuleHolds m rule → AllHold m (rule ∷ [])
  one_holds rule holds = record { each = go }
    where
      go : (k : ℕ) (other : RuleForm) → rule_at (rule ∷ []) k ≡ Some other → RuleHolds m other
      go zero other is = subst (RuleHolds m) (same_Some rule other is) holds
      go (suc k) other is = absurd (none-some other is)

  -- a rule by itself
  alone_holds : (rule : RuleForm) (base : Option (List Move)) (moves : List Move) →
      each_proved m rules (rule ∷ []) (record { rule = rule; base = base; script = moves } ∷ []) ≡ true → AllHold m (rule ∷ [])
  unfolding each_proved is_proved_by
  alone_holds rule None moves is = one_holds rule (by_script rule moves (and_parts _ true is).0)
  alone_holds rule (Some base) moves is = together_hold (record { rule = rule; base = Some base; script = moves } ∷ []) refl is

  pub group_holds : (ps : List Proved) → is_group_proved m rules ps ≡ true → AllHold m (forms_of ps)
  unfolding is_group_proved
  group_holds [] is = record { each = λ k rule at. absurd (none-some rule at) }
  group_holds (p ∷ []) is = alone_holds p.rule p.base p.script is
  group_holds (p ∷ q ∷ ps) is =
      let (by, each) = and_parts (by_induction (p ∷ q ∷ ps)) _ is in
      together_hold (p ∷ q ∷ ps) by each

put_first : (m : Machine) (first : RuleForm) (rest : List RuleForm) → RuleHolds m first → AllHold m rest → AllHold m (first ∷ rest)
put_first m first rest holds all = record { each = go }
  where
    go : (k : ℕ) (other : RuleForm) → rule_at (first ∷ rest) k ≡ Some other → RuleHolds m other
    go zero other is = subst (RuleHolds m) (same_Some first other is) holds
    go (suc k) other is = all.each k other is

both_hold : (m : Machine) (rules more : List RuleForm) → AllHold m rules → AllHold m more → AllHold m (rules ++ more)
both_hold m [] more all also = also
both_hold m (first ∷ rules) more all also =
    put_first m first (rules ++ more) (all.each 0 first refl) (both_hold m rules more (record { each = λ k. all.each (suc k) }) also)

pub all_hold : (m : Machine) (rules : List RuleForm) (groups : List (List Proved)) → AllHold m rules → are_proved m rules groups ≡ true → AllHold m (rules ++ all_forms groups)
unfolding are_proved
all_hold m rules [] all is = both_hold m rules [] all (record { each = λ k rule at. absurd (none-some rule at) })
all_hold m rules (group ∷ groups) all is =
    let (one, rest) = and_parts (is_group_proved m rules group) _ is in
    subst (AllHold m) (append_assoc rules (forms_of group) (all_forms groups))
    (all_hold m (rules ++ forms_of group) groups (both_hold m rules (forms_of group) all (group_holds m rules all group one)) rest)

-- the law
pub certificate_never : (m : Machine) (c : Certificate) → is_certificate m c ≡ true → Never m
unfolding is_certificate
certificate_never m c is =
    let (few, r0) = and_parts (nat_le (all_steps c) all_steps_limit) _ is in
    let (proved, r1) = and_parts (are_proved m [] c.groups) _ r0 in
    let (begins, r2) = and_parts _ _ r1 in
    let (loops, steps) = and_parts _ _ r2 in
    let all : AllHold m (all_forms c.groups) = all_hold m [] c.groups (record { each = λ k rule none. absurd (none-some rule none) }) proved in
    let s = setting m (all_forms c.groups) [] None false false in
    let sound : (v : Values) → IsSound s v = λ v. record { rules = all.each; group = λ k rule none. absurd (none-some rule none); again = λ other none. absurd (none-some other none) } in
    let zeros : Values = record { a = 0; b = 0; c = 0; d = 0 } in
    let (f, g, from, to, first) = both_forms s c.begin (Some blank_form) (form_by c.first c.family) begins in
    let (h, k, of, next, again) = both_forms s c.loop (Some c.family) (form_by c.next c.family) loops in
    let here : blank_form ≡ f = same_Some _ _ from in
    let there : c.family ≡ h = same_Some _ _ of in
    never_by_rules m Values (λ v. zipper_of c.family v [] []) (values_by c.first zeros)
    (same m (ap (λ (x : Form). zipper_of x zeros [] []) here) ⨾
    (leads_comes s zeros (sound zeros) [] [] (λ e. refl) (λ e. refl) c.begin f g first ⨾ same m (zipper_by c.first c.family g zeros [] [] to)))
    (λ v. (
      values_by c.next v,
      subst (λ (x : Form). Goes m (zipper_of x v [] []) (zipper_of c.family (values_by c.next v) [] [])) (sym there)
          (leads_goes s v (sound v) [] [] (λ e. refl) (λ e. refl) c.loop h k steps again ⁺⨾ same m (zipper_by c.next c.family k v [] [] next)),
    ))
