-- The terms of this crate: what others cite of its definitions, under one name.
pub use Rattle.law_induction.specs.Rules.{Certificate, Proved, all_forms, all_steps, base_steps, blank_form, by_induction, form_eq, forms_of, leads_from, may_be_group, steps_of_all, steps_of_groups, with_a}
unfoldable pub use Rattle.law_induction.specs.Rules.{are_proved, each_proved, form_by, is_certificate, is_group_proved, is_proved_by, leads_by, script_leads}
pub use Rattle.law_induction.specs.Scripts.{Setting, Sides, again_by, half_of, is_at_end, move_steps, moved_by, open_on, rule_at, same_side, sides_of, stepped_to, steps_in, taken_with, with_side, ◌>>=◌}
unfoldable pub use Rattle.law_induction.specs.Scripts.{all_done, are_blanks, done, done_within, equals, form_stepped, form_turned, grouped_at, half_by, half_rewritten, has_step, instance_of, product_of, replaced, sides, steps_done, substituted, sum_of, taken, used, used_half, within_limit}
pub use Rattle.law_induction.specs.Words.{Form, RuleForm, block_of, blocks_eq, digit, form_with, never_once, one_time, single, symbols_eq, symbols_in, times_eq, times_with}
unfoldable pub use Rattle.law_induction.specs.Words.{all_steps_limit, exponent_limit, half_block_limit, word_symbols}
