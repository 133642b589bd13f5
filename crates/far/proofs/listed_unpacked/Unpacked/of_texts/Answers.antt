use Rattle.std.proofs.Common.{sym, ◌∙◌, ap, rules}
use Rattle.std.specs.Prelude.{option_map}
use Rattle.far.proofs.WellRead.{read_are}
use Rattle.far.proofs.listed_unpacked.Unpacked.of_texts.Goals as goal

pub invariant_of-result : goal.invariant_of-result
invariant_of-result c = record {
  limits = search rules;
  numbers = read_are _ _ _ _ _ _ _ _ _ (sym c.in_ok-delta.ensures ∙ ap (option_map (λ n. n.items)) c.in-Some.is) (sym c.in_ok-rows.ensures ∙ c.in-Some-2.is)
      (sym c.in_ok-keep.ensures ∙ ap (option_map (λ n. n.items)) c.in-Some-3.is) (search rules) (search rules);
}
