use Rattle.std.proofs.Common.{◌∙◌, sym}
use Rattle.std.proofs.lemmas.List.{append-nil}
use Rattle.kind_named.proofs.SectionLaws.{separator_back, separator_taken}
use Rattle.kind_named.proofs.gather.gather_separator.Goals as goal

pub returns-in_default-clause-gathers : goal.returns-in_default-clause-gathers
returns-in_default-clause-gathers c =
    separator_back _ _ _ _ _ _ _ _ c.open_ropes.ensures.extends c.requires.taken_within c.in_ok-open_ropes.ensures.same (c.in_default.ensures.items ∙ append-nil _) c.in_ok-put_back.ensures

pub returns-in_ok-push-in-X-clause-gathers : goal.returns-in_ok-push-in-X-clause-gathers
returns-in_ok-push-in-X-clause-gathers c =
    separator_taken _ _ _ _ _ _ _ _ _ _ c.open_ropes.ensures.extends c.requires.taken_within c.in_ok-open_ropes.ensures.same c.in-Some.ensures.items c.in-X.is c.in_ok-push-in-X.ensures.items

pub returns-in_ok-put_back-in_default-top : goal.returns-in_ok-put_back-in_default-top
returns-in_ok-put_back-in_default-top c = record {
  old = c.open_ropes.ensures.extends;
  gathers = separator_back _ _ _ _ _ _ _ _ c.open_ropes.ensures.extends c.requires.taken_within c.in_ok-open_ropes.ensures.same
      (c.in-Some.ensures.items ∙ sym c.in_ok-push-in_default-top.ensures.items) c.in_ok-put_back-in_default-top.ensures;
}
