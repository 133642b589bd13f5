use Rattle.std.proofs.Common.{◌∙◌, sym, refl}
use Rattle.std.proofs.lemmas.List.{append-nil}
use Rattle.kind_named.specs.inside.Tokens.{c_left, separator_left}
use Rattle.kind_named.proofs.ArenaLaws.{extends_same}
use Rattle.kind_named.proofs.Openings.{within_rest}
use Rattle.kind_named.proofs.SectionLaws.{token_back, section_taken, gathers_next}
use Rattle.kind_named.proofs.gather.gather_cut.Goals as goal

pub returns-then-is_a-clause-gathers : goal.returns-then-is_a-clause-gathers
returns-then-is_a-clause-gathers c = token_back (λ l. c_left l) _ _ _ _ _ c.requires.within c.requires.taken_within tt c.in_ok-push.ensures.items (λ n l. refl)

pub returns-in_default-clause-gathers : goal.returns-in_default-clause-gathers
returns-in_default-clause-gathers c =
    section_taken (λ l. c_left l) _ _ _ _ _ _ c.requires.within c.requires.taken_within tt (c.in_default.ensures.items ∙ append-nil _) c.in_ok-push-2.ensures.items (λ l. refl)

pub gather_separator-requires : goal.gather_separator-requires
gather_separator-requires c = record { within = within_rest _ _ _ _ c.in-Some.ensures.items c.requires.within; taken_within = c.requires.taken_within }

pub returns-in_ok-next-in-Cut-clause-gathers : goal.returns-in_ok-next-in-Cut-clause-gathers
returns-in_ok-next-in-Cut-clause-gathers c =
    gathers_next (λ l. separator_left 3 l) (λ l. c_left l) _ _ _ _ _ _ _ _ _ c.in-Some.ensures.items c.in-Cut.is (λ n l. refl) c.in_ok-next-in-Cut.ensures.gathers

pub returns-in_ok-push-in_default-top-2 : goal.returns-in_ok-push-in_default-top-2
returns-in_ok-push-in_default-top-2 c = record {
  old = extends_same _;
  gathers = section_taken (λ l. c_left l) _ _ _ _ _ _ c.requires.within c.requires.taken_within tt (c.in-Some.ensures.items ∙ sym c.in_ok-push-in_default-top.ensures.items)
      c.in_ok-push-in_default-top-2.ensures.items (λ l. refl);
}
