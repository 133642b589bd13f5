use Rattle.std.proofs.Common.{refl}
use Rattle.kind_named.specs.inside.Tokens.{c_left, separator_left}
use Rattle.kind_named.proofs.Openings.{within_rest}
use Rattle.kind_named.proofs.SectionLaws.{token_taken, gathers_next, below_as}
use Rattle.kind_named.proofs.gather.gather_one.Goals as goal

pub gather_cut-requires : goal.gather_cut-requires
gather_cut-requires c = record { within = within_rest _ _ _ _ c.in-Some.ensures.items c.requires.within; taken_within = c.requires.taken_within }

pub gather_token-requires : goal.gather_token-requires
gather_token-requires c = record { within = within_rest _ _ _ _ c.in-Some.ensures.items c.requires.within; taken_within = c.requires.taken_within }

pub returns-then-is_a-clause-gathers : goal.returns-then-is_a-clause-gathers
returns-then-is_a-clause-gathers c =
    token_taken _ _ _ _ _ _ _ _ c.requires.within c.requires.taken_within (below_as _ _ _ _ _ c.in-Some.ensures.items c.in-Rope.is c.requires.within) c.in-Some.ensures.items c.in-Rope.is c.in_ok-push-in-Rope.ensures.items (λ n l. refl)

pub returns-in_ok-push-in-X-clause-gathers : goal.returns-in_ok-push-in-X-clause-gathers
returns-in_ok-push-in-X-clause-gathers c =
    token_taken _ _ _ _ _ _ _ _ c.requires.within c.requires.taken_within tt c.in-Some.ensures.items c.in-X.is c.in_ok-push-in-X.ensures.items (λ n l. refl)

pub returns-in_ok-next-in-Cut-clause-gathers : goal.returns-in_ok-next-in-Cut-clause-gathers
returns-in_ok-next-in-Cut-clause-gathers c =
    gathers_next (λ l. c_left l) (λ l. l) _ _ _ _ _ _ _ _ _ c.in-Some.ensures.items c.in-Cut.is (λ n l. refl) c.in_ok-next-in-Cut.ensures.gathers

pub returns-in_ok-next-in-Separator-clause-gathers : goal.returns-in_ok-next-in-Separator-clause-gathers
returns-in_ok-next-in-Separator-clause-gathers c =
    gathers_next (λ l. separator_left c.in-Separator.digit l) (λ l. l) _ _ _ _ _ _ _ _ _ c.in-Some.ensures.items c.in-Separator.is (λ n l. refl) c.in_ok-next-in-Separator.ensures.gathers
