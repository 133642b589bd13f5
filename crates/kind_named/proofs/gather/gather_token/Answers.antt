use Rattle.std.proofs.Common.{refl}
use Rattle.kind_named.specs.inside.Tokens.{separator_left}
use Rattle.kind_named.proofs.SectionLaws.{token_back}
use Rattle.kind_named.proofs.gather.gather_token.Goals as goal

pub returns-then-not-is_wanted-clause-gathers : goal.returns-then-not-is_wanted-clause-gathers
returns-then-not-is_wanted-clause-gathers c = token_back (λ l. separator_left c.args.digit l) _ _ _ _ _ c.requires.within c.requires.taken_within tt c.in_ok-push.ensures.items (λ n l. refl)
