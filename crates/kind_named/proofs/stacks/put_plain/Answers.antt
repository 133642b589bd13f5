use Rattle.std.proofs.Common.{subst, IfSome}
use Rattle.kind_named.specs.inside.Tokens.{Merges}
use Rattle.kind_named.proofs.TokenLaws.{puts_left_first, puts_left_merged, puts_left_again}
use Rattle.kind_named.proofs.stacks.put_plain.Goals as goal

pub returns-in_default : goal.returns-in_default
returns-in_default c = puts_left_first _ _ _ _ _ c.requires.left c.requires.token c.in_default.ensures.items c.in_ok-push.ensures.items

pub returns-in_ok-push-in-Some-2 : goal.returns-in_ok-push-in-Some-2
returns-in_ok-push-in-Some-2 c =
    let both = subst (λ o. IfSome o (λ both. Merges c.in-Some.top c.args.token both)) c.in-Some-2.is c.in_ok-both.ensures in
    puts_left_merged _ _ _ _ _ _ _ both c.requires.left c.requires.token c.in-Some.ensures.items c.in_ok-push-in-Some-2.ensures.items

pub returns-in_ok-push-in-None-2 : goal.returns-in_ok-push-in-None-2
returns-in_ok-push-in-None-2 c =
    puts_left_again _ _ _ _ _ _ _ c.requires.left c.requires.token c.in-Some.ensures.items c.in_ok-push-in-None.ensures.items c.in_ok-push-in-None-2.ensures.items
