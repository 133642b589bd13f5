use Rattle.std.proofs.Common.{refl}
use Rattle.cert.specs.Kinds.{owned_claim}
use Rattle.cert.proofs.Claims.{never_paired, never_said, never_shown}
use Rattle.cert.proofs.judgement.Decided.never.Goals as goal

pub returns : goal.returns
returns c =
    let p = c.args.t.now in
    let claim = owned_claim c.args.certificate in
    let said = c.requires.never in
    ((refl, (c.requires.certified, never_shown p claim said, never_paired p claim said), (never_said claim said, c.requires.certified)), refl)
