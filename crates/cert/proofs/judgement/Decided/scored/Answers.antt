use Rattle.std.proofs.Common.{sym, subst}
use Rattle.cert.specs.Certified.{IsShownBy}
use Rattle.cert.specs.Claim.{Claim}
use Rattle.cert.specs.Kinds.{owned_recorded}
use Rattle.cert.proofs.Claims.{score_shown}
use Rattle.cert.proofs.judgement.Decided.scored.Goals as goal

pub returns-clause-shown : goal.returns-clause-shown
returns-clause-shown c =
    let made = c.args.self.record in
    let same = c.with_score.ensures made.table c.requires.1 in
    subst (λ (k : Claim). IsShownBy (record { table = made.table; claim = k }) c.args.self.judged) (sym same)
    (score_shown (owned_recorded made) c.args.self.judged c.requires)
