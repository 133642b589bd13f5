use Rattle.std.proofs.Common.{Err, ap}
use Rattle.std.proofs.lemmas.Result.{err_from_is_err_and}
use Rattle.cert.proofs.Claims.{halts_certified, halts_refused}
use Rattle.cert.proofs.judgement.judge_on.Goals as goal

pub returns-in_ok-halted-in-Halts-clause-certified : goal.returns-in_ok-halted-in-Halts-clause-certified
returns-in_ok-halted-in-Halts-clause-certified c =
    halts_certified c.args.r.now c.in-Halts.evidence c.in-Halts.is c.in_ok-halted-in-Halts.ensures.within c.in_ok-halted-in-Halts.ensures.stands

pub returns-in_err-halted-in-Halts-clause-refused : goal.returns-in_err-halted-in-Halts-clause-refused
returns-in_err-halted-in-Halts-clause-refused c =
    let p = err_from_is_err_and c.from_residual.result c.from_residual.ensures.1 in
    let told = c.in_err-halted-in-Halts.ensures in
    rw (p.1, p.2) (λ memory. halts_refused c.args.r.now c.in-Halts.evidence c.in_err-halted-in-Halts.field-0.0 c.in-Halts.is (λ is. told.fails (ap Err is)) (λ is. told.long (ap Err is)) (λ is. told.narrow (ap Err is)) (λ is. told.seen (ap Err is)) memory)
