use Rattle.std.proofs.Common.{◌∙◌, List, ℕ, subst}
use Rattle.std.specs.Prelude.{Option}
use Rattle.std.proofs.lemmas.Result.{err_from_is_err_and, on_err_weaker}
use Rattle.wire.specs.Fulfilled.{IsBegun}
use Rattle.wire.proofs.Answers.{begun_first, begun_next}
use Rattle.wire.proofs.handing.send_both.Goals as goal

pub returns-in_err-send_all-clause-err : goal.returns-in_err-send_all-clause-err
returns-in_err-send_all-clause-err g c =
    let p = err_from_is_err_and c.from_residual.result c.from_residual.ensures.1 in
    rw p.1 (c.in_err-send_all.ensures.err.0, begun_first _ _ _ _ c.in_err-send_all.ensures.err.1)

pub returns-clause-err : goal.returns-clause-err
returns-clause-err g c =
    let all = c.in_ok-send_all.ensures.ok in
    on_err_weaker c.send_all-2.result
    (λ p. (
      λ e. p.0 (all.1 ∙ e),
      begun_next (g.L.Link.sent c.args.link.now) _ c.args.first.now c.args.next.now
          (subst (λ (t : Option (List ℕ)). IsBegun t c.args.next.now (g.L.Link.sent c.send_all-2.new.link)) all.0 p.1),
    ))
    c.send_all-2.ensures.err
