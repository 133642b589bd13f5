use Rattle.std.proofs.Common.{Err, ◌∙◌, ap}
use Rattle.std.proofs.lemmas.Result.{err_from_is_err_and}
use Rattle.lease_core.proofs.WorkerLaws.{reads_as_board, no_start, peeked}
use Rattle.lease_core.proofs.starting.loaded.Goals as goal

pub returns-in_err-board-in-Some : goal.returns-in_err-board-in-Some
returns-in_err-board-in-Some c =
    let p = err_from_is_err_and c.from_residual-in_err-board-in-Some.result c.from_residual-in_err-board-in-Some.ensures.1 in
    rw (p.1 ∙ ap Err p.2)
    (no_start c.in-Some.root c.args.ledger.now c.in_err-board-in-Some.field-0.0 (peeked c.args.ledger.now c.in_ok-root.field-0 c.in-Some.root c.in_ok-root.ensures c.in-Some.is) c.in_err-board-in-Some.ensures)

pub returns-in_ok-board-in-Some : goal.returns-in_ok-board-in-Some
returns-in_ok-board-in-Some c =
    reads_as_board c.in-Some.root c.args.ledger.now c.in_ok-board-in-Some.board c.in_ok-board-in-Some.left
    (peeked c.args.ledger.now c.in_ok-root.field-0 c.in-Some.root c.in_ok-root.ensures c.in-Some.is) c.in_ok-board-in-Some.ensures
