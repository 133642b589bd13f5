use Rattle.std.proofs.Common.{inl}
use Rattle.std.proofs.lemmas.Result.{err_from_is_err_and}
use Rattle.ledger.proofs.StageLaws.{is_torn, is_bad, torn_loaded}
use Rattle.ledger.proofs.loading.torn.Goals as goal

pub returns-in_err-board : goal.returns-in_err-board
returns-in_err-board c text one_line kept =
    let p = err_from_is_err_and c.from_residual.result c.from_residual.ensures.1 in
    rw (p.1, p.2) (inl (is_torn c.args.root text c.args.line.now one_line kept (c.is_begun_header.ensures.0 c.if-is_begun_header.true)))

pub returns-then-is_begun_header : goal.returns-then-is_begun_header
returns-then-is_begun_header c text one_line kept =
    torn_loaded c.args.root text c.args.line.now one_line kept c.in_ok-board.board c.of_torn.result c.in_ok-board.ensures
    (c.is_begun_header.ensures.0 c.if-is_begun_header.true) c.of_torn.ensures

pub returns : goal.returns
returns c text one_line kept =
    is_bad c.args.root text c.args.line.now one_line kept (λ begun. let holds = c.is_begun_header.ensures.1 begun in let fails = c.if-is_begun_header.false in absurd (cc))
