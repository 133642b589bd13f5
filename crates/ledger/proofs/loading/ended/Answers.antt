use Rattle.std.proofs.Common.{ap, ◌∙◌, subst}
use Rattle.std.proofs.lemmas.Result.{err_from_is_err_and}
use Rattle.machine_text.specs.Terms.{Packed}
use Rattle.ledger.specs.Records.{same_table}
use Rattle.ledger.specs.Loading.{NamesRoot}
use Rattle.ledger.specs.declared.body.Body.{Body}
use Rattle.ledger.proofs.Claims.{is_other_root, is_the_root}
use Rattle.ledger.proofs.StageLaws.{has_no_header, has_other_root, new_versioned, begins_body}
use Rattle.ledger.proofs.loading.ended.Goals as goal

pub returns-in_default-clause-ok : goal.returns-in_default-clause-ok
returns-in_default-clause-ok c text size one_line kept = has_no_header c.args.root.now text c.args.line.now one_line kept c.in_default.ensures

pub returns-then-ne-clause-ok : goal.returns-then-ne-clause-ok
unfolding same_table
returns-then-ne-clause-ok c text size one_line kept =
    has_other_root c.args.root.now text c.args.line.now one_line kept c.in-Some.header.format c.in-Some.header.root c.in-Some.ensures
    (is_other_root c.in-Some.header.root c.args.root.now c.ne.result c.ne.ensures c.if-ne.true)

pub returns-in_err-board-clause-err : goal.returns-in_err-board-clause-err
unfolding same_table
returns-in_err-board-clause-err c =
    let same = is_the_root c.in-Some.header.root c.args.root.now c.ne.result c.ne.ensures c.if-ne.false in
    let p = err_from_is_err_and c.from_residual.result c.from_residual.ensures.1 in
    rw p.1 (c.in-Some.header.format, subst (λ (p : Packed). NamesRoot c.in-Some.header.format c.args.line.now p) same c.in-Some.ensures)

pub returns-clause-ok : goal.returns-clause-ok
unfolding same_table
returns-clause-ok c text size one_line kept =
    let same = is_the_root c.in-Some.header.root c.args.root.now c.ne.result c.ne.ensures c.if-ne.false in
    let body = c.new.ensures in
    begins_body c.args.root.now text c.args.line.now one_line kept c.in-Some.header.format c.args.after c.new.result size (subst (λ (p : Packed). NamesRoot c.in-Some.header.format c.args.line.now p) same c.in-Some.ensures)
    (ap (λ (b : Body). b.board) body ∙ new_versioned c.args.root.now c.in-Some.header.format c.in_ok-board.board c.in_format-board.result c.in_ok-board.ensures c.in_format-board.ensures) (ap (λ (b : Body). b.number) body) (ap (λ (b : Body). b.before) body)
    (ap (λ (b : Body). b.line) body) (ap (λ (b : Body). b.left) body)
