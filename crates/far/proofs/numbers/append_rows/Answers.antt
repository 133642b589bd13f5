use Rattle.std.proofs.Common.{◌∷◌, ◌++◌, take, get_or, append_assoc, sym, ◌∙◌, ap, arith, rules}
use Rattle.far.specs.Texts.{hex_text, rows_text}
use Rattle.far.proofs.Written.{begun, rows_more}
use Rattle.far.proofs.numbers.append_rows.Goals as goal

pub returns-in_err-append_row-clause-kept : goal.returns-in_err-append_row-clause-kept
returns-in_err-append_row-clause-kept c = begun _ _ _ _ c.loop-k.invariant c.in_err-append_row.ensures.kept

pub loop-k-preserved : goal.loop-k-preserved
loop-k-preserved c =
    let rows = c.args.rows.now in
    let old = c.args.out.now.items in
    let k = c.loop-k.k in
    c.in_ok-append_row.ensures.ok ∙ ap (λ xs. xs ++ 44 ∷ hex_text (get_or rows k 0)) c.loop-k.invariant
    ∙ append_assoc old (rows_text (take k rows)) (44 ∷ hex_text (get_or rows k 0)) ∙ ap (λ xs. old ++ xs) (sym (rows_more rows k (omega arith) (omega arith)))

-- answered by name, so that nothing is offered where an edit makes it false
pub loop-k-init : goal.loop-k-init
loop-k-init c = search rules steps 100000
