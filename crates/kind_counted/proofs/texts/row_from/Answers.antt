use Rattle.std.proofs.Common.{◌≡◌, Some, true, false, sym, ◌∙◌, ap, rules, arith}
use Rattle.std.specs.Prelude.{option_map}
use Rattle.kind_counted.specs.declared.numbers.Counts.{Counts}
use Rattle.kind_counted.specs.Texts.{numbers_from, leads, pivot_of}
use Rattle.kind_counted.proofs.Echelon.{leads_from, leads_left, leads_least, row_is}
use Rattle.kind_counted.proofs.texts.row_from.Goals as goal

pub returns-in_err-row-clause-row : goal.returns-in_err-row-clause-row
returns-in_err-row-clause-row c =
    let counts = c.in_ok-numbers_from.field-0 in
    let read : numbers_from c.args.limit c.args.text.now ≡ Some counts.numbers =
    sym c.numbers_from.ensures ∙ ap (option_map (λ (c : Counts). c.numbers)) c.in_ok-numbers_from.was in
    let never : leads c.args.low counts.numbers ≡ false = leads_least c.args.low counts.numbers c.in_err-row.ensures.none in
    let is = row_is c.args.limit c.args.low c.args.text.now counts.numbers false read never in
    search rules

pub returns-then-row-low-clause-row : goal.returns-then-row-low-clause-row
returns-then-row-low-clause-row c =
    let counts = c.in_ok-numbers_from.field-0 in
    let read : numbers_from c.args.limit c.args.text.now ≡ Some counts.numbers =
    sym c.numbers_from.ensures ∙ ap (option_map (λ (c : Counts). c.numbers)) c.in_ok-numbers_from.was in
    let never : leads c.args.low counts.numbers ≡ false = leads_left c.args.low counts.numbers c.in_ok-row.row.pivot (sym c.in_ok-row.ensures.place) c.if-row-low.true in
    sym (row_is c.args.limit c.args.low c.args.text.now counts.numbers false read never)

pub returns-clause-row : goal.returns-clause-row
returns-clause-row c =
    let counts = c.in_ok-numbers_from.field-0 in
    let row = c.in_ok-row.row in
    let same : row.counts ≡ counts = c.in_ok-row.ensures.some in
    let read : numbers_from c.args.limit c.args.text.now ≡ Some row.counts.numbers =
    sym c.numbers_from.ensures ∙ ap (option_map (λ (c : Counts). c.numbers)) c.in_ok-numbers_from.was ∙ ap (λ (c : Counts). Some c.numbers) (sym same) in
    let place : pivot_of row.counts.numbers ≡ row.pivot = ap (λ (c : Counts). pivot_of c.numbers) same ∙ sym c.in_ok-row.ensures.place in
    let leading : leads c.args.low row.counts.numbers ≡ true = leads_from c.args.low row.counts.numbers row.pivot place (omega arith) row.positive in
    sym (row_is c.args.limit c.args.low c.args.text.now row.counts.numbers true read leading)
