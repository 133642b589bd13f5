use Rattle.std.proofs.Common.{◌≡◌, ℕ, ◌+◌, ◌*◌, ◌<◌, ap, ◌∙◌, get_or, arith}
use Rattle.std.proofs.lemmas.List.{get_or_default}
use Rattle.machine_text.specs.Limits.{state_limit}
use Rattle.machine_text.specs.Packed.{Packed, coded_entry}
use Rattle.machine_text.proofs.Rows.{row_written, text_written}
use Rattle.machine_text.proofs.RoundTrip.{table_of-text_of, no_halting_letter}
use Rattle.machine_text.proofs.table.Table.text.Goals as goal

pub loop-row-preserved : goal.loop-row-preserved
loop-row-preserved c =
    let row = c.loop-row.row in
    let codes = c.self.inside.codes in
    let within : row < state_limit = omega (arith, c.loop-row-test.true, c.self.invariant.limit) in
    let code : (k other : ℕ) → k < 2 * state_limit → coded_entry (get_or codes k other) ≡ coded_entry (get_or c.args.self.now.codes k 0) = λ k other below.
    ap coded_entry (get_or_default codes k other 0 (omega (arith, c.self.invariant.size)) ∙ ap (λ (t : Packed). get_or t.codes k 0) c.self.view_is) in
    rw (c.put_entry-in-loop-row.ensures, c.put_entry.ensures) (row_written c.args.self.now row _ _ c.loop-row.buf within
    (c.entry.ensures ∙ code (2 * row) _ (omega arith)) (c.entry-in-loop-row.ensures ∙ code (2 * row + 1) _ (omega arith)) c.loop-row.invariant)

-- the bytes that were written are those of the text
pub returns-clause-text : goal.returns-clause-text
returns-clause-text c =
    rw (← c.self.view_is) (text_written _ (2 * c.loop-row.row) c.loop-row.buf c.self.invariant (omega (arith, c.loop-row-test.false)) (rw c.self.view_is c.loop-row.invariant))

pub returns-clause-no_halting_letter : goal.returns-clause-no_halting_letter
returns-clause-no_halting_letter c = rw (returns-clause-text c) (rw (← c.self.view_is) (no_halting_letter _ c.self.invariant))

-- and parsing them gives the table again
pub returns-clause-parses : goal.returns-clause-parses
returns-clause-parses c = rw (returns-clause-text c) (rw (← c.self.view_is) (table_of-text_of _ c.self.invariant))
