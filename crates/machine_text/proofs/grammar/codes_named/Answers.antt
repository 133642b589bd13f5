use Rattle.std.proofs.Common.{◌+◌, ◌*◌, sym, ◌∙◌, arith}
use Rattle.machine_text.proofs.RoundTrip.{codes_from_written}
use Rattle.machine_text.proofs.Reading.{row_read, no_faults_read, faulty_bar, faulty_entry}
use Rattle.machine_text.proofs.grammar.codes_named.Goals as goal

pub returns-then-not-bars_stand-clause-none : goal.returns-then-not-bars_stand-clause-none
returns-then-not-bars_stand-clause-none c =
    let bar = c.bars_stand.ensures.one c.if-not-bars_stand.true in
    faulty_bar c.args.states c.args.text.now bar.0 bar.1 bar.2 bar.3

pub returns-clause-clean : goal.returns-clause-clean
returns-clause-clean c =
    no_faults_read c.args.states c.args.text.now c.requires.length (c.bars_stand.ensures.all c.if-not-bars_stand.false)
    (λ i beside below. c.loop-row.invariant.clean i beside (omega arith))

pub returns-clause-some : goal.returns-clause-some
returns-clause-some c =
    codes_from_written c.args.states c.args.text.now (omega (arith, c.requires.length)) c.requires.limit c.requires.length c.loop-row.codes
    c.loop-row.invariant.size (λ j below. c.loop-row.invariant.written j (omega arith)) (λ j past. c.loop-row.invariant.others j (omega arith))

pub returns-in_err-codes-clause-none : goal.returns-in_err-codes-clause-none
returns-in_err-codes-clause-none c =
    rw c.from_residual.ensures (faulty_entry c.args.states c.args.text.now (2 * c.loop-row.row) (7 * c.loop-row.row) (omega arith) (omega (arith, c.requires.length, c.loop-row-test.true)) (sym c.code_at.ensures ∙ c.in_err-codes.was))

pub returns-in_err-codes-2-clause-none : goal.returns-in_err-codes-2-clause-none
returns-in_err-codes-2-clause-none c =
    rw c.from_residual-in_err-codes-2.ensures (faulty_entry c.args.states c.args.text.now (2 * c.loop-row.row + 1) (7 * c.loop-row.row + 3) (omega arith) (omega (arith, c.requires.length, c.loop-row-test.true)) (sym c.code_at-in-loop-row.ensures ∙ c.in_err-codes-2.was))

pub loop-row-preserved : goal.loop-row-preserved
loop-row-preserved c =
    row_read c.args.states c.args.text.now c.loop-row.row c.in_ok-codes.field-0 c.in_ok-codes-2.field-0 c.loop-row.codes (omega (arith, c.loop-row-test.true, c.requires.limit))
    (sym c.code_at.ensures ∙ c.in_ok-codes.was) (sym c.code_at-in-loop-row.ensures ∙ c.in_ok-codes-2.was) c.loop-row.invariant
