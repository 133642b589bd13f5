use Rattle.std.proofs.Common.{rules, arith}
use Rattle.cmd_parts.specs.Look.{ComesOf}
use Rattle.cmd_parts.proofs.FolderAnswers.{of_rows}
use Rattle.cmd_parts.proofs.answer.has_entries.Goals as goal

pub returns : goal.returns
returns c =
    let of : ComesOf c.args.t.now c.args.root.now = of_rows c.args.t.now c.args.root.now c.requires c.states-q-end.ensures.table
    (λ q less. c.loop-q.invariant q (omega (arith, less, c.loop-q-test.false, c.states-q-end.ensures.states))) in
    search rules
