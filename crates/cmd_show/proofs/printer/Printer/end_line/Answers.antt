use Rattle.std.proofs.Common.{rules}
use Rattle.cmd_show.proofs.PictureLaws.{keeps_both, line_ended, ok_then}
use Rattle.cmd_show.proofs.printer.Printer.end_line.Goals as goal

pub returns-then-len-lt-MANY_BYTES-clause-lines : goal.returns-then-len-lt-MANY_BYTES-clause-lines
returns-then-len-lt-MANY_BYTES-clause-lines g c = line_ended _ c.args.self.now.line.items _ _ (search rules)

pub returns-clause-lines : goal.returns-clause-lines
returns-clause-lines g c =
    ok_then c.write.result (λ written. keeps_both _ _ _ _ _ _ (line_ended _ c.args.self.now.line.items _ _ (search rules)) written) c.write.ensures.lines
