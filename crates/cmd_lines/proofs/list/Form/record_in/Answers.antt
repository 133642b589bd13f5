use Rattle.std.proofs.Common.{rules, Ok, Err, sym, ap, ◌∙◌}
use Rattle.cert.specs.Terms.{recorded, read_as}
use Rattle.cmd_lines.proofs.Firsts.{found_read}
use Rattle.cmd_lines.proofs.list.Form.record_in.Goals as goal

pub returns-in-Ok : goal.returns-in-Ok
returns-in-Ok c =
    found_read c.args.self.now.listing.records c.args.line c.in_ok-text.text c.trim_ascii.result.now (Ok (recorded c.in-Ok.record)) (search rules) (search rules) c.trim_ascii.ensures.value
    (sym c.read_line.ensures ∙ ap read_as c.in-Ok.is)

pub returns-in-Err : goal.returns-in-Err
returns-in-Err c =
    found_read c.args.self.now.listing.records c.args.line c.in_ok-text.text c.trim_ascii.result.now (Err c.in-Err.field-0) (search rules) (search rules) c.trim_ascii.ensures.value
    (sym c.read_line.ensures ∙ ap read_as c.in-Err.is)
