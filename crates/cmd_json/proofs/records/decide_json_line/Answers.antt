use Rattle.std.proofs.Common.{sym, ◌∙◌}
use Rattle.cmd_lines.specs.Terms.{lent}
use Rattle.cmd_json.proofs.JsonAnswers.{fault_says, table_says}
use Rattle.cmd_json.proofs.records.decide_json_line.Goals as goal

pub returns-in-Ok : goal.returns-in-Ok
returns-in-Ok g c =
    table_says g.D.Decider.answers c.args.decider.now c.args.number (lent c.args.line) c.in-Ok.table c.args.out.now.items c.append_decided.new.out.items
    c.append_decided.result (sym c.read_line_table.ensures ∙ c.in-Ok.is) c.append_decided.ensures

pub returns-in_ok-append_object_of-in-Err : goal.returns-in_ok-append_object_of-in-Err
returns-in_ok-append_object_of-in-Err g c =
    fault_says g.D.Decider.answers c.args.decider.now c.args.number (lent c.args.line) c.in-Err.fault c.args.out.now.items c.append_object_of.new.out.items
    (sym c.read_line_table.ensures ∙ c.in-Err.is) c.in_ok-append_object_of-in-Err.ensures
