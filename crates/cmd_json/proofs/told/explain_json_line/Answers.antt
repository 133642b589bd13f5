use Rattle.std.proofs.Common.{ap, ◌∙◌, option_map, string_bytes}
use Rattle.serde_json.specs.Written.{has_float}
use Rattle.cert.specs.Terms.{read_as}
use Rattle.cmd_lines.specs.Terms.{lent}
use Rattle.cmd_json.specs.Objects.{found}
use Rattle.cmd_json.proofs.JsonAnswers.{explain_has_none}
use Rattle.cmd_json.proofs.told.explain_json_line.Goals as goal

pub append_object-requires : goal.append_object-requires
append_object-requires c =
    let told = c.in_ok-told.told in
    ap has_float c.in_ok-object.ensures
    ∙ explain_has_none c.args.number (lent c.args.line) (read_as c.read_line-read.result) (found told.finding) (option_map string_bytes told.words)
