use Rattle.std.proofs.Common.{ap, ◌∙◌}
use Rattle.serde_json.specs.Written.{has_float}
use Rattle.cert.specs.Terms.{read_as}
use Rattle.cmd_lines.specs.Terms.{lent}
use Rattle.cmd_json.proofs.JsonAnswers.{decide_has_none}
use Rattle.cmd_json.proofs.records.append_object_of.Goals as goal

pub append_object-requires : goal.append_object-requires
append_object-requires c = ap has_float c.in_ok-object.ensures ∙ decide_has_none c.args.number (lent c.args.line) (read_as c.args.decided.now)
