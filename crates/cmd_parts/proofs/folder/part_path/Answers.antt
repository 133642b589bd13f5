use Rattle.std.proofs.Common.{sym, subst}
use Rattle.std.specs.Str.{IsUtf8}
use Rattle.std.proofs.lemmas.Str.{IsUtf8-from_ascii}
use Rattle.machine_text.specs.Terms.{text_of}
use Rattle.machine_text.proofs.RoundTrip.{text_below}
use Rattle.cmd_parts.proofs.folder.part_path.Goals as goal

pub unreachable-requires : goal.unreachable-requires
unreachable-requires c =
    let p = c.args.root.now in
    c.in-Err.ensures.cases.0 (subst IsUtf8 (sym c.text.ensures.text) (IsUtf8-from_ascii (text_of p) (text_below p c.states.ensures.table)))
