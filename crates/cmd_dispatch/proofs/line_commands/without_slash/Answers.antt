use Rattle.std.proofs.Common.{None, arith, inl, refl}
use Rattle.std.proofs.lemmas.Str.Pattern.{strip_suffix_char}
use Rattle.cmd_dispatch.proofs.line_commands.without_slash.Goals as goal

pub returns-in-None : goal.returns-in-None
returns-in-None c = inl (strip_suffix_char 47 c.args.path.now None c.in-None.ensures.cases (omega arith), refl)
