use Rattle.std.proofs.Common.{◌≡◌, ◌++◌, IsUtf8}
use Rattle.std.specs.Str.Iter.{chars_rest}
use Rattle.cmd_json.specs.Objects.{ascii}
use Rattle.cmd_json.proofs.form.append_ascii.Given as goal

-- what was appended, and what is made of the characters that are left
abbrev pub invariant-loop-c : goal.invariant-loop-c
invariant-loop-c l = IsUtf8 (chars_rest l.c-iterator) × (l.out.items ++ ascii (chars_rest l.c-iterator) ≡ l.fn.out.items ++ ascii l.text)
