use Rattle.std.proofs.Common.{◌≡◌, ◌++◌, drop, encode_utf8_all, string_bytes}
use Rattle.cmd_json.proofs.form.characters.Given as goal

-- the characters so far, and those of the bytes that are left
abbrev pub invariant-loop-byte : goal.invariant-loop-byte
invariant-loop-byte l = string_bytes l.text ++ encode_utf8_all (drop l.byte-index l.bytes) ≡ encode_utf8_all l.bytes
