use Rattle.std.proofs.Common.{◌≡◌, ◌++◌, take, flat_map}
use Rattle.cmd_page.specs.Page.{inner_byte}
use Rattle.cmd_page.proofs.shell.append_embedded.Given as goal

-- those that were gone through
abbrev pub invariant-loop-byte : goal.invariant-loop-byte
invariant-loop-byte l = l.out.items ≡ l.fn.out.items ++ flat_map inner_byte (take l.byte-index l.json)
