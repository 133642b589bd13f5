use Rattle.std.proofs.Common.{◌≡◌, take}
use Rattle.text.specs.Fields.{worth_of}
use Rattle.text.proofs.fields.worth_of.Given as goal

abbrev pub invariant-loop-byte : goal.invariant-loop-byte
invariant-loop-byte l = l.number ≡ worth_of (take l.byte-index l.text)
