use Rattle.std.proofs.Common.{◌≡◌, ◌++◌, take}
use Rattle.ngram_cps.proofs.fields.Draft.push_all.Given as goal

abbrev pub invariant-loop-byte : goal.invariant-loop-byte
invariant-loop-byte l = l.self ≡ l.fn.self ++ take l.byte-index l.part
