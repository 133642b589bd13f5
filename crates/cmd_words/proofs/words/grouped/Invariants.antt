use Rattle.std.proofs.Common.{ℕ, false, drop}
use Rattle.cmd_words.specs.Asked.{ReadsOn}
use Rattle.cmd_words.proofs.words.grouped.Given as goal

-- what is read, with the bytes that are left, is what the word is
abbrev pub invariant-loop-byte : goal.invariant-loop-byte
invariant-loop-byte l = (n : ℕ) → ReadsOn l.front.number l.front.ends_with_digit (drop l.byte-index l.word) n → ReadsOn 0 false l.word n
