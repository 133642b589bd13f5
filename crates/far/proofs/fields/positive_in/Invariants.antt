use Rattle.far.specs.inside.Reading.{IsWorth}
use Rattle.far.proofs.fields.positive_in.Given as goal

abbrev pub invariant-loop-byte : goal.invariant-loop-byte
invariant-loop-byte l = IsWorth l.text l.byte-index l.number
