use Rattle.far.specs.inside.Reading.{IsWritten}
use Rattle.far.proofs.fields.hex_text.Given as goal

abbrev pub decreases-digits : goal.decreases-digits
decreases-digits l = l.rest

abbrev pub invariant-digits : goal.invariant-digits
invariant-digits l = IsWritten l.number l.rest l.at l.buf
