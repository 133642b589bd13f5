use Rattle.wire.proofs.MessageTexts.{begun_goes_on}
use Rattle.wire.proofs.laws.begun_lines_go_on.Goals as goal

pub returns-clause-lines : goal.returns-clause-lines
returns-clause-lines c = λ begun piece none. (begun_goes_on begun piece none).0

pub returns-clause-rest : goal.returns-clause-rest
returns-clause-rest c = λ begun piece none. (begun_goes_on begun piece none).1
