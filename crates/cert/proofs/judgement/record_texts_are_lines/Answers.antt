use Rattle.cert.proofs.RecordTexts.{record_line}
use Rattle.cert.proofs.judgement.record_texts_are_lines.Goals as goal

pub returns : goal.returns
returns c = record_line
