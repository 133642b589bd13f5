use Rattle.cert.proofs.RecordTexts.{record_of-record_text}
use Rattle.cert.proofs.judgement.records_parse_back.Goals as goal

pub returns : goal.returns
returns c = record_of-record_text
