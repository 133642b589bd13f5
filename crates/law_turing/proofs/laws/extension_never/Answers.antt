use Rattle.law_turing.proofs.RunLaws.{never_extends}
use Rattle.law_turing.proofs.laws.extension_never.Goals as goal

pub returns : goal.returns
returns c = never_extends
