use Rattle.law_turing.proofs.AutomataLaws.{automata_never, automata_lead}
use Rattle.law_turing.proofs.never.automata_never.Goals as goal

pub returns : goal.returns
returns c = record { never = automata_never; leads = automata_lead }
