-- The automata whose numbers are unpacked.
use Rattle.far.specs.ListedTexts.{ListedAutomata, listed_automata}
use Rattle.far.specs.declared.listed_unpacked.Unpacked.{Unpacked}

abbrev pub numbers_of_unpacked : Unpacked → ListedAutomata
numbers_of_unpacked e = listed_automata e.states e.side e.size e.delta.items e.rows e.keep.items
