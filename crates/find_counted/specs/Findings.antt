-- What is so of the texts of counted automata that were found.
use Rattle.machine_text.specs.Terms.{Packed}
use Rattle.kind_counted.specs.Terms.{CosetTexts, AreWithinLimits, AreCosetsOf}

-- the automata stand for the table, within the limits
pub record AreCosetsFound (p : Packed) (t : CosetTexts) : Type 0 where
  pub within : AreWithinLimits t
  pub stand : AreCosetsOf t p
