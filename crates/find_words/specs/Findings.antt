-- What is so of automata that were found.
use Rattle.std.specs.Prelude.{◌<◌}
use Rattle.machine_text.specs.Terms.{Packed}
use Rattle.cert.specs.Terms.{Claim, NeverClaim, FarReason, ListedReason}
use Rattle.far.specs.Terms.{AreAutomataOf, size_limit, owned_automata, AreTextsOf, owned_texts}
use Rattle.find_words.specs.declared.word_finder.FoundAutomata.{FoundAutomata}
use Rattle.find_words.specs.declared.word_finder.FoundAutomata.TheVariants.{Far, Listed}

-- what they claim
abbrev pub claim_found : FoundAutomata → Claim
claim_found (Far e) = NeverClaim (FarReason (owned_automata e))
claim_found (Listed e) = NeverClaim (ListedReason (owned_texts e))

-- they are those of the table; the edges of the second are listed where the first has too many states for the other form
abbrev pub AreFoundOf : Packed → FoundAutomata → Type 0
AreFoundOf t (Far e) = AreAutomataOf (owned_automata e) t
AreFoundOf t (Listed e) = AreTextsOf (owned_texts e) t × (size_limit < (owned_texts e).size)
