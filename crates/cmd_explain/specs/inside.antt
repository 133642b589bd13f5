-- What only the code needs.
use Rattle.std.specs.Prelude.{◌≡◌, ℕ, List, [], ◌∷◌, ◌++◌}
use Rattle.text.specs.Terms.{BoundedLine}
use Rattle.cmd_options.specs.declared.ended.Outcome.{Outcome}
use Rattle.cmd_explain.specs.Explained.{SaysSeen}

-- one who says what is seen in so many steps, and keeps that number
abbrev pub KeepsSteps : {D : Type 0} → (D → ℕ) → D → BoundedLine → Outcome → D → List ℕ → Type 0
KeepsSteps {D} steps old line o new said = (steps new ≡ steps old)
    × (answer : List ℕ) × SaysSeen (steps old) line o answer × (said ≡ answer ++ 10 ∷ [])
