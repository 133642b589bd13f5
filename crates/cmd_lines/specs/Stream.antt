-- What is said to the lines of a stream, and where it ended early.
use Rattle.std.specs.Prelude.{◌≡◌, ℕ, List, [], ◌∷◌, ◌++◌, Option, ◌⊎◌}
use Rattle.std.specs.Io.KnownBytes.{Consumes, Appends, IsAtEnd}
use Rattle.text.specs.Terms.{BoundedLine, bounded_line}
use Rattle.cmd_options.specs.declared.ended.Outcome.{Outcome}
use Rattle.cmd_options.specs.declared.ended.Outcome.TheVariants.{Accepted, Refused, BadLine, NoMemory, Failed}
use Rattle.cmd_lines.specs.Lines.{AreLines, AreFirstLines}
use Rattle.cmd_options.specs.Terms.{IsCutShort}
use Rattle.cmd_options.specs.declared.ended.Ended.{Ended}
use Rattle.cmd_options.specs.declared.ended.Ended.TheVariants.{Stream}

-- What is said to the lines of a stream, one after another, by one who remembers what came before.

-- the first of two outcomes that isn't that all was accepted
abbrev pub first_fault : Outcome → Outcome → Outcome
first_fault Accepted o = o
first_fault Refused o = Refused
first_fault BadLine o = BadLine
first_fault NoMemory o = NoMemory
first_fault Failed o = Failed

-- what is said to lines, in their order, where to each this may be said, of which no more is read than may be kept. The
-- outcome is that of the first line that isn't accepted
abbrev pub AreTakenBy : {D : Type 0} → (D → BoundedLine → Outcome → D → List ℕ → Type 0) → D → List (List ℕ) → Outcome
    → D → List ℕ → Type 0
AreTakenBy {D} Takes old [] o new said = (o ≡ Accepted) × (new ≡ old) × (said ≡ [])
AreTakenBy {D} Takes old (line ∷ lines) o new said =
    (first : Outcome) × (middle : D) × (more : List ℕ) × (later : Outcome) × (others : List ℕ) ×
    Takes old (bounded_line line) first middle more × AreTakenBy Takes middle lines later new others
    × (o ≡ first_fault first later) × (said ≡ more ++ others)

-- a reader is read to its end, and what is said to its lines is written behind what a writer held
pub record TakesStream {D : Type 0} (Takes : D → BoundedLine → Outcome → D → List ℕ → Type 0) (old new : D)
    (read new_read held new_held : Option (List ℕ)) (o : Outcome) : Type 0 where
  pub text : List ℕ
  pub lines : List (List ℕ)
  pub said : List ℕ
  pub consumed : Consumes read new_read text
  pub whole : IsAtEnd new_read
  pub are_lines : AreLines text lines
  pub taken : AreTakenBy Takes old lines o new said
  pub written : Appends held new_held said

-- The answers to the lines of a stream, one after another.

-- what is said to lines, in their order, where this may be said to each, of which no more is read than may be kept:
-- each answer with its newline. The outcome is that of the first line that isn't accepted
abbrev pub AreAnswered : (Option (List ℕ) → Outcome → List ℕ → Type 0) → List (List ℕ) → Outcome → List ℕ → Type 0
AreAnswered Says [] o text = (o ≡ Accepted) × (text ≡ [])
AreAnswered Says (line ∷ lines) o text =
    (first : Outcome) × (answer : List ℕ) × (later : Outcome) × (answers : List ℕ) ×
    Says (bounded_line line) first answer × AreAnswered Says lines later answers × (o ≡ first_fault first later)
    × (text ≡ answer ++ (10 ∷ answers))

-- a reader is read to its end, and the answers to its lines are written behind what a writer held
pub record AnswersStream (Says : Option (List ℕ) → Outcome → List ℕ → Type 0)
    (read new_read held new_held : Option (List ℕ)) (o : Outcome) : Type 0 where
  pub text : List ℕ
  pub lines : List (List ℕ)
  pub answers : List ℕ
  pub consumed : Consumes read new_read text
  pub whole : IsAtEnd new_read
  pub are_lines : AreLines text lines
  pub answered : AreAnswered Says lines o answers
  pub written : Appends held new_held answers

-- what is said to one line is an answer with its newline, whatever is remembered
abbrev pub SaysAnswer : {D : Type 0} → (BoundedLine → Outcome → List ℕ → Type 0) → D → BoundedLine → Outcome → D
    → List ℕ → Type 0
SaysAnswer {D} Says old line o new said = (answer : List ℕ) × Says line o answer × (said ≡ answer ++ 10 ∷ [])

-- What was said where a command ended early: to the first lines of its input, to each in full.

-- the first lines of what was read are taken one after another, and this is what was said to them
pub record IsSaidToFirst {D : Type 0} (Takes : D → BoundedLine → Outcome → D → List ℕ → Type 0) (old : D)
    (read new_read : Option (List ℕ)) (said : List ℕ) : Type 0 where
  pub lines : List (List ℕ)
  pub outcome : Outcome
  pub new : D
  pub are_first : AreFirstLines read new_read lines
  pub taken : AreTakenBy Takes old lines outcome new said

-- these are the answers to the first lines of what was read
pub record AnswersFirst (Says : BoundedLine → Outcome → List ℕ → Type 0) (read new_read : Option (List ℕ))
    (answers : List ℕ) : Type 0 where
  pub lines : List (List ℕ)
  pub outcome : Outcome
  pub are_first : AreFirstLines read new_read lines
  pub answered : AreAnswered Says lines outcome answers

-- what was said before this ended a command is written; where a stream failed, some of it may not be
abbrev pub WritesFirst : (List ℕ → Type 0) → Option (List ℕ) → Option (List ℕ) → Ended → Type 0
WritesFirst IsSaid held new_held e =
    (said : List ℕ) × IsSaid said × (Appends held new_held said ⊎ ((e ≡ Stream) × IsCutShort said held new_held))

-- how a command that says something to lines ends: all is said; or memory was refused, and what was said before is
-- written; or something failed, and that is written, or cut short
abbrev pub EndsSaying : (Outcome → Type 0) → (List ℕ → Type 0) → Option (List ℕ) → Option (List ℕ) → Outcome → Type 0
EndsSaying SaysAll IsSaid held new_held o = SaysAll o
    ⊎ (((o ≡ NoMemory) × (said : List ℕ) × IsSaid said × Appends held new_held said)
    ⊎ ((o ≡ Failed) × (said : List ℕ) × IsSaid said × (Appends held new_held said ⊎ IsCutShort said held new_held)))
