-- The lines of a text, and lines that are taken one after another.
use Rattle.std.specs.Prelude.{◌≡◌, ◌≢◌, ◌⊎◌, ℕ, List, [], ◌∷◌, ◌++◌, Option, ⊤, ◌≤◌, length, Some, None}
use Rattle.std.specs.Io.KnownBytes.{Consumes, IsAtEnd}
use Rattle.std.specs.Borrow.{Bor}
use Rattle.text.specs.Terms.{HasNoNewline, BeginsWithLine, joined, BoundedLine, bounded_line}
use Rattle.cmd_options.specs.declared.ended.Ended.{Ended}
use Rattle.cmd_options.specs.declared.ended.Ended.TheVariants.{NoMemory as WantsMemory}
use Rattle.cmd_options.specs.declared.ended.Stopped.{Stopped}
use Rattle.cmd_options.specs.declared.ended.Stopped.TheVariants.{Failed, Ended as EndedBy}

-- The lines of a text.

-- what stands before each newline, and what stands behind the last one, where that is something
abbrev pub AreLines : List ℕ → List (List ℕ) → Type 0
AreLines text [] = text ≡ []
AreLines text (line ∷ lines) =
    ((rest : List ℕ) × BeginsWithLine text line rest × AreLines rest lines)
    ⊎ ((text ≡ line) × (line ≢ []) × HasNoNewline line × (lines ≡ []))

-- each of these is one line
abbrev pub AreOneLineEach : List (List ℕ) → Type 0
AreOneLineEach [] = ⊤
AreOneLineEach (line ∷ lines) = HasNoNewline line × AreOneLineEach lines

-- a text begins with these lines, of which each has its newline
abbrev pub BeginsWithLines : List ℕ → List (List ℕ) → Type 0
BeginsWithLines text lines = (rest : List ℕ) × AreOneLineEach lines × (text ≡ joined lines ++ rest)

-- the first lines of what was read: of each its newline was read too; or they are all, and nothing is left to read
pub record AreFirstLines (read new_read : Option (List ℕ)) (lines : List (List ℕ)) : Type 0 where
  pub text : List ℕ
  pub consumed : Consumes read new_read text
  pub first : BeginsWithLines text lines ⊎ (IsAtEnd new_read × AreLines text lines)

-- Lines that are taken one after another, by one who remembers what came before.

-- a line that is lent, or none
abbrev pub lent : Option (Bor (List ℕ)) → BoundedLine
lent None = None
lent (Some line) = Some line.now

-- lines are taken in their order, and of each no more is read than may be kept
abbrev pub AreTakenInTurn : {D : Type 0} → (D → BoundedLine → D → Type 0) → D → List (List ℕ) → D → Type 0
AreTakenInTurn {D} Takes old [] new = new ≡ old
AreTakenInTurn {D} Takes old (line ∷ lines) new = (middle : D) × Takes old (bounded_line line) middle
    × AreTakenInTurn Takes middle lines new

-- of a text the whole lines are taken, and what stands behind them is kept
pub record HasTakenLines {D : Type 0} (Takes : D → BoundedLine → D → Type 0) (start : D) (text : List ℕ)
    (begun : BoundedLine) (now : D) : Type 0 where
  pub lines : List (List ℕ)
  pub last : List ℕ
  pub are_whole : AreOneLineEach lines
  pub one_line : HasNoNewline last
  pub is : text ≡ joined lines ++ last
  pub kept : begun ≡ bounded_line last
  pub taken : AreTakenInTurn Takes start lines now

-- whatever was taken of a text before, it is so of the text with a piece more
abbrev pub TakesMore : {D : Type 0} → (D → BoundedLine → D → Type 0) → List ℕ → BoundedLine → D → BoundedLine → D
    → Type 0
TakesMore {D} Takes piece begun old new_begun new = (start : D) → (text : List ℕ)
    → HasTakenLines Takes start text begun old → HasTakenLines Takes start (text ++ piece) new_begun new

-- where the taking ended early: of a text the first lines were taken, and what is remembered is what was then, or what the
-- line that ended it left of that
pub record HasTakenFirst {D : Type 0} (Takes : D → BoundedLine → D → Type 0) (Leaves : D → D → Type 0) (start : D)
    (text : List ℕ) (now : D) : Type 0 where
  pub lines : List (List ℕ)
  pub begins : BeginsWithLines text lines
  pub last : D
  pub taken : AreTakenInTurn Takes start lines last
  pub left : (now ≡ last) ⊎ Leaves last now

-- whatever was taken of a text before, of the text with a piece more the first lines are taken
abbrev pub TakesFirst : {D : Type 0} → (D → BoundedLine → D → Type 0) → (D → D → Type 0) → List ℕ → BoundedLine → D → D
    → Type 0
TakesFirst {D} Takes Leaves piece begun old new = (start : D) → (text : List ℕ)
    → HasTakenLines Takes start text begun old → HasTakenFirst Takes Leaves start (text ++ piece) new

-- this text was read, and that is all: so many bytes, or all that the reader has
pub record IsReadWhole (read : Option (List ℕ)) (limit : ℕ) (text : List ℕ) (new_read : Option (List ℕ)) : Type 0 where
  pub consumed : Consumes read new_read text
  pub within : length text ≤ limit
  pub whole : (length text ≡ limit) ⊎ IsAtEnd new_read

-- what ends the taking: the taker, or refused memory
abbrev pub StopsTaking : (Ended → Type 0) → Ended → Type 0
StopsTaking Ends e = (e ≡ WantsMemory) ⊎ Ends e

-- or a read that failed
abbrev pub StopsTakingFrom : (Ended → Type 0) → Stopped → Type 0
StopsTakingFrom Ends (Failed fault) = Unit {0}
StopsTakingFrom Ends (EndedBy e) = StopsTaking Ends e
