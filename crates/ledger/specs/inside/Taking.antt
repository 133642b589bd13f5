-- For the code: a header, and a line of a ledger's body that ends.
use Rattle.std.specs.Prelude.{◌≡◌, ℕ, List, Option, Some, None, Result, Ok, Err, ◌+◌, ◌≤◌, min, [], ◌∷◌, ◌++◌, length, take}
use Rattle.std.specs.Borrow.{Bor}
use Rattle.machine_text.specs.Terms.{Packed, entry_of}
use Rattle.law_tree.specs.Terms.{InOrder}
use Rattle.ledger.specs.LedgerText.{IsTornHeader, HasHeader, HasNoHeader, LineGives}
use Rattle.ledger.specs.declared.faults.LoadFault.{LoadFault}
use Rattle.ledger.specs.declared.faults.LoadFault.TheVariants.{BadHeader, WrongRoot, NoMemory}
use Rattle.ledger.specs.Loading.{IsBodyOf, IsStageOf}
use Rattle.ledger.specs.declared.loading.Left.TheVariants.{From}
use Rattle.ledger.specs.declared.loading.Unkept.{Unkept}
use Rattle.ledger.specs.declared.body.Body.{Body}
use Rattle.ledger.specs.declared.loading.Stage.{Stage}

-- For the code: the header of a ledger's text.

-- which root a text names, and what stands behind its header
abbrev pub HeaderGives : List ℕ → Result (Option (Packed × Bor (List ℕ))) LoadFault → Type 0
HeaderGives text (Ok None) = IsTornHeader text
HeaderGives text (Ok (Some found)) = HasHeader text found.0 found.1.now
HeaderGives text (Err BadHeader) = HasNoHeader text
HeaderGives text (Err WrongRoot) = ⊥
HeaderGives text (Err NoMemory) = ⊥

-- the root, where it names its states in order
abbrev pub OrderGives : Packed → Result (Option Packed) LoadFault → Type 0
OrderGives root (Ok None) = ⊥
OrderGives root (Ok (Some named)) = (named ≡ root) × ((u : ℕ) × InOrder u (entry_of root))
OrderGives root (Err BadHeader) = ⊥
OrderGives root (Err WrongRoot) = ((u : ℕ) × InOrder u (entry_of root)) → ⊥
OrderGives root (Err NoMemory) = ⊥

-- For the code: a line of a ledger's body that ends.

-- how a body goes on behind a line that was taken, or wasn't for a reason; the next line has so many bytes before it
abbrev pub GoesBehind : Body → Option Unkept → ℕ → Body → Type 0
GoesBehind old None after new = (new.number ≡ min (old.number + 1) 18446744073709551615) × (new.before ≡ after)
    × (new.left ≡ None)
GoesBehind old (Some why) after new = new.left ≡ Some (From old.number old.before why)

-- a line was offered to a body of which no line wasn't kept
pub record LineTaken (old : Body) (line : List ℕ) (after : ℕ) (new : Body) : Type 0 where
  pub why : Option Unkept
  pub gives : LineGives old.board.format old.board.root old.board.records line why new.board.records
  pub root : new.board.root ≡ old.board.root
  pub format : new.board.format ≡ old.board.format
  pub goes_on : GoesBehind old why after new
  pub empty : new.line ≡ Some []

-- what more a text has, a body or a stage has come to
abbrev pub BodyGrows : Body → List ℕ → Body → Type 0
BodyGrows old more new = (root : Packed) (text : List ℕ) → IsBodyOf root text old → IsBodyOf root (text ++ more) new

abbrev pub StageGrows : Packed → Stage → List ℕ → Stage → Type 0
StageGrows root old more new = (text : List ℕ) → IsStageOf root text old → IsStageOf root (text ++ more) new

-- a line that ends, so many bytes of the text up to its newline
abbrev pub BodyEnds : Body → List ℕ → ℕ → Body → Type 0
BodyEnds old part after new = (root : Packed) (text : List ℕ) → length text + length part + 1 ≡ after
    → IsBodyOf root text old
    → IsBodyOf root (text ++ (part ++ (10 ∷ []))) new

abbrev pub StageEnds : Packed → Stage → List ℕ → ℕ → Stage → Type 0
StageEnds root old part after new = (text : List ℕ) → length text + length part + 1 ≡ after → IsStageOf root text old
    → IsStageOf root (text ++ (part ++ (10 ∷ []))) new

-- the text has a header of the root
abbrev pub IsHeaded : Packed → List ℕ → Type 0
IsHeaded root text = (rest : List ℕ) × HasHeader text root rest

-- memory was refused when a line ended: so many bytes of its last part were taken
pub record BodyStops (old : Body) (part : List ℕ) (taken : ℕ) (new : Body) : Type 0 where
  pub within : taken ≤ length part
  pub grows : BodyGrows old (take taken part) new
  pub headed : (root : Packed) (text : List ℕ) → IsBodyOf root text old → IsHeaded root text

pub record StageStops (root : Packed) (old : Stage) (part : List ℕ) (taken : ℕ) (new : Stage) : Type 0 where
  pub within : taken ≤ length part
  pub grows : StageGrows root old (take taken part) new
  pub headed : (text : List ℕ) → IsStageOf root text old → IsHeaded root (text ++ (part ++ (10 ∷ [])))
