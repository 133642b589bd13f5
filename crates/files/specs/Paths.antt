-- What is known to stand at paths, and of a ledger that is read.
use Rattle.std.specs.Prelude.{◌≡◌, ℕ, Bool, false, List, [], Option, Some, None, ⊤, length}
use Rattle.files.specs.declared.opened.Held.{Held}
use Rattle.files.specs.declared.opened.Held.TheVariants.{Nothing, File}

-- What is known to stand at paths, and how that changes.

-- what is known to stand at a path: nothing is known, or there is no file, or these bytes are its file
pub data Known : Type 0 where
  Unknown : Known
  Missing : Known
  Bytes : List ℕ → Known

-- what a file that is opened there is read by: all of its bytes; there is one
abbrev pub IsOpenedOn : Known → Option (List ℕ) → ℕ → Type 0
IsOpenedOn Unknown has len = ⊤
IsOpenedOn Missing has len = ⊥
IsOpenedOn (Bytes bytes) has len = (has ≡ Some bytes) × (len ≡ length bytes)

-- that there is no file
abbrev pub IsMissing : Known → Type 0
IsMissing Unknown = ⊤
IsMissing Missing = ⊤
IsMissing (Bytes bytes) = ⊥

-- what a ledger there holds, which holds nothing where there is no file
abbrev pub IsLedgerAt : Known → Option (List ℕ) → Type 0
IsLedgerAt Unknown text = ⊤
IsLedgerAt Missing text = text ≡ Some []
IsLedgerAt (Bytes bytes) text = text ≡ Some bytes

-- a file that holds this stands there
abbrev pub IsFileAt : Known → Option (List ℕ) → Type 0
IsFileAt Unknown text = ⊤
IsFileAt Missing text = ⊥
IsFileAt (Bytes bytes) text = text ≡ Some bytes

-- a file that is begun holds nothing
abbrev pub IsBlank : Option (List ℕ) → Type 0
IsBlank None = ⊤
IsBlank (Some bytes) = bytes ≡ []

-- what stands at each path
abbrev pub Shelf : Type 0
Shelf = List ℕ → Known

-- whether two paths may be told to be those of one file
abbrev pub SameFile : Type 1
SameFile = List ℕ → List ℕ → Bool → Type 0

-- what is told of two paths may still be told
abbrev pub IsToldStill : SameFile → SameFile → Type 0
IsToldStill old new = (one other : List ℕ) (told : Bool) → old one other told → new one other told

-- nothing changes at any path
abbrev pub IsKept : Shelf → Shelf → Type 0
IsKept old new = (path : List ℕ) → new path ≡ old path

-- nothing changes at any path of another file
abbrev pub IsKeptBut : SameFile → List ℕ → Shelf → Shelf → Type 0
IsKeptBut tells path old new = (other : List ℕ) → tells path other false → new other ≡ old other

-- this comes to stand at a path, and nothing changes at any path of another file
pub record IsPut (tells : SameFile) (path : List ℕ) (text : Option (List ℕ)) (old new : Shelf) : Type 0 where
  pub at : IsFileAt (new path) text
  pub others : IsKeptBut tells path old new

-- A ledger that is read, whose file need not be there.
abbrev pub held_bytes : {R : Type 0} → (R → Option (List ℕ)) → Held R → Option (List ℕ)
held_bytes remaining Nothing = Some []
held_bytes remaining (File file) = remaining file

-- what it is read by: the bytes of its file, or none where there is none
abbrev pub IsLedgerOn : Known → Option (List ℕ) → ℕ → Type 0
IsLedgerOn Unknown has len = ⊤
IsLedgerOn Missing has len = (has ≡ Some []) × (len ≡ 0)
IsLedgerOn (Bytes bytes) has len = (has ≡ Some bytes) × (len ≡ length bytes)
