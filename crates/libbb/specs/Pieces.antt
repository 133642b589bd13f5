-- A ledger's text that is reported in pieces: what a reader holds of the text that it was fed.
use Rattle.std.specs.Prelude.{◌≡◌, ℕ, ◌⊎◌, List, ◌++◌}
use Rattle.std.specs.Borrow.{full_share}
use Rattle.std.specs.Ptr.{Ptr, lies_at, room_at}
use base.Fml.{Fml, fex}
use Rattle.machine_text.specs.Terms.{Packed, entry_of}
use Rattle.law_tree.specs.Terms.{InOrder}
use Rattle.text.specs.Terms.{HasNoNewline}
use Rattle.ledger.specs.Terms.{HasHeader, HasNoHeader, IsTornHeader, StandsAfter}
use Rattle.ledger.specs.declared.faults.LoadFault.{LoadFault}
use Rattle.ledger.specs.declared.faults.LoadFault.TheVariants.{BadHeader, WrongRoot, NoMemory}
use Rattle.libbb.specs.declared.reader.Behind.{Behind}
use Rattle.libbb.specs.declared.reader.Behind.TheVariants.{Headed, Ended}
use Rattle.libbb.specs.contracts.reader.Reader.{the_row}
use Rattle.libbb.specs.declared.reader.Reader.{Reader}
use Rattle.libbb.specs.declared.reader.Reader.TheVariants.{Begun, Past}

-- it has the header of a root that names its states in order
abbrev pub IsHeadedBy : Packed → List ℕ → Type 0
IsHeadedBy root text = ((rest : List ℕ) × HasHeader text root rest) × ((u : ℕ) × InOrder u (entry_of root))

-- why there is no board of it
abbrev pub HasFault : LoadFault → List ℕ → Type 0
HasFault BadHeader text = IsTornHeader text ⊎ HasNoHeader text
HasFault WrongRoot text = (root : Packed) × (rest : List ℕ) × HasHeader text root rest
    × (((u : ℕ) × InOrder u (entry_of root)) → ⊥)
HasFault NoMemory text = (root : Packed) × (rest : List ℕ) × HasHeader text root rest

-- what it has come to behind its first bytes: it is being loaded, or there is no board of it, whatever follows
abbrev pub IsBehind : List ℕ → Behind → Type 0
IsBehind text (Headed loader) = StandsAfter loader text × IsHeadedBy loader.root text
IsBehind text (Ended fault) = (more : List ℕ) → HasFault fault (text ++ more)

-- the reader was fed this text, in whatever pieces
abbrev pub HasCome : List ℕ → Reader → Type 0
HasCome text (Begun first) = (first ≡ text) × HasNoNewline text
HasCome text (Past behind) = IsBehind text behind

-- at this place of a caller's memory there is room for a reader
abbrev pub reader_room : Ptr → Fml
reader_room place = room_at the_row place

-- at this place lies a reader that was fed this text
abbrev pub reader_at : Ptr → List ℕ → Fml
reader_at place text =
    fex Reader (λ reader. fex (HasCome text reader) (λ come. lies_at the_row full_share place reader))
