-- A ledger's text that is loaded in pieces: what a loader holds of the text after which it stands.
use Rattle.std.specs.Prelude.{◌≡◌, ◌≢◌, ℕ, ◌+◌, ◌≤◌, nat_le, if◌then◌else◌, List, [], ◌++◌, length, take, Option, Some, None, Err, Ok, MatchOption}
use Rattle.machine_text.specs.Terms.{Packed, table_of}
use Rattle.cert.specs.Terms.{record_byte_limit}
use Rattle.text.specs.Terms.{joined, HasNoNewline}
use Rattle.ledger.specs.Limits.{header_byte_limit}
use Rattle.ledger.specs.LedgerText.{header_words, HasHeader, AreTaken, ReadsIn, LoadGives}
use Rattle.ledger.specs.declared.header.Format.{Format}
use Rattle.ledger.specs.declared.loading.Left.{Left}
use Rattle.ledger.specs.declared.faults.LoadFault.TheVariants.{NoMemory}
use Rattle.ledger.specs.declared.body.Body.{Body}
use Rattle.ledger.specs.declared.loading.Stage.{Stage}
use Rattle.ledger.specs.declared.loading.Stage.TheVariants.{Header, Records, Refused}
use Rattle.ledger.specs.declared.loading.FeedStop.{FeedStop}

-- a line of these words and the text of a root
pub record NamesAfter (words line : List ℕ) (root : Packed) : Type 0 where
  pub name : List ℕ
  pub is : line ≡ words ++ name
  pub reads : table_of name ≡ Ok root

-- a line that is the header of a root, in a version
abbrev pub NamesRoot : Format → List ℕ → Packed → Type 0
NamesRoot format line root = NamesAfter (header_words format) line root

-- what is kept of a first line, as far as it has come: no more bytes than show whether it is a header
abbrev pub header_start : List ℕ → List ℕ
header_start line = take header_byte_limit line

-- what is kept of a record's line, as far as it has come: its bytes, or that there are more than a record has
abbrev pub record_start : List ℕ → Option (List ℕ)
record_start line = if nat_le (length line) record_byte_limit then Some line else None

-- a header of the root has come, and lines that were all taken; then comes a line that isn't finished
pub record IsAllTaken (root : Packed) (text : List ℕ) (body : Body) : Type 0 where
  pub behind : List ℕ
  pub header : HasHeader text root behind
  pub lines : List (List ℕ)
  pub line : List ℕ
  pub is : behind ≡ joined lines ++ line
  pub version : header.format ≡ body.board.format
  pub taken : AreTaken header.format root [] lines body.board.records
  pub number : body.number ≡ length lines + 2
  pub before : body.before + length line ≡ length text
  pub unfinished : HasNoNewline line
  pub kept : body.line ≡ record_start line

-- a line wasn't kept: whatever follows, the text is read as the records on the board, and no more of it is kept
pub record IsLeftSo (root : Packed) (text : List ℕ) (body : Body) (left : Left) : Type 0 where
  pub reads : (more : List ℕ) → ReadsIn body.board.format root (text ++ more) body.board.records left
  pub kept : body.line ≡ Some []

abbrev pub IsBodyOf : Packed → List ℕ → Body → Type 0
IsBodyOf root text body = (body.board.root ≡ root)
    × MatchOption body.left (IsAllTaken root text body) (IsLeftSo root text body)

-- the stage that a text has come to: a first line that isn't finished; a header of the root, and what is behind it;
-- or the text, whatever follows, is no ledger of the root
abbrev pub IsStageOf : Packed → List ℕ → Stage → Type 0
IsStageOf root text (Header line) = HasNoNewline text × (line ≡ header_start text)
IsStageOf root text (Records body) = IsBodyOf root text body
IsStageOf root text (Refused fault) = (fault ≢ NoMemory) × ((more : List ℕ) → LoadGives root (text ++ more) (Err fault))

-- a loader: the root that it loads for, how many bytes it was fed, and the stage that they have come to
pub record Loading : Type 0 where
  pub root : Packed
  pub bytes : ℕ
  pub stage : Stage

-- it stands after the text
pub record StandsAfter (l : Loading) (text : List ℕ) : Type 0 where
  pub bytes : l.bytes ≡ length text
  pub stage : IsStageOf l.root text l.stage

-- a loader was fed a piece: after whatever text it stood, it stands after that and the piece
pub record IsFed (old : Loading) (piece : List ℕ) (new : Loading) : Type 0 where
  pub root : new.root ≡ old.root
  pub bytes : new.bytes ≡ old.bytes + length piece
  pub stands : (text : List ℕ) → StandsAfter old text → StandsAfter new (text ++ piece)

-- it was fed the first bytes of a piece alone: memory was refused. With the piece the text has the header of the root
pub record IsStopped (old : Loading) (piece : List ℕ) (stop : FeedStop) (new : Loading) : Type 0 where
  pub within : stop.taken ≤ length piece
  pub fed : IsFed old (take stop.taken piece) new
  pub header : (text : List ℕ) → StandsAfter old text → (rest : List ℕ) × HasHeader (text ++ piece) old.root rest
