-- The picture of a table's run, the table that a line asks for, and pictures that go to a stream or are files.
use Rattle.std.specs.Prelude.{◌≡◌, ℕ, List, [], ◌∷◌, codes, decimal, Option, Some, None, Result, Ok, Err, ◌⊎◌, ◌++◌}
use Rattle.std.specs.List.{concat}
use Rattle.std.specs.Io.KnownBytes.{Appends}
use Rattle.machine_text.specs.Terms.{Packed, IsTable, text_of, table_of}
use Rattle.cmd_show.specs.declared.document.TheConstants.{STYLE}
use Rattle.wire.specs.Terms.{grown}
use Rattle.files.specs.Terms.{IsBlank, IsPut, SameFile, Shelf, IsKept, IsToldStill}
use Rattle.text.specs.Terms.{cut_at, BoundedLine}
use Rattle.cert.specs.Terms.{Recorded, record_of}
use Rattle.cert.specs.declared.record.RecordFault.{RecordFault}
use Rattle.cert.specs.declared.record.RecordFault.TheVariants.{TooLong}
use Rattle.cmd_lines.specs.Terms.{table_read, fault_text, IsSaidToFirst, TakesStream}
use Rattle.cmd_options.specs.declared.ended.Outcome.{Outcome}
use Rattle.cmd_options.specs.declared.ended.Outcome.TheVariants.{Accepted, Refused, NoMemory, Failed}
use Rattle.cmd_show.specs.declared.draw.First.{First}
use Rattle.cmd_options.specs.Terms.{ended_text}
use Rattle.cmd_options.specs.declared.ended.Ended.TheVariants.{NoMemory as WantsMemory}

-- The picture of a table's run: a whole SVG document, with the table's text as its title. Which cells and times it shows, and
-- how, is said by no definition: pictures are compared with those of a plain program.

-- the beginning of a document that is so wide and so high, up to its title
unfoldable pub opening : ℕ → ℕ → List ℕ
opening width height = concat (
    codes "<svg xmlns='http://www.w3.org/2000/svg' width='" ∷ decimal width ∷ codes "' height='" ∷ decimal height
    ∷ codes "' viewBox='0 0 " ∷ decimal width ∷ codes " " ∷ decimal height ∷ codes "'>\n<title>" ∷ [])

-- what stands before the rows: the table's text as the title, and the colours
unfoldable pub heading : Packed → ℕ → ℕ → List ℕ
heading t width height = concat (opening width height ∷ text_of t ∷ STYLE.now ∷ [])

-- from its beginning to its end
unfoldable pub document : Packed → ℕ → ℕ → List ℕ → List ℕ
document t width height drawn = concat (heading t width height ∷ drawn ∷ codes "</svg>\n" ∷ [])

pub record IsPictureOf (t : Packed) (text : List ℕ) : Type 0 where
  pub width : ℕ
  pub height : ℕ
  pub drawn : List ℕ
  pub is : text ≡ document t width height drawn

-- A file that is put at a path.

-- these bytes come to stand at a path, and nothing changes at any path of another file
abbrev pub PutsFile : SameFile → List ℕ → List ℕ → Shelf → Shelf → Type 0
PutsFile tells path bytes old new = (begun : Option (List ℕ)) × IsBlank begun
    × IsPut tells path (grown begun bytes) old new

-- The table that a line asks for: the line is a table, or a record of one. Bytes are their ASCII codes: 32 is the space.
abbrev pub table_recorded : Result Recorded RecordFault → Result Packed RecordFault
table_recorded (Ok r) = Ok r.table
table_recorded (Err f) = Err f

-- a text with a space is a record, any other a table
abbrev pub table_cut : Option (List ℕ × List ℕ) → List ℕ → Result Packed RecordFault
table_cut None text = table_read (table_of text)
table_cut (Some parts) text = table_recorded (record_of text)

-- the table that a line asks for, or the fault of its text; of a line that is too long nothing was read
abbrev pub table_asked : BoundedLine → Result Packed RecordFault
table_asked None = Err TooLong
table_asked (Some text) = table_cut (cut_at 32 text) text

-- The one picture that goes to a stream: of the first table that is asked for.

-- what is said to a table, by the one that came first: nothing to that, and that any other is one too many
abbrev pub PicksTable : Packed → Option Packed → Outcome → Option Packed → List ℕ → Type 0
PicksTable t None o new said = (new ≡ Some t) × (o ≡ Accepted) × (said ≡ [])
PicksTable t (Some first) o new said = (new ≡ Some first) × (o ≡ Refused) × (said ≡ codes "refused 306\n")

abbrev pub PicksAsked : Result Packed RecordFault → Option Packed → Outcome → Option Packed → List ℕ → Type 0
PicksAsked (Ok t) old o new said = PicksTable t old o new said
PicksAsked (Err f) old o new said = (new ≡ old) × (o ≡ Refused) × (said ≡ fault_text f ++ 10 ∷ [])

-- what `bb draw` says to a line where the picture goes to standard output
abbrev pub Picks : First → BoundedLine → Outcome → First → List ℕ → Type 0
Picks old line o new said = PicksAsked (table_asked line) old.table o new.table said

-- the picture of the table, if there is one, is written behind what a writer held
abbrev pub WritesPicture : Option Packed → Option (List ℕ) → Option (List ℕ) → Type 0
WritesPicture None held new_held = new_held ≡ held
WritesPicture (Some t) held new_held = (picture : List ℕ) × IsPictureOf t picture × Appends held new_held picture

-- a reader is read to its end; the picture of the first table is written, and what is said to the lines beside it
pub record DrawsFirst (read new_read held new_held said new_said : Option (List ℕ))
    (o : Outcome) : Type 0 where
  pub first : First
  pub takes : TakesStream Picks (record { table = None }) first read new_read said new_said o
  pub writes : WritesPicture first.table held new_held

-- this is what is said to the first lines of what was read
abbrev pub PicksFirst : Option (List ℕ) → Option (List ℕ) → List ℕ → Type 0
PicksFirst read new_read said = IsSaidToFirst Picks (record { table = None }) read new_read said

-- memory was refused: nothing is drawn, and that is said behind what was said to the first lines
pub record DrawsNothing (read new_read held new_held said new_said : Option (List ℕ)) : Type 0 where
  pub lines : List ℕ
  pub picks : PicksFirst read new_read lines
  pub says : Appends said new_said (lines ++ ended_text WantsMemory)
  pub kept : new_held ≡ held

-- how the drawing of one picture ends
abbrev pub EndsPicture : Option (List ℕ) → Option (List ℕ) → Option (List ℕ) → Option (List ℕ)
    → Option (List ℕ) → Option (List ℕ) → Outcome → Type 0
EndsPicture read new_read held new_held said new_said o =
    DrawsFirst read new_read held new_held said new_said o
    ⊎ (((o ≡ NoMemory) × DrawsNothing read new_read held new_held said new_said) ⊎ (o ≡ Failed))

-- Pictures that are files of a folder, one for each table.

-- the path of a picture in a folder
abbrev pub named_path : List ℕ → List ℕ → List ℕ
named_path folder name = folder ++ codes "/" ++ name ++ codes ".svg"

-- that of the picture of a table
abbrev pub picture_path : List ℕ → Packed → List ℕ
picture_path folder t = named_path folder (text_of t)

abbrev pub drawn_text : Packed → List ℕ
drawn_text t = text_of t ++ codes " drawn"

-- the picture of a table comes to stand at its path, and nothing changes at any path of another file
pub record DrawsTable (tells : SameFile) (folder : List ℕ) (t : Packed) (old new : Shelf) : Type 0 where
  pub picture : List ℕ
  pub is : IsPictureOf t picture
  pub put : PutsFile tells (picture_path folder t) picture old new

-- a table is answered once its picture is put there; anything else by its fault, and nothing changes at any path
abbrev pub AnswersAsked : SameFile → List ℕ → Shelf → Result Packed RecordFault → Outcome → Shelf → List ℕ → Type 0
AnswersAsked tells folder old (Ok t) o new answer = DrawsTable tells folder t old new × (o ≡ Accepted)
    × (answer ≡ drawn_text t)
AnswersAsked tells folder old (Err f) o new answer = IsKept old new × (o ≡ Refused) × (answer ≡ fault_text f)

-- what `bb draw --out` says to a line, by where files stand before and then: an answer with its newline
pub record DrawsLine {H : Type 0} (tells : H → SameFile) (holds : H → Shelf) (folder : List ℕ) (old : H)
    (line : BoundedLine) (o : Outcome) (new : H) (said : List ℕ) : Type 0 where
  pub answer : List ℕ
  pub answers : AnswersAsked (tells old) folder (holds old) (table_asked line) o (holds new) answer
  pub still : IsToldStill (tells old) (tells new)
  pub is : said ≡ answer ++ 10 ∷ []

-- a reader is read to its end, and what is said to its lines is written behind what a writer held, as the picture of one
-- table after another is put in the folder; before that nothing changes at any path
pub record DrawsFiles {H : Type 0} (tells : H → SameFile) (holds : H → Shelf) (folder : List ℕ) (host : H)
    (read new_read held new_held : Option (List ℕ)) (o : Outcome) : Type 0 where
  pub first : H
  pub last : H
  pub kept : IsKept (holds host) (holds first)
  pub still : IsToldStill (tells host) (tells first)
  pub draws : TakesStream (DrawsLine tells holds folder) first last read new_read held new_held o

-- so the first lines of what was read are taken, and this is what was said to them
pub record DrawsFirstLines {H : Type 0} (tells : H → SameFile) (holds : H → Shelf) (folder : List ℕ)
    (host : H) (read new_read : Option (List ℕ)) (said : List ℕ) : Type 0 where
  pub first : H
  pub kept : IsKept (holds host) (holds first)
  pub still : IsToldStill (tells host) (tells first)
  pub draws : IsSaidToFirst (DrawsLine tells holds folder) first read new_read said

-- in one folder no two tables have one path
abbrev pub IsOneTableAPath : Type 0
IsOneTableAPath = (folder : List ℕ) → (a b : Packed) → IsTable a → IsTable b
    → picture_path folder a ≡ picture_path folder b → a ≡ b
