-- What a page is made from, how a text stands in HTML, and the page of a report, of records and of a folder.
use Rattle.std.specs.Prelude.{◌≡◌, ◌⊎◌, ℕ, ◌==◌, if◌then◌else◌, List, [], ◌∷◌, flat_map, codes, Option, Some, None, ◌++◌}
use Rattle.std.specs.List.{concat}
use Rattle.std.specs.Io.KnownBytes.{Appends, Consumes, IsAtEnd}
use Rattle.hex.specs.Hex.{encode_lower}
use Rattle.cmd_page.specs.declared.heading.TheConstants.{MADE_BY, MADE_BY_END, ROW, SUM, SUM_END}
use Rattle.cmd_page.specs.declared.heading.LedgerSum.{LedgerSum}
use Rattle.cmd_page.specs.declared.heading.LedgerSum.TheVariants.{NoLedger, Ledger, Folder}
use Rattle.machine_text.specs.Terms.{Packed, text_of}
use Rattle.cert.specs.Terms.{Recorded}
use Rattle.ledger.specs.declared.loading.Left.{Left}
use Rattle.cmd_ledgers.specs.Terms.{IsLines, AreFirstBytes, IsLoadedFrom}
use Rattle.cmd_json.specs.Terms.{IsJsonReport, SaysTold, AreAnsweredBehind}
use Rattle.cmd_page.specs.Census.{Numbers, numbers_of, counts_json}
use Rattle.cmd_page.specs.declared.look.TheConstants.{COUNTS, HEADING, JSON, LINES, LOOK, PAGE_START, REPORT, RECORD_LINES, RECORDS}
use Rattle.cmd_page.specs.declared.picture.TheConstants.{PICTURE}
use Rattle.cmd_page.specs.declared.script.TheConstants.{REPORT_SCRIPT, TOOLS, RECORDS_SCRIPT}
use Rattle.text.specs.Terms.{BoundedLine}
use Rattle.cmd_lines.specs.Terms.{AreLines}
use Rattle.cmd_options.specs.declared.ended.Outcome.{Outcome}
use Rattle.sha2.specs.Sha256.{sha256}
use Rattle.ledger.specs.Terms.{Contents, IsOpenOn, ReadsIn, AreAll}
use Rattle.cmd_parts.specs.Terms.{Findings, TellsAll, path_within}

-- How a text stands in HTML, between tags and within quotes, and how JSON stands within a page. Bytes are their ASCII
-- codes: 34 `"`, 38 `&`, 39 `'`, 60 `<`, 62 `>`.

-- what stands for a byte
unfoldable pub entity : ℕ → List ℕ
entity byte =
    if byte == 34 then codes "&quot;"
    else if byte == 38 then codes "&amp;"
    else if byte == 39 then codes "&#39;"
    else if byte == 60 then codes "&lt;"
    else if byte == 62 then codes "&gt;"
    else byte ∷ []

-- and for a text
abbrev pub escaped : List ℕ → List ℕ
escaped text = flat_map entity text

-- a byte that would end a text: that begins or ends a tag, or ends what is quoted
abbrev pub EndsText : ℕ → Type 0
EndsText byte = (byte ≡ 34) ⊎ ((byte ≡ 39) ⊎ ((byte ≡ 60) ⊎ (byte ≡ 62)))

-- what stands for a byte of JSON: its number, as JSON has it within its texts, where a tag, a comment or an entity could
-- begin
unfoldable pub inner_byte : ℕ → List ℕ
inner_byte byte =
    if byte == 38 then codes "\\u0026"
    else if byte == 60 then codes "\\u003c"
    else byte ∷ []

-- and for a text of it
abbrev pub embedded : List ℕ → List ℕ
embedded json = flat_map inner_byte json

-- What a page is made from, in rows of a table, so that it can be cited.

-- what a page is of: its title, the program's version and the SHA-256 of its bytes, and that of what the page is of
pub record Headed : Type 0 where
  pub title : List ℕ
  pub version : List ℕ
  pub program : Option (List ℕ)
  pub ledgers : LedgerSum

-- that of a ledger with this sum
abbrev pub ledger_heading : List ℕ → List ℕ → Option (List ℕ) → List ℕ → Headed
ledger_heading title version program sum =
    record { title = title; version = version; program = program; ledgers = Ledger sum }

-- a row of a sum, in digits
unfoldable pub sum_html : List ℕ → List ℕ → List ℕ
sum_html name sum = concat (ROW.now ∷ name ∷ SUM.now ∷ encode_lower sum ∷ SUM_END.now ∷ [])

-- the SHA-256 of the program's bytes
unfoldable pub program_html : Option (List ℕ) → List ℕ
program_html None = []
program_html (Some sum) = sum_html (codes "SHA-256 of the program") sum

-- that of a ledger's, or of the list of a folder's ledgers
unfoldable pub ledgers_html : LedgerSum → List ℕ
ledgers_html NoLedger = []
ledgers_html (Ledger sum) = sum_html (codes "SHA-256 of the ledger") sum
ledgers_html (Folder sum) = sum_html (codes "SHA-256 of the list of its ledgers") sum

-- the program's version
unfoldable pub version_html : List ℕ → List ℕ
version_html version = concat (MADE_BY.now ∷ escaped version ∷ MADE_BY_END.now ∷ [])

unfoldable pub origin_html : Headed → List ℕ
origin_html h = concat (version_html h.version ∷ program_html h.program ∷ ledgers_html h.ledgers ∷ [])

-- The page of a report, to the byte: a shell that is the same on each page, about the title, what the page is made from, the
-- report's lines, for a reader without scripts, its JSON, and what is counted of its records. The shell's texts are constants
-- of the code (`look`, `picture`, `script`).

-- what a browser may do for this page: show it and run its script, and ask for nothing
unfoldable pub policy : List ℕ
policy =
    codes "<meta http-equiv='Content-Security-Policy' content=\"default-src 'none';style-src "
    ++ codes "'unsafe-inline';script-src 'unsafe-inline';base-uri 'none';form-action 'none'\">\n"

-- before the title
unfoldable pub front_html : List ℕ
front_html = concat (PAGE_START.now ∷ policy ∷ LOOK.now ∷ PICTURE.now ∷ TOOLS.now ∷ [])

-- the beginning, with the title in the title bar and as the heading
unfoldable pub opening_html : List ℕ → List ℕ
opening_html title = concat (front_html ∷ escaped title ∷ HEADING.now ∷ escaped title ∷ [])

-- what the script reads, the report's JSON and the counts, and the script
unfoldable pub told_html : List ℕ → List ℕ → List ℕ
told_html json counts = concat (JSON.now ∷ embedded json ∷ COUNTS.now ∷ counts ∷ REPORT_SCRIPT.now ∷ [])

unfoldable pub page_html : Headed → List ℕ → List ℕ → List ℕ → List ℕ
page_html heading lines json counts = concat (opening_html heading.title ∷ REPORT.now ∷ origin_html heading
    ∷ LINES.now ∷ escaped lines ∷ told_html json counts ∷ [])

-- a page of a root and the records held from it, under a heading, with these numbers of records
pub record IsPageWith (numbers : Numbers) (heading : Headed) (root : Packed) (rs : List Recorded) (left : Left)
    (text : List ℕ) : Type 0 where
  pub lines : List ℕ
  pub json : List ℕ
  pub are_lines : IsLines root rs left lines
  pub is_json : IsJsonReport root rs json
  pub is : text ≡ page_html heading lines json (counts_json numbers left)

-- the page of a root and the records held from it, under a heading: all that a report tells of them, as lines and as JSON,
-- and the numbers of their kinds, entries and steps
abbrev pub IsPage : Headed → Packed → List Recorded → Left → List ℕ → Type 0
IsPage heading root rs left text = IsPageWith (numbers_of rs) heading root rs left text

-- The page of records: an object of JSON for each line of a stream.

-- what `bb explain --json` says to a line, as it stands within a page
pub record SaysEmbedded (number : ℕ) (line : BoundedLine) (o : Outcome) (text : List ℕ) : Type 0 where
  pub object : List ℕ
  pub says : SaysTold number line o object
  pub is : text ≡ embedded object

-- a page of records has no ledger
abbrev pub records_heading : List ℕ → List ℕ → Option (List ℕ) → Headed
records_heading title version program =
    record { title = title; version = version; program = program; ledgers = NoLedger }

-- before the objects, with what the page is made by
abbrev pub records_head_html : Headed → List ℕ
records_head_html heading = opening_html heading.title ++ RECORDS.now ++ origin_html heading ++ RECORD_LINES.now

abbrev pub records_page_html : Headed → List ℕ → List ℕ
records_page_html heading objects = records_head_html heading ++ objects ++ RECORDS_SCRIPT.now

-- a reader is read to its end, and the page of its lines is written behind what a writer held; the outcome is that of the
-- first line that isn't accepted
pub record WritesRecords (heading : Headed) (read new_read held new_held : Option (List ℕ)) (o : Outcome) : Type 0 where
  pub text : List ℕ
  pub lines : List (List ℕ)
  pub objects : List ℕ
  pub consumed : Consumes read new_read text
  pub whole : IsAtEnd new_read
  pub are_lines : AreLines text lines
  pub answered : AreAnsweredBehind SaysEmbedded 0 lines o objects
  pub written : Appends held new_held (records_page_html heading objects)

-- SHA-256 (FIPS 180-4) of what is read, and lists of sums.

-- the sum of the first bytes of what a reader has, as 32 bytes
pub record IsSumOf (has : Option (List ℕ)) (limit : ℕ) (sum : List ℕ) : Type 0 where
  pub text : List ℕ
  pub first : AreFirstBytes has limit text
  pub is : sum ≡ sha256 text

-- the first bytes of a reader are loaded as a ledger, and this is their sum
pub record IsSummedFrom (has : Option (List ℕ)) (limit : ℕ) (b : Contents) (left : Left) (sum : List ℕ) : Type 0 where
  pub loaded : IsLoadedFrom has limit b left
  pub is : sum ≡ sha256 loaded.text

-- first bytes were read, and what stands behind them is loaded with them, and this is the sum of all
pub record IsSummedBehind (root : Packed) (first : List ℕ) (has : Option (List ℕ)) (limit : ℕ) (b : Contents)
    (left : Left) (sum : List ℕ) : Type 0 where
  pub more : List ℕ
  pub are_first : AreFirstBytes has limit more
  pub reads : ReadsIn b.format root (first ++ more) b.records left
  pub is : sum ≡ sha256 (first ++ more)

-- the line of a file in a list: its sum in digits, two spaces, and its name
abbrev pub line_text : List ℕ → List ℕ → List ℕ
line_text sum name = encode_lower sum ++ codes "  " ++ name ++ 10 ∷ []

-- The page of a folder, and the list of its ledgers, by whose sum it is cited.

-- the line of the ledger that is found at a path, under its name in the folder; none where nothing is found
abbrev pub IsListLine : Findings → List ℕ → List ℕ → List ℕ → Type 0
IsListLine Finds path name line =
    (Finds path None × (line ≡ []))
    ⊎ ((has : Option (List ℕ)) × (size : ℕ) × (sum : List ℕ) × Finds path (Some (has, size)) × IsSumOf has size sum
    × (line ≡ line_text sum (name ++ codes ".ledger")))

-- those of the parts of these roots
abbrev pub AreListLines : Findings → List ℕ → List Packed → List ℕ → Type 0
AreListLines Finds folder [] lines = lines ≡ []
AreListLines Finds folder (root ∷ roots) lines =
    (line : List ℕ) × (more : List ℕ) × IsListLine Finds (path_within folder (text_of root)) (text_of root) line
    × AreListLines Finds folder roots more × (lines ≡ line ++ more)

-- the SHA-256 of the list that `sha256sum *.ledger` prints in a folder: of its parts, in the order of their roots, and then
-- of its trunk
pub record IsListSum (Finds : Findings) (folder : List ℕ) (roots : List Packed) (sum : List ℕ) : Type 0 where
  pub parts : List ℕ
  pub trunk : List ℕ
  pub are_parts : AreListLines Finds folder roots parts
  pub is_trunk : IsListLine Finds (path_within folder (codes "trunk")) (codes "trunk") trunk
  pub is : sum ≡ sha256 (parts ++ trunk)

-- the page of a folder, under a title: of a version of the program with this sum of its bytes
abbrev pub heading_of : List ℕ → List ℕ → Option (List ℕ) → List ℕ → Headed
heading_of title version program sum =
    record { title = title; version = version; program = program; ledgers = Folder sum }

-- of the trunk that a folder holds and of the parts that count the page is printed that one ledger has which holds all of
-- their records, with the sum of the list of its ledgers; what is wrong with them is said
pub record TellsFolder (title version : List ℕ) (program : Option (List ℕ)) (Finds : Findings) (folder : List ℕ)
    (said new_said faults new_faults : Option (List ℕ)) (o : Outcome) : Type 0 where
  pub roots : List Packed
  pub sum : List ℕ
  pub is_sum : IsListSum Finds folder roots sum
  pub tells : TellsAll (IsPage (heading_of title version program sum)) Finds folder None None said new_said faults
      new_faults o
  pub are_open : AreAll (IsOpenOn tells.trunk) roots
