-- The report of a board as JSON, and the two forms of a report.
use Rattle.std.specs.Prelude.{ℕ, List, [], ◌∷◌, ◌++◌, Option, Some, None, codes, map, Bool, true, false}
use Rattle.serde_json.specs.Data.{Data, null, number, unsigned, string, array, object, member, no_members}
use Rattle.serde_json.specs.View.{items_of}
use Rattle.serde_json.specs.Written.{compact_text}
use Rattle.machine_text.specs.Terms.{Packed, text_of}
use Rattle.cert.specs.Terms.{Recorded}
use Rattle.ledger.specs.declared.counts.Tally.{Tally}
use Rattle.cmd_ledgers.specs.Terms.{IsReportIn, IsTreeReportIn, TellsRadoIn, bytes_of_lines, IsLines}
use Rattle.ledger.specs.declared.loading.Left.{Left}
use Rattle.cmd_json.specs.declared.form.LinesOrJson.{LinesOrJson}
use Rattle.cmd_json.specs.declared.form.LinesOrJson.TheVariants.{Lines, Json}
use Rattle.cmd_json.specs.declared.form.Made.{Made}
use Rattle.cmd_json.specs.declared.form.Made.TheVariants.{Lines as MadeLines, Json as MadeJson}

-- The report of a board as JSON: one object, with no space in its text, and a newline.
abbrev pub count_value : ℕ → Data
count_value n = number (unsigned n)

-- a greatest number, where there is one
abbrev pub greatest_value : Option ℕ → Data
greatest_value None = null
greatest_value (Some k) = count_value k

abbrev pub table_value : Packed → Data
table_value t = string (text_of t)

abbrev pub tables_value : List Packed → Data
tables_value tables = array (items_of (map table_value tables))

-- the members, in the order of the bytes of their names
abbrev pub object_of : Data → List ℕ → Tally → Data → Data → Data → Data
object_of root word tally champions ones_champions holdouts =
    object (
    member (codes "best") (greatest_value tally.best) (
    member (codes "champions") champions (
    member (codes "halting") (count_value tally.halting) (
    member (codes "holdout_tables") holdouts (
    member (codes "holdouts") (count_value tally.holdouts) (
    member (codes "never") (count_value tally.never) (
    member (codes "nodes") (count_value tally.nodes) (
    member (codes "ones") (greatest_value tally.ones) (
    member (codes "ones_champions") ones_champions (
    member (codes "open") (count_value tally.open_count) (
    member (codes "root") root (
    member (codes "status") (string word) no_members))))))))))))

abbrev pub report_value : Packed → List ℕ → Tally → List Packed → List Packed → List Packed → Data
report_value root word tally champions ones_champions holdouts =
    object_of (table_value root) word tally (tables_value champions) (tables_value ones_champions)
    (tables_value holdouts)

-- its text, with no space, and a newline
abbrev pub json_text : Packed → List ℕ → Tally → List Packed → List Packed → List Packed → List ℕ
json_text root word tally champions ones_champions holdouts =
    compact_text (report_value root word tally champions ones_champions holdouts) ++ 10 ∷ []

-- the report, in this wording, of a root and the records held from it; that of a whole tree; and that of the tree of
-- the empty table of n states
abbrev pub IsJsonReport : Packed → List Recorded → List ℕ → Type 0
IsJsonReport root rs text = IsReportIn json_text root rs text

abbrev pub IsTreeJson : Packed → List ℕ → Type 0
IsTreeJson root text = IsTreeReportIn json_text root text

abbrev pub JsonTellsRado : ℕ → List ℕ → Type 0
JsonTellsRado n text = TellsRadoIn json_text n text

-- The two forms of a report.
abbrev pub form_of : Bool → LinesOrJson
form_of true = Json
form_of false = Lines

abbrev pub IsText : LinesOrJson → Packed → List Recorded → Left → List ℕ → Type 0
IsText Lines root rs left text = IsLines root rs left text
IsText Json root rs left text = IsJsonReport root rs text

-- the bytes of a report that is made
abbrev pub bytes_of : Made → List ℕ
bytes_of (MadeLines report) = bytes_of_lines report
bytes_of (MadeJson text) = text.items
