-- What `bb explain` says to a line.
use Rattle.std.specs.Prelude.{◌≡◌, ℕ, List, [], ◌∷◌, ◌++◌, codes, ⊤, ◌≤◌, min, Option, Some, None, Result, Ok, Err, decimal}
use Rattle.std.specs.List.{concat}
use Rattle.text.specs.Terms.{BoundedLine}
use Rattle.cmd_lines.specs.Terms.{Answers, read_line}
use Rattle.cmd_options.specs.declared.ended.Outcome.{Outcome}
use Rattle.cmd_options.specs.declared.ended.Outcome.TheVariants.{Accepted, Refused, BadLine, NoMemory, Failed}
use Rattle.cmd_show.specs.Terms.{AreWholeLines}
use Rattle.machine_text.specs.Terms.{Packed, entry_of, table_of, text_of}
use Rattle.machine_text.specs.declared.grammar.TextFault.{TextFault}
use Rattle.law_turing.specs.Terms.{Machine, Config, after, HaltsWith}
use Rattle.run.specs.Terms.{run_step_limit}
use Rattle.cert.specs.Terms.{Claim, HaltsClaim, NeverClaim, NoClaim, Recorded}
use Rattle.cert.specs.declared.record.RecordFault.{RecordFault}
use Rattle.cmd_explain.specs.declared.seen.Seen.{Seen}
use Rattle.cmd_explain.specs.declared.seen.Seen.TheVariants.{Halts, Goes}

-- What `bb explain` says to a line: the answer of `bb check`, and behind it lines about what has been shown, where the record
-- stands. Which lines these are is said by no definition: they are compared with those of a plain program.

-- what is told behind an answer: whole lines where it accepts, nothing where it refuses
abbrev pub AreToldBehind : Outcome → List ℕ → Type 0
AreToldBehind Accepted lines = AreWholeLines lines
AreToldBehind Refused lines = lines ≡ []
AreToldBehind BadLine lines = ⊥
AreToldBehind NoMemory lines = ⊥
AreToldBehind Failed lines = ⊥

pub record SaysExplained (line : BoundedLine) (o : Outcome) (answer : List ℕ) : Type 0 where
  pub first : List ℕ
  pub lines : List ℕ
  pub answered : Answers (read_line line) o first
  pub told : AreToldBehind o lines
  pub is : answer ≡ first ++ 10 ∷ lines

-- What `bb explain --dot` says to a line: what is refused is answered as `bb check` does, in a comment of Graphviz, and nothing
-- is drawn of it. How automata are drawn is said by no definition: graphs are compared with those of a plain program.
abbrev pub comment : List ℕ → List ℕ
comment text = codes "// " ++ text

-- by the answer of `bb check`
abbrev pub IsDrawn : Outcome → List ℕ → List ℕ → Type 0
IsDrawn Accepted first drawn = ⊤
IsDrawn Refused first drawn = drawn ≡ comment first
IsDrawn BadLine first drawn = ⊥
IsDrawn NoMemory first drawn = ⊥
IsDrawn Failed first drawn = ⊥

pub record SaysDrawn (line : BoundedLine) (o : Outcome) (answer : List ℕ) : Type 0 where
  pub first : List ℕ
  pub answered : Answers (read_line line) o first
  pub drawn : IsDrawn o first answer

-- What `bb explain --run K` says to a line: of a table that nothing is claimed of, how its run goes in K steps, and behind that
-- whole lines; to any other line what `bb explain` says.

-- the run halts within k steps, after so many and with so many ones; or k steps are carried out
abbrev pub IsSeen : Machine → ℕ → Seen → Type 0
IsSeen m k (Halts steps ones) = (steps ≤ k) × HaltsWith m steps ones
IsSeen m k (Goes early cells) = (c : Config) × (after m k ≡ Some c)

-- what `bb check` says to a record that claims this
unfoldable pub seen_text : Seen → List ℕ
seen_text (Halts steps ones) = concat (codes " halts " ∷ decimal steps ∷ codes " ones " ∷ decimal ones ∷ [])
seen_text (Goes early cells) = codes " undecided"

pub record SeesRun (k : ℕ) (p : Packed) (answer : List ℕ) : Type 0 where
  pub seen : Seen
  pub lines : List ℕ
  pub is_seen : IsSeen (entry_of p) k seen
  pub whole : AreWholeLines lines
  pub is : answer ≡ text_of p ++ seen_text seen ++ 10 ∷ lines

abbrev pub table_if : Claim → Packed → Option Packed
table_if (HaltsClaim e) p = None
table_if (NeverClaim r) p = None
table_if NoClaim p = Some p

abbrev pub table_parsed : Result Packed TextFault → Option Packed
table_parsed (Ok p) = Some p
table_parsed (Err f) = None

-- a line that is a table alone
abbrev pub table_alone : BoundedLine → Option Packed
table_alone None = None
table_alone (Some text) = table_parsed (table_of text)

-- the table that is run: that of a record without a certificate, or a table alone
abbrev pub table_run : BoundedLine → Result Recorded RecordFault → Option Packed
table_run line (Ok r) = table_if r.claim r.table
table_run line (Err f) = table_alone line

abbrev pub SeesTable : ℕ → Option Packed → BoundedLine → Outcome → List ℕ → Type 0
SeesTable k None line o answer = SaysExplained line o answer
SeesTable k (Some p) line o answer = (o ≡ Accepted) × SeesRun k p answer

-- in K steps, or as many as a run can make
abbrev pub SaysSeen : ℕ → BoundedLine → Outcome → List ℕ → Type 0
SaysSeen k line o answer = SeesTable (min k run_step_limit) (table_run line (read_line line)) line o answer
