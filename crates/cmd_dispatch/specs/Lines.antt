-- How a command comes to its end, and commands that go by lines.
use Rattle.std.specs.Prelude.{◌≡◌, ◌⊎◌, ℕ, List, Option, Result, Ok, Err, Bool, true, false, Some, None, IfNone, IfSome}
use Rattle.files.specs.Terms.{Shelf, SameFile}
use Rattle.cmd_options.specs.Terms.{EndsTold}
use Rattle.cmd_options.specs.declared.ended.Ended.{Ended}
use Rattle.cmd_options.specs.declared.ended.Ended.TheVariants.{Ledger, NoMemory, Stream}
use Rattle.cmd_options.specs.declared.ended.Outcome.{Outcome}
use Rattle.cmd_options.specs.declared.ended.Outcome.TheVariants.{Failed, Accepted}
use Rattle.cmd_lines.specs.Terms.{EndsSaying, WritesFirst, AnswersFirst, AnswersStream, SaysOfRecord, SaysOfTable, ListsFirst, ListsTables}
use Rattle.cmd_dispatch.specs.declared.host.Host.{Host}
use Rattle.machine_text.specs.Terms.{Packed}
use Rattle.cert.specs.Terms.{Recorded}
use Rattle.cmd_options.specs.declared.options.Drawing.{Drawing}
use Rattle.cmd_options.specs.declared.options.Deciding.{Deciding}
use Rattle.cmd_options.specs.declared.options.Explaining.{Explaining}
use Rattle.cmd_options.specs.declared.options.Listing.{Listing}
use Rattle.cmd_options.specs.declared.options.Search.{Search}
use Rattle.cmd_lines.specs.declared.decide.TableText.{TableText}
use Rattle.cmd_lines.specs.declared.decide.TableText.TheVariants.{AsItCame, Standard}
use Rattle.cmd_explain.specs.Terms.{SaysDrawn, SaysExplained, SaysSeen}
use Rattle.cmd_json.specs.Terms.{SaysChecked, SaysDecided, SaysTold, AnswersFirstNumbered, AnswersNumbered}
use Rattle.cmd_show.specs.Terms.{EndsInLines, DrawsFiles, DrawsFirstLines, EndsPicture}
use Rattle.system.specs.declared.progress.CountedDecider.{CountedDecider}

-- How a command that is called comes to its end, by what it reads and says.

-- what is still to be read of the input, before a command and behind it
pub record Input : Type 0 where
  pub read : Option (List ℕ)
  pub new_read : Option (List ℕ)

abbrev pub input_of : {S H R W E : Type 0} → (R → Option (List ℕ)) → Host S H R W E → Host S H R W E → Input
input_of remaining old new = record { read = remaining old.input; new_read = remaining new.input }

-- what was said as answers and as faults, before a command and behind it
pub record Said : Type 0 where
  pub held : Option (List ℕ)
  pub new_held : Option (List ℕ)
  pub faults : Option (List ℕ)
  pub new_faults : Option (List ℕ)

abbrev pub output_of : {S H R W E : Type 0} → (W → Option (List ℕ)) → (E → Option (List ℕ)) → Host S H R W E
    → Host S H R W E → Said
output_of answers faults old new = record {
  held = answers old.answers;
  new_held = answers new.answers;
  faults = faults old.faults;
  new_faults = faults new.faults;
}

-- what is said to all lines that are read, and what may be said to the first of them
abbrev pub ToAll : Type 1
ToAll = Option (List ℕ) → Option (List ℕ) → Option (List ℕ) → Option (List ℕ) → Outcome → Type 0

abbrev pub ToFirst : Type 1
ToFirst = Option (List ℕ) → Option (List ℕ) → List ℕ → Type 0

-- a command goes by lines; what ends it early is told by who called it
abbrev pub EndsLines : ToAll → ToFirst → Input → Said → Result Outcome Ended → Type 0
EndsLines All First i s (Ok o) = All i.read i.new_read s.held s.new_held o
EndsLines All First i s (Err e) =
    WritesFirst (First i.read i.new_read) s.held s.new_held e × ((e ≡ NoMemory) ⊎ (e ≡ Stream))

-- or by itself
abbrev pub SaysLines : ToAll → ToFirst → Input → Said → Outcome → Type 0
SaysLines All First i s o =
    EndsSaying (All i.read i.new_read s.held s.new_held) (First i.read i.new_read) s.held s.new_held o

abbrev pub TellsLines : ToAll → ToFirst → Input → Said → Result Outcome Ended → Type 0
TellsLines All First i s (Ok o) = SaysLines All First i s o
TellsLines All First i s (Err e) = ⊥

-- nothing was said
abbrev pub IsSilent : Said → Type 0
IsSilent s = (s.new_held ≡ s.held) × (s.new_faults ≡ s.faults)

-- memory was refused before a command began
abbrev pub WantsRoom : Said → Result Outcome Ended → Type 0
WantsRoom s ended = (ended ≡ Err NoMemory) × IsSilent s

-- what a command says at its end, once it is no longer told how far it is; where that can't be said, a stream has failed
abbrev pub EndsLate : (Outcome → Type 0) → Outcome → Type 0
EndsLate Ends last = (o : Outcome) × Ends o × ((last ≡ o) ⊎ (last ≡ Failed))

-- what a command came to, which is told on lines of its own
abbrev pub ToldApart : (Result Outcome Ended → Type 0) → Outcome → Type 0
ToldApart Comes o = (ended : Result Outcome Ended) × (lines new_lines : Option (List ℕ)) × Comes ended
    × EndsTold ended lines new_lines o

-- or behind what stands there
abbrev pub ToldBehind : (Result Outcome Ended → Type 0) → Option (List ℕ) → Option (List ℕ) → Outcome → Type 0
ToldBehind Comes faults new_faults o =
    (ended : Result Outcome Ended) × Comes ended × EndsTold ended faults new_faults o

-- a command by how it ends; what ends it before it begins leaves no answer
abbrev pub Once : (Outcome → Type 0) → Said → Result Outcome Ended → Type 0
Once Ends s (Ok o) = Ends o
Once Ends s (Err e) = s.new_held ≡ s.held

-- and leaves this
abbrev pub OnceLeaving : (Outcome → Type 0) → Type 0 → Said → Result Outcome Ended → Type 0
OnceLeaving Ends Leaves s (Ok o) = Ends o
OnceLeaving Ends Leaves s (Err e) = (s.new_held ≡ s.held) × Leaves

-- and leaves what stands at each path
abbrev pub OnceKept : (Outcome → Type 0) → Shelf → Shelf → Said → Result Outcome Ended → Type 0
OnceKept Ends old new s ended = OnceLeaving Ends (new ≡ old) s ended

-- or, where records that were found can't be saved, ends the command behind its answer
abbrev pub OnceSaved : (Outcome → Type 0) → Said → Result Outcome Ended → Type 0
OnceSaved Ends s (Ok o) = Ends o
OnceSaved Ends s (Err e) = (s.new_held ≡ s.held) ⊎ ((e ≡ Ledger) × ((o : Outcome) × Ends o))

-- a command that always begins
abbrev pub Always : (Outcome → Type 0) → Result Outcome Ended → Type 0
Always Ends (Ok o) = Ends o
Always Ends (Err e) = ⊥

-- Commands that go by lines.

-- `bb check`: whether as JSON, and whether it says why
abbrev pub DoesCheck : Bool → Bool → Input → Said → Result Outcome Ended → Type 0
DoesCheck true why i s ended =
    EndsLines (AnswersNumbered SaysChecked) (AnswersFirstNumbered SaysChecked) i s ended
DoesCheck false true i s ended = EndsLines (AnswersStream SaysOfRecord) (AnswersFirst SaysOfRecord) i s ended
DoesCheck false false i s ended = TellsLines (AnswersStream SaysOfRecord) (AnswersFirst SaysOfRecord) i s ended

-- what is known, and in so many steps at most halting and loops; besides, that a table has no pair that halts
abbrev pub run_alone : Search → ℕ → Search
run_alone asked steps = record {
  known = asked.known;
  steps = steps;
  depth = 0;
  gram = 0;
  far = 0;
  words = 0;
  count = 0;
  rules = 0;
  hard = false;
  long_run = asked.long_run;
}

-- how far `bb decide` searches: as it is asked for, or only as far as a run alone goes
abbrev pub reach_for : Option ℕ → Search → Search
reach_for None asked = asked
reach_for (Some steps) asked = run_alone asked steps

abbrev pub reach_of : Deciding → Search
reach_of d = reach_for d.run d.search

-- what a decider may answer whose tables are counted: what the one that it asks may
abbrev pub answers_counted : {D : Type 0} → (S : Type 0) → (D → Packed → Recorded → Type 0) → CountedDecider D S
    → Packed → Recorded → Type 0
answers_counted S answers asked t r = answers asked.decider.now t r

-- how the tables of answers are printed: as they came where that is asked for
abbrev pub form_asked : Bool → TableText
form_asked true = AsItCame
form_asked false = Standard

-- `bb decide`: whether as JSON, and whether tables are printed as they came
abbrev pub DecidesLines : {D : Type 0} → (D → Packed → Recorded → Type 0) → Bool → Bool → Input → Said
    → Result Outcome Ended → Type 0
DecidesLines answers true keep i s ended =
    EndsLines (AnswersNumbered (SaysDecided answers)) (AnswersFirstNumbered (SaysDecided answers)) i s ended
DecidesLines answers false keep i s ended = TellsLines (AnswersStream (SaysOfTable answers (form_asked keep)))
    (AnswersFirst (SaysOfTable answers (form_asked keep))) i s ended

-- how it ends is said once it is no longer told how far it is
abbrev pub DecidesLate : {D : Type 0} → (D → Packed → Recorded → Type 0) → Bool → Bool → Input → Said
    → Result Outcome Ended → Type 0
DecidesLate answers json keep i s (Ok last) = EndsLate (λ o. DecidesLines answers json keep i s (Ok o)) last
DecidesLate answers json keep i s (Err e) = DecidesLines answers json keep i s (Err e)

-- once there is room for it
abbrev pub DoesDecide : {D : Type 0} → (D → Packed → Recorded → Type 0) → Bool → Bool → Input → Said
    → Result Outcome Ended → Type 0
DoesDecide answers json keep i s ended = WantsRoom s ended ⊎ DecidesLate answers json keep i s ended

-- `bb explain`: whether as JSON, whether as graphs, and in how many steps tables without a certificate are seen, if in any
abbrev pub ExplainsLines : Bool → Bool → Option ℕ → Input → Said → Result Outcome Ended → Type 0
ExplainsLines true dot run i s ended =
    EndsLines (AnswersNumbered SaysTold) (AnswersFirstNumbered SaysTold) i s ended
ExplainsLines false true run i s ended = EndsLines (AnswersStream SaysDrawn) (AnswersFirst SaysDrawn) i s ended
ExplainsLines false false (Some k) i s ended =
    EndsLines (AnswersStream (SaysSeen k)) (AnswersFirst (SaysSeen k)) i s ended
ExplainsLines false false None i s ended =
    TellsLines (AnswersStream SaysExplained) (AnswersFirst SaysExplained) i s ended

abbrev pub DoesExplain : Explaining → Input → Said → Result Outcome Ended → Type 0
DoesExplain e i s ended = ExplainsLines e.json e.dot e.run i s ended

-- `bb show`
abbrev pub DoesShow : Said → Result Outcome Ended → Type 0
DoesShow s ended = Always (EndsInLines s.held s.new_held) ended

-- `bb draw`: the picture of the first table as an answer, and no file changes; or those of all as files of a folder
abbrev pub Draws : {H : Type 0} → (H → SameFile) → (H → Shelf) → Drawing → H → H → Input → Said → Outcome → Type 0
Draws tells holds drawing host new_host i s o =
    IfNone drawing.out (EndsPicture i.read i.new_read s.held s.new_held s.faults s.new_faults o)
    × IfNone drawing.out (new_host ≡ host)
    × IfSome drawing.out (λ folder. SaysLines (DrawsFiles tells holds folder.now host)
    (DrawsFirstLines tells holds folder.now host) i s o)

-- `bb tables`
abbrev pub DoesList : Listing → Input → Said → Result Outcome Ended → Type 0
DoesList listing i s ended = TellsLines
    (λ read new_read held new_held o. (o ≡ Accepted) × ListsTables listing read new_read held new_held)
    (ListsFirst listing) i s ended
