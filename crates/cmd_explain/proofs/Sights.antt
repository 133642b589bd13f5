-- What is seen of a run, and what is said of it to one line after another.
use Rattle.std.proofs.Common.{◌≡◌, ℕ, suc, ◌+◌, ◌≤◌, Some, sym, ◌∙◌, ap, subst, arith, min, List, [], ◌∷◌, ◌++◌, Option, None, Result, inr, refl, append_assoc}
use Rattle.machine_text.specs.Terms.{Packed, entry_of, text_of}
use Rattle.law_turing.specs.Terms.{Machine, Config, after, HaltsAt, HaltsWith, score_of, score_at, score_where}
use Rattle.law_turing.proofs.RunLaws.{halts_with}
use Rattle.run.specs.Terms.{RunState, OnRun, IsBetween, RunsTo, run_step_limit}
use Rattle.run.specs.declared.runner.Step.{Step}
use Rattle.run.specs.declared.runner.Step.TheVariants.{Went, Halts}
use Rattle.cert.specs.Terms.{Recorded}
use Rattle.cert.specs.declared.record.RecordFault.{RecordFault}
use Rattle.cmd_lines.specs.Terms.{read_line, AnswersFirst, IsSaidToFirst, WritesFirst, AreTakenBy, TakesStream, AnswersStream, SaysAnswer}
use Rattle.cmd_options.specs.declared.ended.Outcome.{Outcome}
use Rattle.cmd_options.specs.declared.ended.Outcome.TheVariants.{Accepted}
use Rattle.cmd_explain.specs.Explained.{SaysExplained, IsSeen, SaysSeen, SeesRun, SeesTable, seen_text, table_run}
use Rattle.cmd_explain.specs.declared.seen.Seen.{Seen}
use Rattle.cmd_options.specs.declared.ended.Ended.{Ended}
use Rattle.cmd_lines.proofs.AnsweredPieces.{said_so}
use Rattle.cmd_lines.proofs.AnsweredLines.{first_answered, stream_answered}
use Rattle.cmd_explain.specs.inside.{KeepsSteps}

-- What is seen of a run: its score where it halts, and where it stands else.

-- a run that halts where it stands has these ones then
pub halts_seen : (r : RunState) (count ones : ℕ) → OnRun r → HaltsAt (entry_of r.table) count → count ≡ r.steps + 1 → ones ≡ score_of r.config → HaltsWith (entry_of r.table) count ones
halts_seen r count ones stands halts last is =
    let m : Machine = entry_of r.table in
    let next_time : count ≡ suc r.steps = omega arith in
    let score : score_at m count ≡ ones = ap (score_at m) next_time ∙ ap score_where stands.at ∙ sym is in
    subst (HaltsWith m count) score (halts_with m count halts)

-- a run that halts, where it stands then
pub record StandsOver (k count : ℕ) (old new : RunState) : Type 0 where
  pub halts : HaltsAt (entry_of new.table) count
  pub last : count ≡ new.steps + 1
  pub within : count ≤ k
  pub table : new.table ≡ old.table

pub ran_out : (k count : ℕ) (old new : RunState) (step : Step) → RunsTo k old step new → step ≡ Halts count → StandsOver k count old new
ran_out k count old new step runs is =
    let over = subst (λ (s : Step). RunsTo k old s new) is runs in
    record {
      halts = subst (λ (p : Packed). HaltsAt (entry_of p) count) (sym over.0.table) over.1.halts;
      last = over.1.last;
      within = over.2;
      table = over.0.table;
    }

-- and one that doesn't
pub ran_on : (k : ℕ) (old new : RunState) (step : Step) → RunsTo k old step new → step ≡ Went → IsBetween k old new × (new.steps ≡ k)
ran_on k old new step runs is = subst (λ (s : Step). RunsTo k old s new) is runs

-- so the run of the table comes to this time
pub goes_on : (k : ℕ) (old new : RunState) (step : Step) → RunsTo k old step new → step ≡ Went → (c : Config) × (after (entry_of old.table) k ≡ Some c)
goes_on k old new step runs is =
    let went = ran_on k old new step runs is in
    let there : after (entry_of old.table) new.steps ≡ Some new.config = subst (λ (p : Packed). after (entry_of p) new.steps ≡ Some new.config) went.0.table went.0.stands.at in
    (new.config, subst (λ n. after (entry_of old.table) n ≡ Some new.config) went.1 there)

-- What is said to a line where tables are run.

-- a table that is found in it is run
pub said_run : (k : ℕ) (line : Option (List ℕ)) (read : Result Recorded RecordFault) (found : Option Packed) (p : Packed) (answer : List ℕ) →
    read ≡ read_line line → found ≡ table_run line read → found ≡ Some p → SeesRun (min k run_step_limit) p answer → SaysSeen k line Accepted answer
said_run k line read found p answer same is some run =
    subst (λ (o : Option Packed). SeesTable (min k run_step_limit) o line Accepted answer) (sym some ∙ is ∙ ap (table_run line) same) (refl, run)

-- any other is explained
pub said_else : (k : ℕ) (line : Option (List ℕ)) (read : Result Recorded RecordFault) (found : Option Packed) (o : Outcome) (answer : List ℕ) →
    read ≡ read_line line → found ≡ table_run line read → found ≡ None → SaysExplained line o answer → SaysSeen k line o answer
said_else k line read found o answer same is none says =
    subst (λ (t : Option Packed). SeesTable (min k run_step_limit) t line o answer) (sym none ∙ is ∙ ap (table_run line) same) says

pieces : (a t v told : List ℕ) → ((((a ++ t) ++ v) ++ 10 ∷ []) ++ told) ++ 10 ∷ [] ≡ a ++ ((t ++ v) ++ 10 ∷ (told ++ 10 ∷ []))
pieces a t v told =
    let rest : List ℕ = told ++ 10 ∷ [] in
    append_assoc (((a ++ t) ++ v) ++ 10 ∷ []) told (10 ∷ []) ∙ append_assoc ((a ++ t) ++ v) (10 ∷ []) rest
    ∙ ap (λ (x : List ℕ). x ++ 10 ∷ rest) (append_assoc a t v) ∙ append_assoc a (t ++ v) (10 ∷ rest)

-- the line of a table and what is seen of it, and behind that some lines
pub run_said : (k : ℕ) (p : Packed) (seen : Seen) (told a b c d : List ℕ) → IsSeen (entry_of p) k seen → b ≡ ((a ++ text_of p) ++ seen_text seen) ++ 10 ∷ [] → c ≡ b ++ told → d ≡ c ++ 10 ∷ []
    → (answer : List ℕ) × SeesRun k p answer × (d ≡ a ++ answer)
run_said k p seen told a b c d is_seen b_is c_is d_is = (
  (text_of p ++ seen_text seen) ++ 10 ∷ (told ++ 10 ∷ []),
  record {
    seen = seen;
    lines = told ++ 10 ∷ [];
    is_seen = is_seen;
    whole = inr (told, refl);
    is = refl;
  },
  d_is ∙ (ap (λ (t : List ℕ). t ++ 10 ∷ []) (c_is ∙ ap (λ (t : List ℕ). t ++ told) b_is) ∙ pieces a (text_of p) (seen_text seen) told),
)

-- Lines that are answered by one who keeps how many steps are seen.
module _ {D : Type 0} (steps : D → ℕ) where
  lines_kept : (old : D) (lines : List (List ℕ)) (o : Outcome) (new : D) (said : List ℕ) → AreTakenBy (KeepsSteps steps) old lines o new said
      → AreTakenBy (SaysAnswer (SaysSeen (steps old))) old lines o new said
  lines_kept old [] o new said so = so
  lines_kept old (line ∷ lines) o new said (first, middle, more, later, others, (same, answer, says, is), so, outcome, text) = (
    first,
    middle,
    more,
    later,
    others,
    (answer, says, is),
    subst (λ (k : ℕ). AreTakenBy (SaysAnswer (SaysSeen k)) middle lines later new others) same (lines_kept middle lines later new others so),
    outcome,
    text,
  )

  pub stream_kept : (old new : D) (read new_read held new_held : Option (List ℕ)) (o : Outcome) → TakesStream (KeepsSteps steps) old new read new_read held new_held o
      → AnswersStream (SaysSeen (steps old)) read new_read held new_held o
  stream_kept old new read new_read held new_held o so =
      stream_answered (SaysSeen (steps old)) old new read new_read held new_held o (record {
        text = so.text;
        lines = so.lines;
        said = so.said;
        consumed = so.consumed;
        whole = so.whole;
        are_lines = so.are_lines;
        taken = lines_kept old so.lines o new so.said so.taken;
        written = so.written;
      })

  pub early_kept : (old : D) (read new_read held new_held : Option (List ℕ)) (e : Ended) → WritesFirst (IsSaidToFirst (KeepsSteps steps) old read new_read) held new_held e
      → WritesFirst (AnswersFirst (SaysSeen (steps old)) read new_read) held new_held e
  early_kept old read new_read held new_held e so =
      said_so (IsSaidToFirst (KeepsSteps steps) old read new_read) (AnswersFirst (SaysSeen (steps old)) read new_read) held new_held e (λ said is. first_answered (SaysSeen (steps old)) old read new_read said (record {
        lines = is.lines;
        outcome = is.outcome;
        new = is.new;
        are_first = is.are_first;
        taken = lines_kept old is.lines is.outcome is.new said is.taken;
      })) so
