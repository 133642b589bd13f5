-- Pictures of runs: the cells that are visited, the lines that are drawn or shown, and their ends.
use Rattle.std.proofs.Common.{◌≡◌, ℕ, ◌+◌, ℤ, ◌≤ℤ◌, Some, ◌⊎◌, inl, inr, sym, subst, arith, List, [], ◌∷◌, Option, ap, ◌∙◌, None, Result, Ok, Err, IfOk, IfErr, IfNone, IfSome, ◌++◌, OnOk, refl, append_assoc, append-nil, codes}
use Rattle.std.proofs.lemmas.Int.{ints, by_lt_z}
use Rattle.std.proofs.KnownBytes.{Appends-trans, Appends-nil}
use Rattle.std.specs.Io.KnownBytes.{Appends}
use Rattle.std.proofs.lemmas.List.{append_cancel_left, append_cancel_right}
use Rattle.machine_text.specs.Terms.{Packed, entry_of, IsTable, text_of, table_of}
use Rattle.machine_text.specs.declared.table.Dir.{Dir}
use Rattle.machine_text.specs.declared.table.Dir.TheVariants.{L, R}
use Rattle.law_turing.specs.Terms.{Machine, Config, after, Beyond, Farthest}
use Rattle.law_turing.proofs.Cycles.{farthest_same, farthest_new}
use Rattle.run.specs.Terms.{RunState, OnRun, TakesStep, StepsTo, IsBetween, RunsTo}
use Rattle.run.specs.declared.runner.Step.{Step}
use Rattle.run.specs.declared.runner.Step.TheVariants.{Went, Halts}
use Rattle.cmd_show.specs.declared.visits.Span.{Span}
use Rattle.cmd_show.specs.Shown.{IsVisited, EndsDrawing, AreWholeLines, EndsInLines, GrowsByLines}
use Rattle.text.specs.Terms.{BoundedLine}
use Rattle.cmd_options.specs.declared.ended.Outcome.{Outcome}
use Rattle.cmd_options.specs.declared.ended.Ended.{Ended}
use Rattle.cmd_lines.proofs.AnsweredPieces.{said_so, ends_saying}
use Rattle.cmd_lines.specs.Terms.{IsSaidToFirst, WritesFirst, AreTakenBy, TakesStream, EndsSaying}
use Rattle.cmd_show.specs.inside.{TakesBy, KeepsLines}
use Rattle.cmd_options.specs.Terms.{EndsTold, PrintsNothing, ended_text, outcome_of}
use Rattle.cmd_options.specs.declared.ended.Outcome.TheVariants.{NoMemory, Failed}
use Rattle.cmd_options.specs.declared.ended.Ended.TheVariants.{NoMemory as WantsMemory, Stream}
use Rattle.cmd_show.specs.Drawn.{DrawsFirst, DrawsNothing, EndsPicture, PicksFirst, picture_path}
use Rattle.machine_text.specs.declared.grammar.TextFault.{TextFault}
use Rattle.machine_text.proofs.RoundTrip.{table_of-text_of}

-- The cells that a run visits, from one time to the next.

-- of two places one is at or beyond the other
beyond_or : (side : Dir) (a b : ℤ) → Beyond side a b ⊎ Beyond side b a
beyond_or L a b = by_lt_z a b (λ less. inr (omega (arith, ints))) (λ more. inl more)
beyond_or R a b = by_lt_z a b (λ less. inl (omega (arith, ints))) (λ more. inr more)

-- one time more, whose head may be farther
farthest_more : (m : Machine) (side : Dir) (i k : ℕ) (b r : ℤ) (c : Config) → Farthest m side i k b → after m k ≡ Some c
    → (Beyond side b c.tape.head → r ≡ b) → (Beyond side c.tape.head b → r ≡ c.tape.head) → Farthest m side i (k + 1) r
farthest_more m side i k b r c f is same farther =
    elim (beyond_or side b c.tape.head) [
      | inl near ↦ subst (Farthest m side i (k + 1)) (sym (same near)) (farthest_same m side i k b c f is near)
      | inr far ↦ subst (Farthest m side i (k + 1)) (sym (farther far)) (farthest_new m side i k b c f is far)
    ]

-- a span reaches a place
pub record Reaches (old new : Span) (x : ℤ) : Type 0 where
  pub first_new : x ≤ℤ old.first → new.first ≡ x
  pub first_same : old.first ≤ℤ x → new.first ≡ old.first
  pub last_new : old.last ≤ℤ x → new.last ≡ x
  pub last_same : x ≤ℤ old.last → new.last ≡ old.last

visited_more : (m : Machine) (first k : ℕ) (c : Config) (cells new : Span) → IsVisited m first k cells → after m (k + 1) ≡ Some c → Reaches cells new c.tape.head → IsVisited m first (k + 1) new
visited_more m first k c cells new v is reaches = record {
  left = farthest_more m R first (k + 1) cells.first new.first c v.left is reaches.first_same reaches.first_new;
  right = farthest_more m L first (k + 1) cells.last new.last c v.right is reaches.last_same reaches.last_new;
}

-- with a step of a runner the span that reaches its head is that of the cells that are visited
pub visited_step : (old new : RunState) (first : ℕ) (cells wider : Span) → TakesStep old new → OnRun new → Reaches cells wider new.config.tape.head
    → IsVisited (entry_of old.table) first old.steps cells → IsVisited (entry_of new.table) first new.steps wider
visited_step old new first cells wider step stands reaches v =
    let here : after (entry_of old.table) new.steps ≡ Some new.config = subst (λ (p : Packed). after (entry_of p) new.steps ≡ Some new.config) step.table stands.at in
    let there : after (entry_of old.table) (old.steps + 1) ≡ Some new.config = subst (λ n. after (entry_of old.table) n ≡ Some new.config) step.steps here in
    subst (λ (p : Packed). IsVisited (entry_of p) first new.steps wider) (sym step.table)
    (subst (λ n. IsVisited (entry_of old.table) first n wider) (sym step.steps) (visited_more (entry_of old.table) first old.steps new.config cells wider v there reaches))

-- a step that was carried out
pub took : (old new : RunState) (step : Step) → StepsTo old step new → step ≡ Went → TakesStep old new
took old new step steps went = subst (λ (s : Step). StepsTo old s new) went steps

-- where a run up to a time stands: on its table's run
pub between : (k : ℕ) (old new : RunState) (step : Step) → RunsTo k old step new → IsBetween k old new
between k old new Went runs = runs.0
between k old new (Halts count) runs = runs.0

-- Lines that are taken by one who keeps some of what he has.
module _ {D K H : Type 0} (keeps : D → K) (changes : D → H) (Takes : K → H → BoundedLine → Outcome → H → List ℕ → Type 0) where
  -- one after another
  lines_taken : (old : D) (lines : List (List ℕ)) (o : Outcome) (new : D) (said : List ℕ) →
      AreTakenBy (TakesBy keeps changes Takes) old lines o new said → AreTakenBy (Takes (keeps old)) (changes old) lines o (changes new) said
  lines_taken old [] o new said so = (so.0, ap changes so.1, so.2)
  lines_taken old (line ∷ lines) o new said (first, middle, more, later, others, (same, takes), so, outcome, text) = (
    first,
    changes middle,
    more,
    later,
    others,
    takes,
    subst (λ (k : K). AreTakenBy (Takes k) (changes middle) lines later (changes new) others) same (lines_taken middle lines later new others so),
    outcome,
    text,
  )

  -- and so those of a stream
  pub stream_taken : (old new : D) (read new_read held new_held : Option (List ℕ)) (o : Outcome) →
      TakesStream (TakesBy keeps changes Takes) old new read new_read held new_held o → TakesStream (Takes (keeps old)) (changes old) (changes new) read new_read held new_held o
  stream_taken old new read new_read held new_held o so = record {
    text = so.text;
    lines = so.lines;
    said = so.said;
    consumed = so.consumed;
    whole = so.whole;
    are_lines = so.are_lines;
    taken = lines_taken old so.lines o new so.said so.taken;
    written = so.written;
  }

  -- or the first lines of it, where that ended early
  pub early_taken : (old : D) (read new_read held new_held : Option (List ℕ)) (e : Ended) → WritesFirst (IsSaidToFirst (TakesBy keeps changes Takes) old read new_read) held new_held e
      → WritesFirst (IsSaidToFirst (Takes (keeps old)) (changes old) read new_read) held new_held e
  early_taken old read new_read held new_held e so =
      said_so (IsSaidToFirst (TakesBy keeps changes Takes) old read new_read) (IsSaidToFirst (Takes (keeps old)) (changes old) read new_read) held new_held e (λ said is. record {
        lines = is.lines;
        outcome = is.outcome;
        new = changes is.new;
        are_first = is.are_first;
        taken = lines_taken old is.lines is.outcome is.new said is.taken;
      }) so

-- What is known of a drawing once what ended its command early is said.

-- memory was refused, and no stream has failed
nothing_drawn : (read new_read held new_held said warned new_said : Option (List ℕ)) (e : Ended) → e ≡ WantsMemory → WritesFirst (PicksFirst read new_read) said warned e → PrintsNothing e held new_held
    → Appends warned new_said (ended_text e) → DrawsNothing read new_read held new_held said new_said
nothing_drawn read new_read held new_held said warned new_said e memory (lines, picks, inl written) (inl kept) told = record {
  lines = lines;
  picks = picks;
  says = Appends-trans said warned new_said lines (ended_text WantsMemory) written (subst (λ (x : Ended). Appends warned new_said (ended_text x)) memory told);
  kept = kept;
}
nothing_drawn read new_read held new_held said warned new_said e memory (lines, picks, inr cut) silent told = absurd (let stream = cut.0 in cc)
nothing_drawn read new_read held new_held said warned new_said e memory (lines, picks, inl written) (inr stream) told = absurd cc

pub told_picture : {A : Type 0} (out : Option A) (read new_read held new_held said warned new_said : Option (List ℕ)) (ended : Result Outcome Ended) (o : Outcome)
    → IfOk ended (λ p. IfNone out (DrawsFirst read new_read held new_held said warned p)) → IfErr ended (λ e. IfNone out (WritesFirst (PicksFirst read new_read) said warned e))
    → IfErr ended (λ e. IfNone out (PrintsNothing e held new_held)) → IfErr ended EndsDrawing → EndsTold ended warned new_said o → IfNone out (EndsPicture read new_read held new_held said new_said o)
told_picture (Some folder) read new_read held new_held said warned new_said ended o draws first silent ends told = tt
told_picture None read new_read held new_held said warned new_said (Ok p) o draws first silent ends (is, same) =
    inl (subst (λ (text : Option (List ℕ)). DrawsFirst read new_read held new_held said text o) (sym same) (subst (λ (how : Outcome). DrawsFirst read new_read held new_held said warned how) (sym is) draws))
told_picture None read new_read held new_held said warned new_said (Err e) o draws first silent ends (inr cut) = inr (inr cut.0)
told_picture None read new_read held new_held said warned new_said (Err e) o draws first silent (inl memory) (inl so) =
    inr (inl (so.0 ∙ ap outcome_of memory, nothing_drawn read new_read held new_held said warned new_said e memory first silent so.1))
told_picture None read new_read held new_held said warned new_said (Err e) o draws first silent (inr (inl stream)) (inl so) = inr (inr (so.0 ∙ ap outcome_of stream))
told_picture None read new_read held new_held said warned new_said (Err e) o draws first silent (inr (inr file)) (inl so) = inr (inr (so.0 ∙ ap outcome_of file))

-- what ends the drawing of lines early ends in want of memory or a failure
either : (ended : Result Outcome Ended) → IfErr ended EndsDrawing → IfErr ended (λ e. (outcome_of e ≡ NoMemory) ⊎ (outcome_of e ≡ Failed))
either (Ok p) ends = tt
either (Err e) (inl memory) = inl (ap outcome_of memory)
either (Err e) (inr (inl stream)) = inr (ap outcome_of stream)
either (Err e) (inr (inr file)) = inr (ap outcome_of file)

pub told_files : {A : Type 0} (out : Option A) (All : A → Outcome → Type 0) (First : A → List ℕ → Type 0) (held new_held : Option (List ℕ)) (ended : Result Outcome Ended) (said new_said : Option (List ℕ)) (o : Outcome)
    → IfOk ended (λ p. IfSome out (λ folder. All folder p)) → IfErr ended (λ e. IfSome out (λ folder. WritesFirst (First folder) held new_held e)) → IfErr ended EndsDrawing → EndsTold ended said new_said o
    → IfSome out (λ folder. EndsSaying (All folder) (First folder) held new_held o)
told_files None All First held new_held ended said new_said o draws first ends told = tt
told_files (Some folder) All First held new_held ended said new_said o draws first ends told = ends_saying (All folder) (First folder) held new_held ended said new_said o draws first (either ended ends) told

-- Whole lines that are gathered and written.
whole_both : (a b : List ℕ) → AreWholeLines a → AreWholeLines b → AreWholeLines (a ++ b)
whole_both a b first (inl none) = subst AreWholeLines (sym (ap (λ t. a ++ t) none ∙ append-nil a)) first
whole_both a b first (inr (front, is)) = inr (a ++ front, ap (λ t. a ++ t) is ∙ sym (append_assoc a front (10 ∷ [])))

-- nothing happens
pub keeps_all : (waits : List ℕ) (held : Option (List ℕ)) → KeepsLines waits held waits held
keeps_all waits held whole = (whole, ([], inl refl, Appends-nil held))

-- and then more
pub keeps_both : (waits : List ℕ) (held : Option (List ℕ)) (mid : List ℕ) (mid_held : Option (List ℕ)) (new : List ℕ) (new_held : Option (List ℕ)) → KeepsLines waits held mid mid_held
    → KeepsLines mid mid_held new new_held → KeepsLines waits held new new_held
keeps_both waits held mid mid_held new new_held first later whole =
    let a = first whole in
    let b = later a.0 in
    (b.0, (a.1.0 ++ b.1.0, whole_both a.1.0 b.1.0 a.1.1 b.1.1, Appends-trans held mid_held new_held a.1.0 b.1.0 a.1.2 b.1.2))

-- a line more waits
pub line_ended : (waits line new : List ℕ) (held : Option (List ℕ)) → new ≡ waits ++ (line ++ 10 ∷ []) → KeepsLines waits held new held
line_ended waits line new held is whole = (subst AreWholeLines (sym is) (whole_both waits (line ++ 10 ∷ []) whole (inr (line, refl))), ([], inl refl, Appends-nil held))

-- how a command ends that has printed them
pub told_lines : (ended : Result Outcome Ended) (held new_held faults new_faults : Option (List ℕ)) (o : Outcome) → IfOk ended (λ o. GrowsByLines held new_held)
    → IfErr ended (λ e. (e ≡ WantsMemory) ⊎ (e ≡ Stream)) → EndsTold ended faults new_faults o → EndsInLines held new_held o
told_lines (Ok x) held new_held faults new_faults o lines err told = inl lines
told_lines (Err e) held new_held faults new_faults o lines (inl none) (inl (is, said)) = inr (inl (is ∙ ap outcome_of none))
told_lines (Err e) held new_held faults new_faults o lines (inr lost) (inl (is, said)) = inr (inr (is ∙ ap outcome_of lost))
told_lines (Err e) held new_held faults new_faults o lines err (inr (is, cut)) = inr (inr is)

-- what holds once a call has come to its end
pub ok_then : {A E : Type 0} (r : Result A E) {P Q : Type 0} → (P → Q) → OnOk r P → OnOk r Q
ok_then (Ok a) f p = f p
ok_then (Err e) f p = tt

-- Paths of pictures: a table is told by its path.
abbrev table_or : Packed → Result Packed TextFault → Packed
table_or other (Ok t) = t
table_or other (Err f) = other

pub one_table : (folder : List ℕ) → (a b : Packed) → IsTable a → IsTable b → picture_path folder a ≡ picture_path folder b → a ≡ b
one_table folder a b first second same =
    let names = append_cancel_right (folder ++ codes "/" ++ text_of a) (folder ++ codes "/" ++ text_of b) (codes ".svg") same in
    let texts : text_of a ≡ text_of b = append_cancel_left (folder ++ codes "/") (text_of a) (text_of b) names in
    let read : Ok a ≡ Ok b = sym (table_of-text_of a first) ∙ ap table_of texts ∙ table_of-text_of b second in
    ap (table_or a) read
