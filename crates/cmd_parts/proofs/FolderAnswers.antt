-- What a ledger or a folder says of a table, by the trunk or by a part that is kept.
use Rattle.std.proofs.Common.{◌≡◌, ℕ, ◌+◌, ◌<◌, ◌≤◌, arith, inl, inr, Option, Some, None, IfOk, Result, Ok, Err, Bool, true, false, sym, ap, ◌∙◌, subst, ◌⊎◌, List, refl, [], ◌∷◌, ◌++◌, append_assoc, append-nil}
use Rattle.std.proofs.lemmas.Bool.{cases_lt}
use Rattle.std.specs.Prelude.{IfSome, codes}
use Rattle.std.specs.Io.KnownBytes.{Appends}
use Rattle.machine_text.specs.Terms.{Packed, IsTable, entry_of, text_of}
use Rattle.machine_text.specs.declared.table.Entry.{Entry}
use Rattle.machine_text.specs.declared.table.Sym.{Sym}
use Rattle.machine_text.specs.declared.table.Sym.TheVariants.{Zero, One}
use Rattle.machine_text.proofs.RoundTrip.{none_beyond}
use Rattle.cmd_parts.specs.Look.{ComesOf, StaysEntry, SaysByFolder, SaysByPart, SaysByBoard, SaysOfLine, SaysWith}
use Rattle.ledger.specs.Terms.{Contents, IsOpenOn, claim_in, same_table}
use Rattle.ledger.specs.declared.loading.Left.{Left}
use Rattle.cmd_ledgers.specs.Terms.{EndsReading, IsLoadedFrom}
use Rattle.cmd_options.specs.declared.ended.Ended.{Ended}
use Rattle.cmd_options.specs.declared.ended.Ended.TheVariants.{BadHeader, WrongRoot}
use Rattle.cmd_options.specs.declared.ended.Outcome.{Outcome}
use Rattle.cmd_options.specs.declared.ended.Stopped.TheVariants.{Ended as EndedBy}
use Rattle.cmd_options.specs.Terms.{ended_line}
use Rattle.cmd_parts.specs.Join.{Findings, IsMetIn, left_line, line_behind, IsMet}
use Rattle.cmd_parts.specs.Settle.{path_within}
use Rattle.cmd_parts.specs.inside.Joining.{IsFound, IsPicked, KeepsPart, LooksIn}
use Rattle.text.specs.Terms.{BoundedLine}
use Rattle.cmd_lines.specs.Terms.{AnswersFirst, IsSaidToFirst, WritesFirst, AreTakenBy, TakesStream, AnswersStream, AreAnswered}
use Rattle.cert.specs.Terms.{Recorded}

-- Tables that have each entry of a root.

-- the entries at a state stay
abbrev pub StaysRow : Packed → Packed → ℕ → Type 0
StaysRow t root q = StaysEntry (entry_of root q Zero) (entry_of t q Zero) × StaysEntry (entry_of root q One) (entry_of t q One)

as_stays : (own other : Option Entry) → StaysEntry own other → (e : Entry) → own ≡ Some e → other ≡ Some e
as_stays None other stays e is = cc
as_stays (Some d) other stays e is = stays ∙ is

entry_stays : (t root : Packed) → (q : ℕ) (s : Sym) → StaysRow t root q → StaysEntry (entry_of root q s) (entry_of t q s)
entry_stays t root q Zero stays = stays.0
entry_stays t root q One stays = stays.1

-- where each row stays, it is one of the root
pub of_rows : (t root : Packed) → t.states ≡ root.states → IsTable root → ((q : ℕ) → q < root.states → StaysRow t root q) → ComesOf t root
of_rows t root states is rows = (
  states,
  record {
    is = λ q s e has. elim (cases_lt q root.states) [
      | inl within ↦ as_stays (entry_of root q s) (entry_of t q s) (entry_stays t root q s (rows q within)) e has
      | inr beyond ↦ let none = none_beyond root is q s beyond in absurd (cc)
    ];
  },
)

-- what holds of the numbers below one, and of that, holds of those below the next
pub rows_more : (P : ℕ → Type 0) (k : ℕ) → ((q : ℕ) → q < k → P q) → P k → (q : ℕ) → q < k + 1 → P q
rows_more P k below at q less = elim (cases_lt q k) [
  | inl within ↦ below q within
  | inr beyond ↦ subst P (sym (omega (arith, less, beyond))) at
]

pub ok_so : {A E : Type 0} {P Q : A → Type 0} (r : Result A E) → ((a : A) → P a → Q a) → IfOk r P → IfOk r Q
ok_so (Ok a) so is = so a is
ok_so (Err e) so is = tt

-- What is found of a part, and what is said of a table by it.

-- a board that is loaded is met, where it has the root and where it hasn't
pub picked_met : (has : Option (List ℕ)) (size : ℕ) (part : Contents) (left : Left) (root : Packed) (found : Option Contents)
    → IsLoadedFrom has size part left → IsPicked part root found → (path : List ℕ) → (wrong : List ℕ) × IsMetIn has size path root found wrong
picked_met has size part left root None loaded picked path =
    (line_behind path (codes "refused 406"), inl (part, left, loaded, (picked, refl)))
picked_met has size part left root (Some counted) loaded picked path =
    (left_line path left, inl (part, left, loaded, (picked.0, picked.1, refl)))

pub picked_root : (part : Contents) (root : Packed) (found : Option Contents) → IsPicked part root found → IfSome found (λ p. p.root ≡ root)
picked_root part root None picked = tt
picked_root part root (Some counted) picked = ap (λ (c : Contents). c.root) picked.0 ∙ picked.1

-- a ledger without a root in order is met
pub refused_met : (has : Option (List ℕ)) (size : ℕ) (root : Packed) (e : Ended) → (e ≡ BadHeader) ⊎ (e ≡ WrongRoot)
    → EndsReading has size (EndedBy e) → (path : List ℕ) → (wrong : List ℕ) × IsMetIn has size path root None wrong
refused_met has size root e which reading path = (line_behind path (ended_line e), inr (e, refl, which, reading, refl))

-- what the part of a root says is said by the folder
pub below : (Finds : Findings) (folder : List ℕ) (trunk : Contents) (t root : Packed) (found : Option Contents) (o : Outcome) (answer : List ℕ)
    → IsOpenOn trunk root → ComesOf t root → IsFound Finds folder root found → SaysByPart found t o answer → SaysByFolder Finds folder trunk t o answer
below Finds folder trunk t root found o answer is_open of_root is says = inr (inl (record {
  root = root;
  is_open = is_open;
  of_root = of_root;
  counted = found;
  wrong = is.0.0;
  met = is.0.1;
  says = says;
}))

-- what an opened ledger has is found
pub part_found : (Finds : Findings) (folder : List ℕ) (root : Packed) (has : Option (List ℕ)) (size : ℕ) → Finds (path_within folder (text_of root)) (Some (has, size))
    → (r : Result (Option Contents) Ended) → IfOk r (λ found. (path : List ℕ) → (wrong : List ℕ) × IsMetIn has size path root found wrong)
    → IfOk r (λ found. IfSome found (λ part. part.root ≡ root)) → IfOk r (IsFound Finds folder root)
part_found Finds folder root has size finds (Ok found) met rooted =
    let m = met (path_within folder (text_of root)) in ((m.0, inr (has, size, finds, m.1)), rooted)
part_found Finds folder root has size finds (Err e) met rooted = tt

pub missing_found : (Finds : Findings) (folder : List ℕ) (root : Packed) → Finds (path_within folder (text_of root)) None → IsFound Finds folder root None
missing_found Finds folder root finds = ((line_behind (path_within folder (text_of root)) (codes "missing"), inl (finds, refl, refl)), tt)

-- Lines that are answered by what is kept from one to the next.

-- what each line keeps, where it is answered so, is kept by all
lines_kept : {D : Type 0} (Takes : D → BoundedLine → Outcome → D → List ℕ → Type 0) (Keeps : D → Type 0) (Says : BoundedLine → Outcome → List ℕ → Type 0)
    → ((old : D) (line : BoundedLine) (o : Outcome) (new : D) (said : List ℕ) → Keeps old → Takes old line o new said → Keeps new × SaysWith Says line o said)
    → (old : D) (lines : List (List ℕ)) (o : Outcome) (new : D) (said : List ℕ) → Keeps old → AreTakenBy Takes old lines o new said → AreAnswered Says lines o said
lines_kept Takes Keeps Says each old [] o new said kept so = (so.0, so.2)
lines_kept Takes Keeps Says each old (line ∷ lines) o new said kept (first, middle, more, later, others, takes, so, outcome, text) =
    let (keeps, (answer, says, is)) = each old _ first middle more kept takes in
    (first, answer, later, others, says, lines_kept Takes Keeps Says each middle lines later new others keeps so, outcome, text ∙ (ap (λ (t : List ℕ). t ++ others) is ∙ append_assoc answer (10 ∷ []) others))

stream_kept : {D : Type 0} (Takes : D → BoundedLine → Outcome → D → List ℕ → Type 0) (Keeps : D → Type 0) (Says : BoundedLine → Outcome → List ℕ → Type 0)
    → ((old : D) (line : BoundedLine) (o : Outcome) (new : D) (said : List ℕ) → Keeps old → Takes old line o new said → Keeps new × SaysWith Says line o said)
    → (old new : D) (read new_read held new_held : Option (List ℕ)) (o : Outcome) → Keeps old → TakesStream Takes old new read new_read held new_held o → AnswersStream Says read new_read held new_held o
stream_kept Takes Keeps Says each old new read new_read held new_held o kept so = record {
  text = so.text;
  lines = so.lines;
  answers = so.said;
  consumed = so.consumed;
  whole = so.whole;
  are_lines = so.are_lines;
  answered = lines_kept Takes Keeps Says each old so.lines o new so.said kept so.taken;
  written = so.written;
}

first_kept : {D : Type 0} (Takes : D → BoundedLine → Outcome → D → List ℕ → Type 0) (Keeps : D → Type 0) (Says : BoundedLine → Outcome → List ℕ → Type 0)
    → ((old : D) (line : BoundedLine) (o : Outcome) (new : D) (said : List ℕ) → Keeps old → Takes old line o new said → Keeps new × SaysWith Says line o said)
    → (old : D) (read new_read : Option (List ℕ)) (said : List ℕ) → Keeps old → IsSaidToFirst Takes old read new_read said → AnswersFirst Says read new_read said
first_kept Takes Keeps Says each old read new_read said kept so = record {
  lines = so.lines;
  outcome = so.outcome;
  are_first = so.are_first;
  answered = lines_kept Takes Keeps Says each old so.lines so.outcome so.new said kept so.taken;
}

-- lines of a ledger, whose board stays
module _ {D : Type 0} (board : D → Contents) (b : Contents) where
  abbrev pub ByLedger : D → BoundedLine → Outcome → D → List ℕ → Type 0
  ByLedger old line o new said = (board new ≡ board old) × SaysWith (SaysOfLine (SaysByBoard (board old))) line o said

  ledger_kept : (old : D) (line : BoundedLine) (o : Outcome) (new : D) (said : List ℕ) → board old ≡ b → ByLedger old line o new said → (board new ≡ b) × SaysWith (SaysOfLine (SaysByBoard b)) line o said
  ledger_kept old line o new said kept takes = (takes.0 ∙ kept, subst (λ (c : Contents). SaysWith (SaysOfLine (SaysByBoard c)) line o said) kept takes.1)

  pub ledger_stream : (old new : D) (read new_read held new_held : Option (List ℕ)) (o : Outcome) → board old ≡ b → TakesStream ByLedger old new read new_read held new_held o
      → AnswersStream (SaysOfLine (SaysByBoard b)) read new_read held new_held o
  ledger_stream = stream_kept ByLedger (λ d. board d ≡ b) (SaysOfLine (SaysByBoard b)) ledger_kept

  pub ledger_first : (old : D) (read new_read : Option (List ℕ)) (said : List ℕ) → board old ≡ b → IsSaidToFirst ByLedger old read new_read said → AnswersFirst (SaysOfLine (SaysByBoard b)) read new_read said
  ledger_first = first_kept ByLedger (λ d. board d ≡ b) (SaysOfLine (SaysByBoard b)) ledger_kept

-- lines of a folder, whose trunk stays, and of which a part may be kept
module _ {D S : Type 0} (parts : D → S) (Finds : S → Findings) (folder : D → List ℕ) (trunk : D → Contents) (part : D → Option Contents) (s : S) (f : List ℕ) (t : Contents) where
  abbrev pub ByFolder : D → BoundedLine → Outcome → D → List ℕ → Type 0
  ByFolder old line o new said = (parts new ≡ parts old) × (folder new ≡ folder old) × (trunk new ≡ trunk old)
      × LooksIn (Finds (parts old)) (folder old) (trunk old) (part old) line o (part new) said

  abbrev KeepsFolder : D → Type 0
  KeepsFolder d = (parts d ≡ s) × (folder d ≡ f) × (trunk d ≡ t) × KeepsPart (Finds s) f (part d)

  folder_kept : (old : D) (line : BoundedLine) (o : Outcome) (new : D) (said : List ℕ) → KeepsFolder old → ByFolder old line o new said → KeepsFolder new × SaysWith (SaysOfLine (SaysByFolder (Finds s) f t)) line o said
  folder_kept old line o new said (ks, kf, kt, kp) (ss, sf, st, looks) =
      let by_s = subst (λ x. LooksIn (Finds x) (folder old) (trunk old) (part old) line o (part new) said) ks looks in
      let by_f = subst (λ x. LooksIn (Finds s) x (trunk old) (part old) line o (part new) said) kf by_s in
      let by_t = subst (λ x. LooksIn (Finds s) f x (part old) line o (part new) said) kt by_f in
      let done = by_t kp in
      ((ss ∙ ks, sf ∙ kf, st ∙ kt, done.0), done.1)

  begins_kept : (old : D) → parts old ≡ s → folder old ≡ f → trunk old ≡ t → part old ≡ None → KeepsFolder old
  begins_kept old is_s is_f is_t none = (is_s, is_f, is_t, subst (KeepsPart (Finds s) f) (sym none) tt)

  pub folder_stream : (old new : D) (read new_read held new_held : Option (List ℕ)) (o : Outcome) → parts old ≡ s → folder old ≡ f → trunk old ≡ t → part old ≡ None
      → TakesStream ByFolder old new read new_read held new_held o → AnswersStream (SaysOfLine (SaysByFolder (Finds s) f t)) read new_read held new_held o
  folder_stream old new read new_read held new_held o is_s is_f is_t none =
      stream_kept ByFolder KeepsFolder (SaysOfLine (SaysByFolder (Finds s) f t)) folder_kept old new read new_read held new_held o (begins_kept old is_s is_f is_t none)

  pub folder_first : (old : D) (read new_read : Option (List ℕ)) (said : List ℕ) → parts old ≡ s → folder old ≡ f → trunk old ≡ t → part old ≡ None
      → IsSaidToFirst ByFolder old read new_read said → AnswersFirst (SaysOfLine (SaysByFolder (Finds s) f t)) read new_read said
  folder_first old read new_read said is_s is_f is_t none = first_kept ByFolder KeepsFolder (SaysOfLine (SaysByFolder (Finds s) f t)) folder_kept old read new_read said (begins_kept old is_s is_f is_t none)

-- a part that was found is the part of its root
pub found_kept : (Finds : Findings) (folder : List ℕ) (root : Packed) (found : Option Contents) → IsFound Finds folder root found → KeepsPart Finds folder found
found_kept Finds folder root None is = tt
found_kept Finds folder root (Some part) is = (is.0.0, subst (λ (r : Packed). IsMet Finds folder r (Some part) is.0.0) (sym is.1) is.0.1)

-- What the first record of a table claims.
pub claim_first : (rs : List Recorded) (r : Recorded) (left : List Recorded) (t : Packed) → rs ≡ r ∷ left → same_table r.table t ≡ true → Some r.claim ≡ claim_in rs t
unfolding claim_in
claim_first rs r left t is same = rw (is, same)

pub claim_later : (rs : List Recorded) (r : Recorded) (left : List Recorded) (t : Packed) → rs ≡ r ∷ left → same_table r.table t ≡ false → claim_in left t ≡ claim_in rs t
unfolding claim_in
claim_later rs r left t is other = rw (is, other)

-- Tables that are printed.
pub appends_none : (held : Option (List ℕ)) → Appends held held []
appends_none None = tt
appends_none (Some text) = sym (append-nil text)
