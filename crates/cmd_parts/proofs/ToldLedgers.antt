-- What is told of the ledgers of a stream: of all, or of the first where that ended early.
use Rattle.std.proofs.Common.{◌≡◌, ◌⊎◌, inl, inr, ℕ, Bool, true, false, IfErr, IfOk, List, [], ◌∷◌, ◌++◌, Option, Some, None, Result, Ok, Err, sym, ◌∙◌, ap, subst, refl, append_assoc, append-nil, IsErrAnd, take, drop, take-append-drop}
use Rattle.std.proofs.KnownBytes.{Appends-trans, Appends-nil}
use Rattle.std.specs.Prelude.{codes}
use Rattle.std.specs.Io.KnownBytes.{Appends}
use Rattle.std.specs.List.{Contains}
use Rattle.indexmap.specs.IndexSet.{insert_key}
use Rattle.machine_text.specs.Terms.{Packed, text_of}
use Rattle.cert.specs.Terms.{Recorded}
use Rattle.ledger.specs.Terms.{Contents, IsOpenOn, same_table, AreAll}
use Rattle.ledger.specs.declared.loading.Left.{Left}
use Rattle.totals.specs.Terms.{AddGives, Collected, IsWhole}
use Rattle.totals.proofs.Wholes.{put_last}
use Rattle.cmd_ledgers.specs.Terms.{EndsLedger}
use Rattle.cmd_options.specs.declared.ended.Ended.{Ended}
use Rattle.cmd_options.specs.declared.ended.Ended.TheVariants.{BadHeader, WrongRoot, Stream}
use Rattle.cmd_options.specs.Terms.{PrintsNothing, ended_line}
use Rattle.cmd_options.specs.declared.ended.Outcome.{Outcome}
use Rattle.cmd_parts.specs.Join.{TellsParts, counted_part, is_silent, left_line, line_behind}
use Rattle.cmd_parts.proofs.JoinedParts.{sound_both, sound_first}
use Rattle.cmd_parts.specs.Stream.{AreLedgers, AreLedgersMet, AreMissed, IsLoadedAs, IsLedgerMet, IsMissed, JoinsStream, TellsStream, WarnsOfFirst, name_of, roots_of, SaysMissing, SaysToFirst, SaysToLedgers}
use Rattle.cmd_parts.specs.inside.Joining.{AddsBoard, AddsLedger, AddsPart, BeginsTrunk, Joins, JoinsTo, SaysAdding, SaysMissed, SaysRoot, LedgersAreTaken, TakesLedgers, SaysMissedFirst, TakesFirstLedgers}
use Rattle.cmd_parts.specs.declared.join_stream.Joiner.{Joiner}
use Rattle.cmd_parts.proofs.TakenLedgers.{said_still}

-- What is told of the ledgers that were taken.
loud : (name what : List ℕ) → is_silent (line_behind name what) ≡ false
loud [] what = refl
loud (byte ∷ more) what = refl

-- what is wrong is said, and nothing counts
pub said_so : (Adds : Option Contents → List ℕ → Type 0) (r : Result Bool Ended) (faults new_faults : Option (List ℕ)) (name called what : List ℕ) → name ≡ called
    → Adds None (line_behind called what) → IfOk r (λ sound. (sound ≡ false) × Appends faults new_faults (line_behind name what)) → IfOk r (λ sound. SaysAdding Adds sound faults new_faults)
said_so Adds (Ok sound) faults new_faults name called what is adds h = record {
  counted = None;
  said = line_behind called what;
  adds = adds;
  sound = h.0 ∙ sym (loud called what);
  says = subst (λ (n : List ℕ). Appends faults new_faults (line_behind n what)) is h.1;
}
said_so Adds (Err e) faults new_faults name called what is adds h = tt

-- a part counts
pub counted_so : (part : Contents) (left : Left) (old new : Collected) (came new_came : List Packed) (r : Result Bool Ended) (faults new_faults : Option (List ℕ)) (name : List ℕ) → name ≡ text_of part.root
    → AddGives old part (Ok tt) new → new_came ≡ insert_key same_table came part.root → IfOk r (λ sound. (sound ≡ is_silent (left_line name left)) × Appends faults new_faults (left_line name left))
    → IfOk r (λ sound. SaysAdding (AddsBoard part left old came new new_came) sound faults new_faults)
counted_so part left old new came new_came (Ok sound) faults new_faults name is gives put h = record {
  counted = Some part;
  said = left_line (text_of part.root) left;
  adds = (refl, gives, put, refl);
  sound = h.0 ∙ ap (λ (n : List ℕ). is_silent (left_line n left)) is;
  says = subst (λ (n : List ℕ). Appends faults new_faults (left_line n left)) is h.1;
}
counted_so part left old new came new_came (Err e) faults new_faults name is gives put h = tt

among : (parts : List Contents) (old : Collected) (root : Packed) → IsWhole old parts → Contains old.roots root → Contains (roots_of parts) root
among parts old root whole at = subst (λ (l : List Packed). Contains l root) whole.roots_are at

added : (parts : List Contents) (old : Collected) (root : Packed) → IsWhole old parts → Contains (roots_of parts) root → Contains old.roots root
added parts old root whole at = subst (λ (l : List Packed). Contains l root) (sym whole.roots_are) at

roots_push : (parts : List Contents) (part : Contents) → roots_of parts ++ part.root ∷ [] ≡ roots_of (parts ++ part ∷ [])
roots_push [] part = refl
roots_push (p ∷ parts) part = ap (λ (l : List Packed). p.root ∷ l) (roots_push parts part)

-- one ledger behind the trunk
pub record IsOneMet (trunk : Contents) (parts : List Contents) (number : ℕ) (text : List ℕ) (new : Collected) (new_came : List Packed) (counted : Option Contents) (said : List ℕ) : Type 0 where
  pub trunk_is : new.trunk ≡ trunk
  pub is_whole : IsWhole new (parts ++ counted_part counted)
  pub came : new_came ≡ roots_of (parts ++ counted_part counted)
  pub is_met : IsLedgerMet trunk parts number text counted said

none_counts : (trunk : Contents) (parts : List Contents) (number : ℕ) (text : List ℕ) (old new : Collected) (came new_came : List Packed) (said : List ℕ) → old.trunk ≡ trunk → IsWhole old parts
    → came ≡ roots_of parts → new ≡ old → new_came ≡ came → IsLedgerMet trunk parts number text None said → IsOneMet trunk parts number text new new_came None said
none_counts trunk parts number text old new came new_came said same whole are kept stays met = record {
  trunk_is = ap (λ (w : Collected). w.trunk) kept ∙ same;
  is_whole = subst (λ (l : List Contents). IsWhole new l) (sym (append-nil parts)) (subst (λ (w : Collected). IsWhole w parts) (sym kept) whole);
  came = stays ∙ are ∙ ap roots_of (sym (append-nil parts));
  is_met = met;
}

part_met : (trunk : Contents) (number : ℕ) (text : List ℕ) (old new : Collected) (came new_came : List Packed) (counted : Option Contents) (parts : List Contents) (said : List ℕ) → old.trunk ≡ trunk
    → IsWhole old parts → came ≡ roots_of parts → AddsPart number text old came new new_came counted said → IsOneMet trunk parts number text new new_came counted said
part_met trunk number text old new came new_came (Some part) parts said same whole are (inl (b, left, loaded, (is, gives, put, says))) =
    let fresh : Contains (roots_of parts) b.root → ⊥ = λ at. gives.1 (added parts old b.root whole at) in
    subst (λ (p : Contents). IsOneMet trunk parts number text new new_came (Some p) said) (sym is) (record {
      trunk_is = gives.2 ∙ same;
      is_whole = gives.3 parts whole;
      came = put ∙ ap (λ (l : List Packed). insert_key same_table l b.root) are ∙ put_last (roots_of parts) b.root fresh ∙ roots_push parts b;
      is_met = (left, loaded, subst (λ (t : Contents). IsOpenOn t b.root) same gives.0, fresh, says);
    })
part_met trunk number text old new came new_came (Some part) parts said same whole are (inr (none, kept, stays, refused)) = absurd cc
part_met trunk number text old new came new_came None parts said same whole are (inl (b, left, loaded, (kept, stays, inl (gives, says)))) =
    none_counts trunk parts number text old new came new_came said same whole are kept stays
    (inl (b, left, loaded, inl ((λ opened. gives.0 (subst (λ (t : Contents). IsOpenOn t b.root) (sym same) opened)), says)))
part_met trunk number text old new came new_came None parts said same whole are (inl (b, left, loaded, (kept, stays, inr (gives, says)))) =
    none_counts trunk parts number text old new came new_came said same whole are kept stays
    (inl (b, left, loaded, inr (subst (λ (t : Contents). IsOpenOn t b.root) same gives.0, among parts old b.root whole gives.1, says)))
part_met trunk number text old new came new_came None parts said same whole are (inr (none, kept, stays, refused)) =
    none_counts trunk parts number text old new came new_came said same whole are kept stays (inr refused)

-- what has come of the ledgers behind the trunk
pub record HasMet (trunk : Contents) (parts : List Contents) (number : ℕ) (texts : List (List ℕ)) (old new : Joiner) (said : List ℕ) : Type 0 where
  pub now : Collected
  pub all : List Contents
  pub is_now : new.whole ≡ Some now
  pub trunk_is : now.trunk ≡ trunk
  pub is_whole : IsWhole now all
  pub came : new.came.keys ≡ roots_of all
  pub are_met : AreLedgersMet trunk parts number texts all said
  pub sound : old.is_sound ≡ true → new.is_sound ≡ is_silent said
  pub unsound : old.is_sound ≡ false → new.is_sound ≡ false

pub parts_met : (trunk : Contents) (texts : List (List ℕ)) (old new : Joiner) (was : Collected) (parts : List Contents) (said : List ℕ) → old.whole ≡ Some was → was.trunk ≡ trunk
    → IsWhole was parts → old.came.keys ≡ roots_of parts → LedgersAreTaken Joins old texts new said → HasMet trunk parts old.number texts old new said
parts_met trunk [] old new was parts said is same whole are (kept, none) = record {
  now = was;
  all = parts;
  is_now = ap (λ (j : Joiner). j.whole) kept ∙ is;
  trunk_is = same;
  is_whole = whole;
  came = ap (λ (j : Joiner). j.came.keys) kept ∙ are;
  are_met = (refl, none);
  sound = λ sound. ap (λ (j : Joiner). j.is_sound) kept ∙ sound ∙ sym (ap is_silent none);
  unsound = λ unsound. ap (λ (j : Joiner). j.is_sound) kept ∙ unsound;
}
parts_met trunk (text ∷ texts) old new was parts said is same whole are (middle, first, others, joins, later, all_said) =
    let adds : AddsLedger old was text middle first = subst (λ (w : Option Collected). JoinsTo w old text middle first) is joins in
    let one = part_met trunk old.number text was adds.now old.came.keys middle.came.keys adds.counted parts first same whole are adds.adds in
    let rest = parts_met trunk texts middle new adds.now (parts ++ counted_part adds.counted) others adds.is_now one.trunk_is one.is_whole one.came later in
    record {
      now = rest.now;
      all = rest.all;
      is_now = rest.is_now;
      trunk_is = rest.trunk_is;
      is_whole = rest.is_whole;
      came = rest.came;
      are_met = (
        adds.counted,
        first,
        others,
        one.is_met,
        subst (λ (n : ℕ). AreLedgersMet trunk (parts ++ counted_part adds.counted) n texts rest.all others) adds.number rest.are_met,
        all_said,
      );
      sound = λ sound. sound_first middle.is_sound (is_silent others) new.is_sound first others (adds.sound sound) refl rest.sound rest.unsound ∙ ap is_silent (sym all_said);
      unsound = λ unsound. rest.unsound (adds.unsound unsound);
    }

-- what has come of all ledgers
pub record HasCome (text : List ℕ) (new : Joiner) (whole : Collected) (lines : List ℕ) : Type 0 where
  pub first : List ℕ
  pub others : List (List ℕ)
  pub are_ledgers : AreLedgers text (first ∷ others)
  pub left : Left
  pub reads : IsLoadedAs first whole.trunk left
  pub parts : List Contents
  pub said : List ℕ
  pub are_met : AreLedgersMet whole.trunk [] 2 others parts said
  pub is_whole : IsWhole whole parts
  pub came : new.came.keys ≡ roots_of parts
  pub is : lines ≡ left_line (codes "trunk") left ++ said
  pub sound : new.is_sound ≡ is_silent lines

pub one_at_least : (whole : List (List ℕ)) (last : List ℕ) → [] ≡ whole ++ last ∷ [] → ⊥
one_at_least [] last e = absurd cc
one_at_least (l ∷ whole) last e = absurd cc

some_is : (a b : Collected) → Some a ≡ Some b → a ≡ b
some_is a b e = cc

pub all_come : (ledgers : List (List ℕ)) (text : List ℕ) (old new : Joiner) (whole : Collected) (lines : List ℕ) → AreLedgers text ledgers → LedgersAreTaken Joins old ledgers new lines
    → old.whole ≡ None → old.came.keys ≡ [] → new.whole ≡ Some whole → HasCome text new whole lines
all_come [] text old new whole lines are taken none nothing is = absurd (one_at_least are.whole are.last are.are_all)
all_come (first ∷ others) text old new whole lines are (middle, one, more, joins, later, all_said) none nothing is =
    let begins : BeginsTrunk old first middle one = subst (λ (w : Option Collected). JoinsTo w old first middle one) none joins in
    let met = parts_met begins.trunk others middle new begins.now [] more begins.is_now begins.trunk_is begins.is_whole (begins.none_came nothing) later in
    let now_is : met.now ≡ whole = some_is met.now whole (sym met.is_now ∙ is) in
    let trunk_is : begins.trunk ≡ whole.trunk = sym met.trunk_is ∙ ap (λ (w : Collected). w.trunk) now_is in
    record {
      first = first;
      others = others;
      are_ledgers = are;
      left = begins.left;
      reads = subst (λ (b : Contents). IsLoadedAs first b begins.left) trunk_is begins.loaded;
      parts = met.all;
      said = more;
      are_met = subst (λ (b : Contents). AreLedgersMet b [] 2 others met.all more) trunk_is (subst (λ (n : ℕ). AreLedgersMet begins.trunk [] n others met.all more) begins.number met.are_met);
      is_whole = subst (λ (w : Collected). IsWhole w met.all) now_is met.is_whole;
      came = met.came;
      is = all_said ∙ ap (λ (l : List ℕ). l ++ more) begins.says;
      sound = sound_first middle.is_sound (is_silent more) new.is_sound one more begins.sound refl met.sound met.unsound ∙ ap is_silent (sym all_said);
    }

-- the report of what has come
pub told_so : (IsText : Packed → List Recorded → Left → List ℕ → Type 0) (old new : Joiner) (whole : Collected) (roots : List Packed) (all both : Bool) (r : Result Outcome Ended)
    (read new_read faults mid new_faults said new_said : Option (List ℕ)) → old.whole ≡ None → old.came.keys ≡ [] → TakesLedgers Joins old new read new_read faults mid → new.whole ≡ Some whole
    → AreAll (IsOpenOn whole.trunk) roots → SaysMissed new.came.keys roots all mid new_faults → (new.is_sound ≡ true → both ≡ all) → (new.is_sound ≡ false → both ≡ false)
    → IfOk r (λ o. (parts : List Contents) → IsWhole whole parts → TellsParts IsText whole.trunk parts both said new_said o)
    → IfOk r (TellsStream IsText read new_read said new_said faults new_faults)
told_so IsText old new whole roots all both (Err e) read new_read faults mid new_faults said new_said none nothing stream is are_open missed if_sound neither tells = tt
told_so IsText old new whole roots all both (Ok o) read new_read faults mid new_faults said new_said none nothing stream is are_open missed if_sound neither tells =
    let (ledgers, lines, are, taken, says) = stream.takes in
    let come = all_come ledgers stream.text old new whole lines are taken none nothing is in
    record {
      text = stream.text;
      consumed = stream.consumed;
      whole = stream.whole;
      trunk = whole.trunk;
      parts = come.parts;
      lines = lines ++ missed.lines;
      holds = record {
        first = come.first;
        others = come.others;
        are_ledgers = come.are_ledgers;
        left = come.left;
        reads = come.reads;
        said = come.said;
        are_met = come.are_met;
        roots = roots;
        are_open = are_open;
        missing = missed.lines;
        are_missed = subst (λ (l : List Packed). AreMissed l roots missed.lines) come.came missed.are_missed;
        all_lines = ap (λ (l : List ℕ). l ++ missed.lines) come.is;
      };
      is_board = come.is_whole.trunk_is;
      are_parts = come.is_whole.are_parts;
      tells = subst (λ (s : Bool). TellsParts IsText whole.trunk come.parts s said new_said o)
          (sound_first new.is_sound all both lines missed.lines come.sound missed.sound if_sound neither) (tells come.parts come.is_whole);
      warns = Appends-trans faults mid new_faults lines missed.lines says missed.says;
    }

-- a root more is looked for
missed_push : (came roots : List Packed) (root : Packed) (lines said : List ℕ) → AreMissed came roots lines → IsMissed came root said → AreMissed came (roots ++ root ∷ []) (lines ++ said)
missed_push came [] root lines said none missed =
    (said, [], missed, refl, ap (λ (l : List ℕ). l ++ said) none ∙ sym (append-nil said))
missed_push came (r ∷ roots) root lines said (one, more, first, later, is) missed =
    (one, more ++ said, first, missed_push came roots root more said later missed, ap (λ (l : List ℕ). l ++ said) is ∙ append_assoc one more said)

pub one_missed : (came roots : List Packed) (root : Packed) (a b c : Bool) (faults mid new_faults : Option (List ℕ)) → SaysMissed came roots a faults mid
    → SaysRoot came root b mid new_faults → (b ≡ true → c ≡ a) → (b ≡ false → c ≡ false) → SaysMissed came (roots ++ root ∷ []) c faults new_faults
one_missed came roots root a b c faults mid new_faults so one both neither = record {
  lines = so.lines ++ one.said;
  are_missed = missed_push came roots root so.lines one.said so.are_missed one.is_missed;
  sound = sound_both a b c so.lines one.said so.sound one.sound both neither;
  says = Appends-trans faults mid new_faults so.lines one.said so.says one.says;
}

-- a root that isn't there
pub root_missing : (came : List Packed) (root : Packed) (r : Result Bool Ended) (faults new_faults : Option (List ℕ)) (name : List ℕ) → (Contains came root → ⊥) → name ≡ text_of root
    → IfOk r (λ sound. (sound ≡ false) × Appends faults new_faults (line_behind name (codes "missing"))) → IfOk r (λ sound. SaysRoot came root sound faults new_faults)
root_missing came root (Ok sound) faults new_faults name none is h = record {
  said = line_behind (text_of root) (codes "missing");
  is_missed = inr (none, refl);
  sound = h.0 ∙ sym (loud (text_of root) (codes "missing"));
  says = subst (λ (n : List ℕ). Appends faults new_faults (line_behind n (codes "missing"))) is h.1;
}
root_missing came root (Err e) faults new_faults name none is h = tt

-- a ledger that is refused is said behind its number
pub refused_so : (number : ℕ) (text : List ℕ) (e : Ended) (old : Collected) (came : List Packed) (r : Result Bool Ended) (faults new_faults : Option (List ℕ)) (name : List ℕ) → (e ≡ BadHeader) ⊎ (e ≡ WrongRoot)
    → EndsLedger text e → name ≡ name_of number → IfOk r (λ sound. (sound ≡ false) × Appends faults new_faults (line_behind name (ended_line e)))
    → IfOk r (λ sound. SaysAdding (AddsPart number text old came old came) sound faults new_faults)
refused_so number text e old came r faults new_faults name either ends is h =
    said_so (AddsPart number text old came old came) r faults new_faults name (name_of number) (ended_line e) is (inr (refl, refl, refl, (e, either, ends, refl))) h

-- what is told is told, or why it isn't
pub joins_so : (IsText : Packed → List Recorded → Left → List ℕ → Type 0) (r : Result Outcome Ended) (read new_read said new_said faults new_faults : Option (List ℕ))
    → IfOk r (TellsStream IsText read new_read said new_said faults new_faults) → IfErr r (λ e. PrintsNothing e said new_said) → IfErr r (WarnsOfFirst read new_read faults new_faults)
    → JoinsStream IsText read new_read said new_said faults new_faults r
joins_so IsText (Ok o) read new_read said new_said faults new_faults tells silent warns = tells
joins_so IsText (Err e) read new_read said new_said faults new_faults tells silent warns = (silent, warns)

-- What is told of the first ledgers of a stream, where that ended early.

-- the first ledgers
said_to : (ledgers : List (List ℕ)) (old new : Joiner) (said : List ℕ) → old.whole ≡ None → old.came.keys ≡ [] → LedgersAreTaken Joins old ledgers new said → SaysToLedgers ledgers said
said_to [] old new said none nothing taken = taken.1
said_to (first ∷ others) old new said none nothing (middle, one, more, joins, later, all_said) =
    let begins : BeginsTrunk old first middle one = subst (λ (w : Option Collected). JoinsTo w old first middle one) none joins in
    let met = parts_met begins.trunk others middle new begins.now [] more begins.is_now begins.trunk_is begins.is_whole (begins.none_came nothing) later in (
      begins.trunk,
      begins.left,
      met.all,
      more,
      begins.loaded,
      subst (λ (n : ℕ). AreLedgersMet begins.trunk [] n others met.all more) begins.number met.are_met,
      all_said ∙ ap (λ (l : List ℕ). l ++ more) begins.says,
    )

pub first_told : (old : Joiner) (read new_read faults new_faults : Option (List ℕ)) (e : Ended) → old.whole ≡ None → old.came.keys ≡ [] → TakesFirstLedgers Joins old read new_read faults e new_faults → WarnsOfFirst read new_read faults new_faults e
first_told old read new_read faults new_faults e none nothing so =
    elim so.first.written [
      | inl written ↦ inl (
        so.first.said,
        record { text = so.text; consumed = so.consumed; says = inl (so.first.ledgers, so.first.rest, so.first.begins, said_to so.first.ledgers old so.first.now so.first.said none nothing so.first.taken) },
        written,
      )
      | inr stream ↦ inr stream
    ]

-- of a stream a trunk has come
none_some : (whole : Collected) (w : Option Collected) → w ≡ Some whole → w ≡ None → ⊥
none_some whole w some none = cc

come_some : (ledgers : List (List ℕ)) (text : List ℕ) (old new : Joiner) (said : List ℕ) → AreLedgers text ledgers → old.whole ≡ None → old.came.keys ≡ [] → LedgersAreTaken Joins old ledgers new said → new.whole ≡ None → ⊥
come_some [] text old new said are none nothing taken missing = one_at_least are.whole are.last are.are_all
come_some (first ∷ others) text old new said are none nothing (middle, one, more, joins, later, all_said) missing =
    let begins : BeginsTrunk old first middle one = subst (λ (w : Option Collected). JoinsTo w old first middle one) none joins in
    let met = parts_met begins.trunk others middle new begins.now [] more begins.is_now begins.trunk_is begins.is_whole (begins.none_came nothing) later in
    none_some met.now new.whole met.is_now missing

pub trunk_came : (old new : Joiner) (read new_read faults new_faults : Option (List ℕ)) → old.whole ≡ None → old.came.keys ≡ [] → TakesLedgers Joins old new read new_read faults new_faults → new.whole ≡ None → ⊥
trunk_came old new read new_read faults new_faults none nothing so missing =
    let (ledgers, said, are, taken, says) = so.takes in
    come_some ledgers so.text old new said are none nothing taken missing

-- all ledgers, and the first of the open tables
tables_told : (old new : Joiner) (whole : Collected) (missing : List ℕ) (read new_read faults mid new_faults : Option (List ℕ)) → old.whole ≡ None → old.came.keys ≡ [] → TakesLedgers Joins old new read new_read faults mid
    → new.whole ≡ Some whole → ((parts : List Contents) → new.came.keys ≡ roots_of parts → SaysMissing whole.trunk parts missing) → Appends mid new_faults missing
    → (said : List ℕ) × SaysToFirst read new_read said × Appends faults new_faults said
tables_told old new whole missing read new_read faults mid new_faults none nothing stream is missed says_missing =
    let (ledgers, lines, are, taken, says) = stream.takes in
    let come = all_come ledgers stream.text old new whole lines are taken none nothing is in (
      lines ++ missing,
      record {
        text = stream.text;
        consumed = stream.consumed;
        says = inr (
          stream.whole,
          record {
            first = come.first;
            others = come.others;
            are_ledgers = come.are_ledgers;
            trunk = whole.trunk;
            left = come.left;
            reads = come.reads;
            parts = come.parts;
            met = come.said;
            are_met = come.are_met;
            missing = missing;
            are_missed = missed come.parts come.came;
            all = ap (λ (l : List ℕ). l ++ missing) come.is;
          },
        );
      },
      Appends-trans faults mid new_faults lines missing says says_missing,
    )

-- none of them is looked for yet
pub ledgers_told : (old new : Joiner) (whole : Collected) (read new_read faults mid : Option (List ℕ)) (e : Ended) → old.whole ≡ None → old.came.keys ≡ [] → TakesLedgers Joins old new read new_read faults mid
    → new.whole ≡ Some whole → WarnsOfFirst read new_read faults mid e
ledgers_told old new whole read new_read faults mid e none nothing stream is =
    inl (tables_told old new whole [] read new_read faults mid mid none nothing stream is (λ parts came. inl refl) (Appends-nil mid))

-- the first of them are
pub first_missed : (old new : Joiner) (whole : Collected) (roots : List Packed) (read new_read faults mid new_faults : Option (List ℕ)) (e : Ended) → old.whole ≡ None → old.came.keys ≡ []
    → TakesLedgers Joins old new read new_read faults mid → new.whole ≡ Some whole → AreAll (IsOpenOn whole.trunk) roots → SaysMissedFirst new.came.keys roots mid e new_faults → WarnsOfFirst read new_read faults new_faults e
first_missed old new whole roots read new_read faults mid new_faults e none nothing stream is are_open so =
    elim so.says [
      | inl says ↦ inl (tables_told old new whole so.lines read new_read faults mid new_faults none nothing stream is (λ parts came. inr (
        so.first,
        so.later,
        subst (λ (l : List Packed). AreAll (IsOpenOn whole.trunk) l) so.are_all are_open,
        subst (λ (l : List Packed). AreMissed l so.first so.lines) came so.are_missed,
      )) says)
      | inr stream ↦ inr stream
    ]

-- all are
pub all_missed : (old new : Joiner) (whole : Collected) (roots : List Packed) (sound : Bool) (read new_read faults mid new_faults : Option (List ℕ)) (r : Result Outcome Ended) → old.whole ≡ None → old.came.keys ≡ []
    → TakesLedgers Joins old new read new_read faults mid → new.whole ≡ Some whole → AreAll (IsOpenOn whole.trunk) roots → SaysMissed new.came.keys roots sound mid new_faults → IfErr r (WarnsOfFirst read new_read faults new_faults)
all_missed old new whole roots sound read new_read faults mid new_faults (Ok o) none nothing stream is are_open so = tt
all_missed old new whole roots sound read new_read faults mid new_faults (Err e) none nothing stream is are_open so =
    first_missed old new whole roots read new_read faults mid new_faults e none nothing stream is are_open (record {
      first = roots;
      later = [];
      are_all = sym (append-nil roots);
      lines = so.lines;
      are_missed = so.are_missed;
      says = inl so.says;
    })

-- the roots before one are looked for
pub missed_still : (came roots : List Packed) (i : ℕ) (sound : Bool) (faults mid new_faults : Option (List ℕ)) (e : Ended) → SaysMissed came (take i roots) sound faults mid → PrintsNothing e mid new_faults → SaysMissedFirst came roots faults e new_faults
missed_still came roots i sound faults mid new_faults e so nothing = record {
  first = take i roots;
  later = drop i roots;
  are_all = sym (take-append-drop i roots);
  lines = so.lines;
  are_missed = so.are_missed;
  says = said_still faults mid new_faults so.lines e so.says nothing;
}

-- what ended a call ends the telling
pub ends_joining : (IsText : Packed → List Recorded → Left → List ℕ → Type 0) (r : Result Outcome Ended) (e : Ended) (read new_read said new_said faults new_faults : Option (List ℕ)) → IsErrAnd r (λ x. x ≡ e) → PrintsNothing e said new_said
    → WarnsOfFirst read new_read faults new_faults e → JoinsStream IsText read new_read said new_said faults new_faults r
ends_joining IsText (Ok o) e read new_read said new_said faults new_faults is nothing warns = absurd is
ends_joining IsText (Err x) e read new_read said new_said faults new_faults is nothing warns = (
  subst (λ (y : Ended). PrintsNothing y said new_said) (sym is) nothing,
  subst (λ (y : Ended). WarnsOfFirst read new_read faults new_faults y) (sym is) warns,
)
