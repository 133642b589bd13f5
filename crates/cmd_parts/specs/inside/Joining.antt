-- For the code: ledgers of a text that are taken as they come, what each does to what came before it, and the part that is kept.
use Rattle.std.specs.Prelude.{◌≡◌, ◌⊎◌, ℕ, ◌+◌, Bool, true, false, List, [], ◌++◌, Option, None, Some, Ok, Err, codes, ◌≢◌, IfSome, ⊤, ◌∷◌}
use Rattle.std.specs.Io.KnownBytes.{Appends, Consumes, IsAtEnd}
use Rattle.machine_text.specs.Terms.{Packed, text_of}
use Rattle.indexmap.specs.IndexSet.{insert_key}
use Rattle.ledger.specs.Terms.{Contents, same_table}
use Rattle.ledger.specs.declared.loading.Left.{Left}
use Rattle.totals.specs.Terms.{AddGives, Collected, IsWhole}
use Rattle.totals.specs.declared.whole.PartFault.TheVariants.{AddedBefore, NotOpen}
use Rattle.cmd_options.specs.declared.ended.Ended.{Ended}
use Rattle.cmd_options.specs.declared.ended.Ended.TheVariants.{Stream}
use Rattle.cmd_parts.specs.Join.{is_silent, left_line, line_behind, Findings, IsMet}
use Rattle.cmd_parts.specs.Stream.{AreMissed, IsLoadedAs, IsMissed, IsRefusedAs, AreLedgers, AreOfOne, BeginsWithLedgers, IsHead}
use Rattle.cmd_parts.specs.declared.join_stream.Joiner.{Joiner}
use Rattle.text.specs.Terms.{BoundedLine, HasNoNewline, joined}
use Rattle.cmd_options.specs.declared.ended.Outcome.{Outcome}
use Rattle.cmd_parts.specs.Look.{SaysOfLine, SaysWith, SaysByFolder}
use Rattle.cmd_lines.specs.Terms.{AreOneLineEach}

-- For the code: what each ledger does to what has come before it, and what is told of that.

-- the first ledger is the trunk's
pub record BeginsTrunk (old : Joiner) (text : List ℕ) (new : Joiner) (said : List ℕ) : Type 0 where
  pub trunk : Contents
  pub left : Left
  pub now : Collected
  pub loaded : IsLoadedAs text trunk left
  pub is_now : new.whole ≡ Some now
  pub trunk_is : now.trunk ≡ trunk
  pub is_whole : IsWhole now []
  pub none_came : old.came.keys ≡ [] → new.came.keys ≡ []
  pub number : new.number ≡ 2
  pub says : said ≡ left_line (codes "trunk") left
  pub sound : new.is_sound ≡ is_silent said

-- what becomes of a whole, and of the roots that came, by a ledger behind that: its board is added, and which line of
-- it wasn't kept is said; or it isn't added, and that is said
abbrev pub AddsBoard : Contents → Left → Collected → List Packed → Collected → List Packed → Option Contents → List ℕ
    → Type 0
AddsBoard part left old came new new_came (Some counted) said =
    (counted ≡ part) × AddGives old part (Ok tt) new × (new_came ≡ insert_key same_table came part.root)
    × (said ≡ left_line (text_of part.root) left)
AddsBoard part left old came new new_came None said =
    (new ≡ old) × (new_came ≡ came)
    × ((AddGives old part (Err NotOpen) old
    × (said ≡ line_behind (text_of part.root) (codes "not under the trunk")))
    ⊎ (AddGives old part (Err AddedBefore) old × (said ≡ line_behind (text_of part.root) (codes "added before"))))

-- so it is of what is loaded; or nothing is, and that is said
abbrev pub AddsPart : ℕ → List ℕ → Collected → List Packed → Collected → List Packed → Option Contents → List ℕ → Type 0
AddsPart number text old came new new_came counted said =
    ((part : Contents) × (left : Left) × IsLoadedAs text part left
    × AddsBoard part left old came new new_came counted said)
    ⊎ ((counted ≡ None) × (new ≡ old) × (new_came ≡ came) × IsRefusedAs number text said)

-- what is added so, and whether nothing was wrong
pub record SaysAdding (Adds : Option Contents → List ℕ → Type 0) (is_sound : Bool)
    (faults new_faults : Option (List ℕ)) : Type 0 where
  pub counted : Option Contents
  pub said : List ℕ
  pub adds : Adds counted said
  pub sound : is_sound ≡ is_silent said
  pub says : Appends faults new_faults said

pub record AddsLedger (old : Joiner) (was : Collected) (text : List ℕ) (new : Joiner) (said : List ℕ) : Type 0 where
  pub now : Collected
  pub counted : Option Contents
  pub is_now : new.whole ≡ Some now
  pub adds : AddsPart old.number text was old.came.keys now new.came.keys counted said
  pub number : new.number ≡ old.number + 1
  pub sound : old.is_sound ≡ true → new.is_sound ≡ is_silent said
  pub unsound : old.is_sound ≡ false → new.is_sound ≡ false

-- what a ledger does to what has come before it
abbrev pub JoinsTo : Option Collected → Joiner → List ℕ → Joiner → List ℕ → Type 0
JoinsTo None old text new said = BeginsTrunk old text new said
JoinsTo (Some was) old text new said = AddsLedger old was text new said

abbrev pub Joins : Joiner → List ℕ → Joiner → List ℕ → Type 0
Joins old text new said = JoinsTo old.whole old text new said

-- a root is looked for
pub record SaysRoot (came : List Packed) (root : Packed) (is_sound : Bool)
    (faults new_faults : Option (List ℕ)) : Type 0 where
  pub said : List ℕ
  pub is_missed : IsMissed came root said
  pub sound : is_sound ≡ is_silent said
  pub says : Appends faults new_faults said

-- and so several
pub record SaysMissed (came roots : List Packed) (is_sound : Bool) (faults new_faults : Option (List ℕ)) : Type 0 where
  pub lines : List ℕ
  pub are_missed : AreMissed came roots lines
  pub sound : is_sound ≡ is_silent lines
  pub says : Appends faults new_faults lines

-- or the first of them, where that ended early
pub record SaysMissedFirst (came roots : List Packed) (faults : Option (List ℕ)) (e : Ended)
    (new_faults : Option (List ℕ)) : Type 0 where
  pub first : List Packed
  pub later : List Packed
  pub are_all : roots ≡ first ++ later
  pub lines : List ℕ
  pub are_missed : AreMissed came first lines
  pub says : Appends faults new_faults lines ⊎ (e ≡ Stream)

-- For the code: the part that is kept from one line to the next, and what a line does to it.

-- this is the root of a part
abbrev pub HoldsPartOf : Option Contents → Packed → Type 0
HoldsPartOf None root = ⊥
HoldsPartOf (Some part) root = part.root ≡ root

-- a board, where it has this root
abbrev pub IsPicked : Contents → Packed → Option Contents → Type 0
IsPicked part root None = part.root ≢ root
IsPicked part root (Some picked) = (picked ≡ part) × (part.root ≡ root)

-- tables are looked up in the same folder, by what is found there, and with the same trunk
abbrev pub IsSamePlace : {S : Type 0} → S → List ℕ → Contents → S → List ℕ → Contents → Type 0
IsSamePlace {S} parts folder trunk new_parts new_folder new_trunk =
    (new_parts ≡ parts) × (new_folder ≡ folder) × (new_trunk ≡ trunk)

-- the part of its root, where one is kept
abbrev pub KeepsPart : Findings → List ℕ → Option Contents → Type 0
KeepsPart Finds folder None = ⊤
KeepsPart Finds folder (Some part) = (wrong : List ℕ) × IsMet Finds folder part.root (Some part) wrong

-- the part of this root, as it was found
abbrev pub IsFound : Findings → List ℕ → Packed → Option Contents → Type 0
IsFound Finds folder root found =
    ((wrong : List ℕ) × IsMet Finds folder root found wrong) × IfSome found (λ part. part.root ≡ root)

-- what a line of a folder does to the part that is kept, and what is said to it
abbrev pub LooksIn : Findings → List ℕ → Contents → Option Contents → BoundedLine → Outcome → Option Contents → List ℕ
    → Type 0
LooksIn Finds folder trunk old line o new said =
    KeepsPart Finds folder old
    → KeepsPart Finds folder new × SaysWith (SaysOfLine (SaysByFolder Finds folder trunk)) line o said

-- For the code: ledgers of a text that are taken one after another as they come.

-- ledgers are taken in their order, and what is said to each is said
abbrev pub LedgersAreTaken : {D : Type 0} → (D → List ℕ → D → List ℕ → Type 0) → D → List (List ℕ) → D → List ℕ → Type 0
LedgersAreTaken {D} Takes old [] new said = (new ≡ old) × (said ≡ [])
LedgersAreTaken {D} Takes old (ledger ∷ ledgers) new said =
    (middle : D) × (first : List ℕ) × (others : List ℕ) × Takes old ledger middle first
    × LedgersAreTaken Takes middle ledgers new others
    × (said ≡ first ++ others)

-- of a text the ledgers are taken that another one follows; of the one behind them whole lines are kept, and one that
-- is begun
pub record HasTaken {D : Type 0} (Takes : D → List ℕ → D → List ℕ → Type 0) (start : D) (held : Option (List ℕ))
    (text before line : List ℕ) (now : D) (new_held : Option (List ℕ)) : Type 0 where
  pub whole : List (List ℕ)
  pub lines : List (List ℕ)
  pub said : List ℕ
  pub begins : BeginsWithLedgers text whole (before ++ line)
  pub is : before ≡ joined lines
  pub are_lines : AreOneLineEach lines
  pub one_line : HasNoNewline line
  pub one : AreOfOne lines
  pub taken : LedgersAreTaken Takes start whole now said
  pub written : Appends held new_held said

-- the line that is begun is one of the ledger whose lines are kept
abbrev pub IsOfIt : List ℕ → List ℕ → Type 0
IsOfIt before line = (IsHead line → ⊥) ⊎ (before ≡ [])

-- where another ledger begins with the line, the lines that are kept are taken; else all stays
abbrev pub CutsBefore : {D : Type 0} → (D → List ℕ → D → List ℕ → Type 0) → List ℕ → List ℕ → D → Option (List ℕ)
    → List ℕ → D → Option (List ℕ) → Type 0
CutsBefore {D} Takes before line old held new_before new new_held =
    (IsOfIt before line × (new_before ≡ before) × (new ≡ old) × (new_held ≡ held))
    ⊎ (IsHead line × (before ≢ []) × ((said : List ℕ) × Takes old before new said × Appends held new_held said)
    × (new_before ≡ []))

-- whatever was taken of a text before, it is so of the text with a piece more
abbrev pub TakesMoreLedgers : {D : Type 0} → (D → List ℕ → D → List ℕ → Type 0) → List ℕ → List ℕ → List ℕ → D
    → Option (List ℕ) → List ℕ → List ℕ → D → Option (List ℕ) → Type 0
TakesMoreLedgers {D} Takes piece before line old held new_before new_line new new_held =
    (start : D) (begun : Option (List ℕ)) (text : List ℕ) → HasTaken Takes start begun text before line old held
    → HasTaken Takes start begun (text ++ piece) new_before new_line new new_held

-- and so up to what is left of the piece
abbrev pub TakesLedgersUpTo : {D : Type 0} → (D → List ℕ → D → List ℕ → Type 0) → List ℕ → List ℕ → List ℕ → List ℕ → D
    → Option (List ℕ) → List ℕ → List ℕ → D → Option (List ℕ) → Type 0
TakesLedgersUpTo {D} Takes piece left before line old held new_before new_line new new_held =
    (start : D) (begun : Option (List ℕ)) (text : List ℕ) → HasTaken Takes start begun text before line old held
    → (done : List ℕ) × (text ++ piece ≡ done ++ left)
    × HasTaken Takes start begun done new_before new_line new new_held

-- a text is taken to its end
abbrev pub TakesAll : {D : Type 0} → (D → List ℕ → D → List ℕ → Type 0) → D → Option (List ℕ) → List ℕ → D
    → Option (List ℕ) → Type 0
TakesAll {D} Takes old held text new new_held =
    (ledgers : List (List ℕ)) × (said : List ℕ) × AreLedgers text ledgers × LedgersAreTaken Takes old ledgers new said
    × Appends held new_held said

-- so much of a reader is taken
pub record HasReadLedgers {D : Type 0} (Takes : D → List ℕ → D → List ℕ → Type 0) (start : D)
    (read new_read held : Option (List ℕ)) (before line : List ℕ) (now : D) (new_held : Option (List ℕ)) : Type 0 where
  pub text : List ℕ
  pub consumed : Consumes read new_read text
  pub has : HasTaken Takes start held text before line now new_held

-- a reader is read to its end, and its ledgers are taken
pub record TakesLedgers {D : Type 0} (Takes : D → List ℕ → D → List ℕ → Type 0) (old new : D)
    (read new_read held new_held : Option (List ℕ)) : Type 0 where
  pub text : List ℕ
  pub consumed : Consumes read new_read text
  pub whole : IsAtEnd new_read
  pub takes : TakesAll Takes old held text new new_held

-- where the taking ended early: the first ledgers of a text were taken, and what is said to them is said, unless a stream
-- failed
pub record HasTakenLedgers {D : Type 0} (Takes : D → List ℕ → D → List ℕ → Type 0) (start : D) (held : Option (List ℕ))
    (text : List ℕ) (e : Ended) (new_held : Option (List ℕ)) : Type 0 where
  pub ledgers : List (List ℕ)
  pub rest : List ℕ
  pub begins : BeginsWithLedgers text ledgers rest
  pub now : D
  pub said : List ℕ
  pub taken : LedgersAreTaken Takes start ledgers now said
  pub written : Appends held new_held said ⊎ (e ≡ Stream)

-- and that of a reader's text, of which a first part is read
pub record TakesFirstLedgers {D : Type 0} (Takes : D → List ℕ → D → List ℕ → Type 0) (old : D)
    (read new_read held : Option (List ℕ)) (e : Ended) (new_held : Option (List ℕ)) : Type 0 where
  pub text : List ℕ
  pub consumed : Consumes read new_read text
  pub first : HasTakenLedgers Takes old held text e new_held
