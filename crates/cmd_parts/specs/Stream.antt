-- Ledgers that stand one behind the other in a text, told of together.
use Rattle.std.specs.Prelude.{◌≡◌, ◌≢◌, ℕ, List, [], ◌∷◌, ◌++◌, ⊤, ◌⊎◌, ◌+◌, map, Contains, Option, None, Some, Result, Ok, Err, codes, decimal}
use Rattle.std.specs.Io.KnownBytes.{Appends, Consumes, IsAtEnd}
use Rattle.text.specs.Terms.{HasNoNewline, joined}
use Rattle.ledger.specs.Terms.{header_words, ReadsIn, Contents, IsBoard, IsOpenOn, AreAll}
use Rattle.ledger.specs.declared.header.Format.{Format}
use Rattle.cmd_lines.specs.Terms.{AreOneLineEach}
use Rattle.machine_text.specs.Terms.{Packed, entry_of, text_of}
use Rattle.law_tree.specs.Terms.{InOrder}
use Rattle.cert.specs.Terms.{Recorded}
use Rattle.ledger.specs.declared.loading.Left.{Left}
use Rattle.totals.specs.Terms.{AreParts}
use Rattle.cmd_ledgers.specs.Terms.{EndsLedger}
use Rattle.cmd_options.specs.Terms.{PrintsNothing, ended_line}
use Rattle.cmd_options.specs.declared.ended.Ended.{Ended}
use Rattle.cmd_options.specs.declared.ended.Ended.TheVariants.{BadHeader, Stream, WrongRoot}
use Rattle.cmd_options.specs.declared.ended.Outcome.{Outcome}
use Rattle.cmd_parts.specs.Join.{TellsParts, counted_part, is_silent, left_line, line_behind}

-- Ledgers that stand one behind the other in a text: each goes up to the next line that begins as a header does.

-- a text begins as a header does, in a version
abbrev pub IsHead : List ℕ → Type 0
IsHead text = (format : Format) × (more : List ℕ) × (text ≡ header_words format ++ more)

-- none of these lines does
abbrev pub AreNoHeads : List (List ℕ) → Type 0
AreNoHeads [] = ⊤
AreNoHeads (line ∷ lines) = (IsHead line → ⊥) × AreNoHeads lines

-- none behind the first one does
abbrev pub AreOfOne : List (List ℕ) → Type 0
AreOfOne [] = ⊤
AreOfOne (line ∷ lines) = AreNoHeads lines

-- a ledger that another one follows: whole lines
pub record IsWholeLedger (text : List ℕ) : Type 0 where
  pub lines : List (List ℕ)
  pub some : lines ≢ []
  pub is : text ≡ joined lines
  pub are_lines : AreOneLineEach lines
  pub one : AreOfOne lines

-- the ledger that none follows: its last line may have no newline
pub record IsLastLedger (text : List ℕ) : Type 0 where
  pub lines : List (List ℕ)
  pub last : List ℕ
  pub is : text ≡ joined lines ++ last
  pub are_lines : AreOneLineEach lines
  pub one_line : HasNoNewline last
  pub one : AreOfOne (lines ++ last ∷ [])

-- a text begins with these ledgers, behind which the rest stands
abbrev pub BeginsWithLedgers : List ℕ → List (List ℕ) → List ℕ → Type 0
BeginsWithLedgers text [] rest = text ≡ rest
BeginsWithLedgers text (ledger ∷ ledgers) rest =
    (behind : List ℕ) × (text ≡ ledger ++ behind) × IsWholeLedger ledger × IsHead behind
    × BeginsWithLedgers behind ledgers rest

-- a text is these ledgers; whatever it is, it is one at least
pub record AreLedgers (text : List ℕ) (ledgers : List (List ℕ)) : Type 0 where
  pub whole : List (List ℕ)
  pub last : List ℕ
  pub are_all : ledgers ≡ whole ++ last ∷ []
  pub begins : BeginsWithLedgers text whole last
  pub is_last : IsLastLedger last

-- A trunk and its parts that are told of together as they stand one behind the other in a stream.

-- a text is loaded as a board, whose root names its states in order, up to what is left
pub record IsLoadedAs (text : List ℕ) (b : Contents) (left : Left) : Type 0 where
  pub reads : ReadsIn b.format b.root text b.records left
  pub order : (u : ℕ) × InOrder u (entry_of b.root)

-- of a stream's ledgers the first is the trunk's, and has the number 1
abbrev pub name_of : ℕ → List ℕ
name_of number = codes "ledger " ++ decimal number

-- a ledger with no root, or with one that isn't in order, is refused behind its number
abbrev pub IsRefusedAs : ℕ → List ℕ → List ℕ → Type 0
IsRefusedAs number text said = (e : Ended) × ((e ≡ BadHeader) ⊎ (e ≡ WrongRoot)) × EndsLedger text e
    × (said ≡ line_behind (name_of number) (ended_line e))

abbrev pub roots_of : List Contents → List Packed
roots_of parts = map (λ p. p.root) parts

-- what a ledger is behind a trunk and the parts that count already: a part more, whose root the trunk leaves open, and
-- which line of it wasn't kept is said; or it has another root, or that of a part that counts, or is refused, which is
-- said
abbrev pub IsLedgerMet : Contents → List Contents → ℕ → List ℕ → Option Contents → List ℕ → Type 0
IsLedgerMet trunk parts number text (Some part) said =
    (left : Left) × IsLoadedAs text part left × IsOpenOn trunk part.root × (Contains (roots_of parts) part.root → ⊥)
    × (said ≡ left_line (text_of part.root) left)
IsLedgerMet trunk parts number text None said =
    ((part : Contents) × (left : Left) × IsLoadedAs text part left
    × (((IsOpenOn trunk part.root → ⊥) × (said ≡ line_behind (text_of part.root) (codes "not under the trunk")))
    ⊎ (IsOpenOn trunk part.root × Contains (roots_of parts) part.root
    × (said ≡ line_behind (text_of part.root) (codes "added before")))))
    ⊎ IsRefusedAs number text said

-- ledgers that are met one after another: with those that count already, all that count, and the lines that are said
abbrev pub AreLedgersMet : Contents → List Contents → ℕ → List (List ℕ) → List Contents → List ℕ → Type 0
AreLedgersMet trunk parts number [] all lines = (all ≡ parts) × (lines ≡ [])
AreLedgersMet trunk parts number (text ∷ texts) all lines =
    (counted : Option Contents) × (said : List ℕ) × (more : List ℕ) × IsLedgerMet trunk parts number text counted said
    × AreLedgersMet trunk (parts ++ counted_part counted) (number + 1) texts all more × (lines ≡ said ++ more)

-- a root that isn't among those that came is said
abbrev pub IsMissed : List Packed → Packed → List ℕ → Type 0
IsMissed came root said = (Contains came root × (said ≡ []))
    ⊎ ((Contains came root → ⊥) × (said ≡ line_behind (text_of root) (codes "missing")))

-- and so of several
abbrev pub AreMissed : List Packed → List Packed → List ℕ → Type 0
AreMissed came [] lines = lines ≡ []
AreMissed came (root ∷ roots) lines =
    (said : List ℕ) × (more : List ℕ) × IsMissed came root said × AreMissed came roots more × (lines ≡ said ++ more)

-- the ledgers of a text: that of a trunk, and behind it those of its parts; what is wrong with them, and which open
-- tables of the trunk have none
pub record IsTreeText (text : List ℕ) (trunk : Contents) (parts : List Contents) (lines : List ℕ) : Type 0 where
  pub first : List ℕ
  pub others : List (List ℕ)
  pub are_ledgers : AreLedgers text (first ∷ others)
  pub left : Left
  pub reads : IsLoadedAs first trunk left
  pub said : List ℕ
  pub are_met : AreLedgersMet trunk [] 2 others parts said
  pub roots : List Packed
  pub are_open : AreAll (IsOpenOn trunk) roots
  pub missing : List ℕ
  pub are_missed : AreMissed (roots_of parts) roots missing
  pub all_lines : lines ≡ left_line (codes "trunk") left ++ said ++ missing

-- a reader is read to its end. Of the trunk and the parts in its text the report is printed that one ledger has which
-- holds all of their records, and what is wrong is said
pub record TellsStream (IsText : Packed → List Recorded → Left → List ℕ → Type 0)
    (read new_read said new_said faults new_faults : Option (List ℕ)) (o : Outcome) : Type 0 where
  pub text : List ℕ
  pub consumed : Consumes read new_read text
  pub whole : IsAtEnd new_read
  pub trunk : Contents
  pub parts : List Contents
  pub lines : List ℕ
  pub holds : IsTreeText text trunk parts lines
  pub is_board : IsBoard trunk
  pub are_parts : AreParts trunk.root trunk.records parts
  pub tells : TellsParts IsText trunk parts (is_silent lines) said new_said o
  pub warns : Appends faults new_faults lines

-- what is said to the first ledgers of a text: that of a trunk, and those of its parts
abbrev pub SaysToLedgers : List (List ℕ) → List ℕ → Type 0
SaysToLedgers [] said = said ≡ []
SaysToLedgers (first ∷ others) said =
    (trunk : Contents) × (left : Left) × (parts : List Contents) × (met : List ℕ) × IsLoadedAs first trunk left
    × AreLedgersMet trunk [] 2 others parts met × (said ≡ left_line (codes "trunk") left ++ met)

-- which of the first open tables of a trunk have no part
abbrev pub SaysMissing : Contents → List Contents → List ℕ → Type 0
SaysMissing trunk parts missing = (missing ≡ [])
    ⊎ ((roots : List Packed) × (later : List Packed) × AreAll (IsOpenOn trunk) (roots ++ later)
    × AreMissed (roots_of parts) roots missing)

-- what is said to all of them, and of the first open tables of the trunk
pub record SaysToTables (text said : List ℕ) : Type 0 where
  pub first : List ℕ
  pub others : List (List ℕ)
  pub are_ledgers : AreLedgers text (first ∷ others)
  pub trunk : Contents
  pub left : Left
  pub reads : IsLoadedAs first trunk left
  pub parts : List Contents
  pub met : List ℕ
  pub are_met : AreLedgersMet trunk [] 2 others parts met
  pub missing : List ℕ
  pub are_missed : SaysMissing trunk parts missing
  pub all : said ≡ left_line (codes "trunk") left ++ met ++ missing

-- a first part of a stream is read, and this is what was said to its first ledgers, behind each of which another one begins;
-- or to all, where the stream is at its end
pub record SaysToFirst (read new_read : Option (List ℕ)) (said : List ℕ) : Type 0 where
  pub text : List ℕ
  pub consumed : Consumes read new_read text
  pub says : ((ledgers : List (List ℕ)) × (rest : List ℕ) × BeginsWithLedgers text ledgers rest
      × SaysToLedgers ledgers said) ⊎ (IsAtEnd new_read × SaysToTables text said)

-- where the telling ended early, what was said is whole lines, those of the first ledgers and open tables, unless a stream
-- failed
abbrev pub WarnsOfFirst : Option (List ℕ) → Option (List ℕ) → Option (List ℕ) → Option (List ℕ) → Ended → Type 0
WarnsOfFirst read new_read faults new_faults e =
    ((said : List ℕ) × SaysToFirst read new_read said × Appends faults new_faults said) ⊎ (e ≡ Stream)

-- what may come of it
abbrev pub JoinsStream : (Packed → List Recorded → Left → List ℕ → Type 0) → Option (List ℕ) → Option (List ℕ)
    → Option (List ℕ) → Option (List ℕ) → Option (List ℕ) → Option (List ℕ) → Result Outcome Ended → Type 0
JoinsStream IsText read new_read said new_said faults new_faults (Ok o) =
    TellsStream IsText read new_read said new_said faults new_faults o
JoinsStream IsText read new_read said new_said faults new_faults (Err e) =
    PrintsNothing e said new_said × WarnsOfFirst read new_read faults new_faults e
