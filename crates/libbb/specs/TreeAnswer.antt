-- What is said of a ledger's text, in plain numbers. The outcomes are 0 where its board is complete, 1 where it has
-- holdouts, 2 where tables are open, 3 where the text is refused, 4 where memory is.
use Rattle.std.specs.Prelude.{◌≡◌, ◌≢◌, ℕ, ◌⊎◌, List}
use Rattle.machine_text.specs.Terms.{Packed, entry_of, empty_table}
use Rattle.law_tree.specs.Terms.{InOrder}
use Rattle.cert.specs.Terms.{record_fault_number, Recorded}
use Rattle.ledger.specs.Terms.{offer_fault_number, HasHeader, HasNoHeader, IsTornHeader, ReadsAs, IsStatus, IsTally}
use Rattle.ledger.specs.declared.loading.Left.{Left}
use Rattle.ledger.specs.declared.loading.Left.TheVariants.{Nothing, From}
use Rattle.ledger.specs.declared.loading.Unkept.{Unkept}
use Rattle.ledger.specs.declared.loading.Unkept.TheVariants.{Torn, Unread, Unfit, Repeated}
use Rattle.ledger.specs.declared.faults.Status.{Status}
use Rattle.ledger.specs.declared.faults.Status.TheVariants.{Working, Holdouts, Complete}
use Rattle.ledger.specs.declared.counts.Tally.{Tally}
use Rattle.libbb.specs.Answer.{flag, or_zero}
use Rattle.libbb.specs.declared.tree_answer.TreeAnswer.{TreeAnswer}

abbrev pub status_number : Status → ℕ
status_number (Complete best ones) = 0
status_number (Holdouts count) = 1
status_number (Working count) = 2

-- the number of the first line that wasn't kept, or 0
abbrev pub unkept_line : Left → ℕ
unkept_line Nothing = 0
unkept_line (From line kept why) = line

-- why it wasn't: 1 where it has no end, 2 where it is no record, 3 where it wasn't taken, 4 where its table was recorded
abbrev pub why_number : Unkept → ℕ
why_number Torn = 1
why_number (Unread f) = 2
why_number (Unfit f) = 3
why_number Repeated = 4

abbrev pub unkept_why : Left → ℕ
unkept_why Nothing = 0
unkept_why (From line kept why) = why_number why

-- and the number of its refusal, or 0
abbrev pub why_code : Unkept → ℕ
why_code Torn = 0
why_code (Unread f) = record_fault_number f
why_code (Unfit f) = or_zero (offer_fault_number f)
why_code Repeated = 0

abbrev pub unkept_code : Left → ℕ
unkept_code Nothing = 0
unkept_code (From line kept why) = why_code why

-- what is said of a board whose root has so many states
abbrev pub told : ℕ → ℕ → Status → Tally → Left → TreeAnswer
told states is_whole status tally left = record {
  nodes = tally.nodes;
  halting = tally.halting;
  never = tally.never;
  holdouts = tally.holdouts;
  open_count = tally.open_count;
  best = or_zero tally.best;
  ones = or_zero tally.ones;
  left_line = unkept_line left;
  outcome = status_number status;
  code = 0;
  states = states;
  is_whole = is_whole;
  has_best = flag tally.best;
  has_ones = flag tally.ones;
  left_why = unkept_why left;
  left_code = unkept_code left;
}

-- an outcome with no board
abbrev pub no_tree : ℕ → ℕ → TreeAnswer
no_tree outcome code = record {
  nodes = 0;
  halting = 0;
  never = 0;
  holdouts = 0;
  open_count = 0;
  best = 0;
  ones = 0;
  left_line = 0;
  outcome = outcome;
  code = code;
  states = 0;
  is_whole = 0;
  has_best = 0;
  has_ones = 0;
  left_why = 0;
  left_code = 0;
}

-- whether a root is the empty table, with which the whole tree of its states begins
abbrev pub IsEmptyRoot : Packed → ℕ → Type 0
IsEmptyRoot root is_whole = ((is_whole ≡ 1) × (root ≡ empty_table root.states))
    ⊎ ((is_whole ≡ 0) × (root ≢ empty_table root.states))

-- what is said of records that are held from a root, and of what wasn't kept of their ledger
pub record TellsOf (root : Packed) (rs : List Recorded) (left : Left) (a : TreeAnswer) : Type 0 where
  pub status : Status
  pub tally : Tally
  pub stands : IsStatus root rs status
  pub counted : IsTally root rs tally
  pub whole : IsEmptyRoot root a.is_whole
  pub is : a ≡ told root.states a.is_whole status tally left

-- the text is read as these records, of which this is said
pub record TellsLedger (text : List ℕ) (a : TreeAnswer) : Type 0 where
  pub root : Packed
  pub records : List Recorded
  pub left : Left
  pub reads : ReadsAs root text records left
  pub tells : TellsOf root records left a

-- the text has no header, or not all of one
abbrev pub HasNoRoot : List ℕ → TreeAnswer → Type 0
HasNoRoot text a = (IsTornHeader text ⊎ HasNoHeader text) × (a ≡ no_tree 3 404)

-- its header is of a table that doesn't name its states in order
abbrev pub HasOtherRoot : List ℕ → TreeAnswer → Type 0
HasOtherRoot text a = ((root : Packed) × (rest : List ℕ) × HasHeader text root rest
    × (((u : ℕ) × InOrder u (entry_of root)) → ⊥)) × (a ≡ no_tree 3 405)

-- its header is a ledger's, and memory was refused
abbrev pub LacksMemory : List ℕ → TreeAnswer → Type 0
LacksMemory text a = ((root : Packed) × (rest : List ℕ) × HasHeader text root rest) × (a ≡ no_tree 4 0)

-- what is said of a ledger's text
abbrev pub Reports : List ℕ → TreeAnswer → Type 0
Reports text a = TellsLedger text a ⊎ HasNoRoot text a ⊎ HasOtherRoot text a ⊎ LacksMemory text a
