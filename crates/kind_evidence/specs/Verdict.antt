-- Verdicts, sides in text, and kinds of claims that a table never halts.
use Rattle.std.specs.Prelude.{ℕ, Option, Some, None, if◌then◌else◌, List, codes, ◌≡◌, ◌-◌, ◌*◌, ◌≤◌, Result, Ok, length, All, zero, suc, ◌&&◌, Bool, true}
use Rattle.std.specs.Str.{bytes_eq}
use Rattle.law_turing.specs.Terms.{Machine, Never, HaltsWith}
use Rattle.kind_evidence.specs.declared.verdicts.Verdict.{Verdict}
use Rattle.kind_evidence.specs.declared.verdicts.Verdict.TheVariants.{Halts, Never as NeverHalts}
use Rattle.kind_evidence.specs.declared.verdicts.Ending.{Ending}
use Rattle.kind_evidence.specs.declared.verdicts.Ending.TheVariants.{Halts as Halting, Never as NeverEnding}
use Rattle.kind_evidence.specs.declared.verdicts.Refused.{Refused}
use Rattle.kind_evidence.specs.declared.verdicts.Refused.TheVariants.{Fails, TooLong, TooWide, NotSeen, NoMemory}
use Rattle.machine_text.specs.declared.table.Dir.{Dir}
use Rattle.machine_text.specs.declared.table.Dir.TheVariants.{L, R}
use Rattle.machine_text.specs.Terms.{Packed, IsTable, entry_of, state_limit}
use Rattle.text.specs.Terms.{IsField, spaced}
use Rattle.text.specs.declared.fields.FieldFault.{FieldFault}

-- When a verdict is true of a machine, and the refusal numbers of evidence.

-- the verdict says of the machine's run from the blank tape what is so
abbrev pub IsTrueOf : Verdict → Machine → Type 0
IsTrueOf (Halts k s) m = HaltsWith m k s
IsTrueOf NeverHalts m = Never m

-- the verdict without the ones
abbrev pub ending_of : Verdict → Ending
ending_of (Halts k s) = Halting k
ending_of NeverHalts = NeverEnding

-- refused memory has no number
abbrev pub refused_number : Refused → Option ℕ
refused_number Fails = Some 201
refused_number TooLong = Some 202
refused_number TooWide = Some 203
refused_number NotSeen = Some 204
refused_number NoMemory = None

-- Sides in text.

-- the side that a text names
abbrev pub side_of : List ℕ → Option Dir
side_of text = if bytes_eq text (codes "L") then Some L else if bytes_eq text (codes "R") then Some R else None

abbrev pub side_text : Dir → List ℕ
side_text L = codes "L"
side_text R = codes "R"

-- What a claim of a kind means, whatever the kind.
pub record Meaning : Type 1 where
  -- it has a text: its numbers are those of 64 bits, its lists and automata are such and aren't too large
  pub writable : Type 0
  -- it is made for tables of so many states
  pub made_for : ℕ → Type 0
  -- it asks for no more than the limits of its kind
  pub within : Type 0
  -- to check it takes more paths than may be kept
  pub wide : Packed → Type 0
  -- its check of the table may end at a number that is too large for it, without having seen whether it is so
  pub overflows : Packed → Type 0
  -- it is so of the table
  pub stands : Packed → Type 0
  -- its check of the table may end without having seen whether it is so
  pub unseen : Packed → Type 0
  -- to check it of the table takes memory: it is one that has to be worked out, and isn't judged as it is written
  pub takes_memory : Packed → Type 0

-- A kind of claims that a table never halts, and what has to be so of one.

-- how its claims are written in a record, what they mean, and the law that a table for which one stands never halts
pub record Kind (C : Type 0) : Type 1 where
  -- the text that stands before their fields
  pub letter : List ℕ
  -- the claim that fields make, for a table of so many states
  pub by : ℕ → List (List ℕ) → Result C FieldFault
  -- the fields of a claim
  pub fields : C → List (List ℕ)
  pub meaning : C → Meaning
  pub law : (c : C) (p : Packed) → IsTable p → (meaning c).stands p → Never (entry_of p)

-- one byte that may stand in a field
pub record IsLetter (text : List ℕ) : Type 0 where
  pub field : IsField text
  pub one : length text ≡ 1

-- the most bytes of a record's fields, with their spaces, for a table of n states: a record has at most 65,000 bytes, of
-- which 7n - 1 are the table's, one is a space and one the letter of the kind
abbrev pub room_for_fields : ℕ → ℕ
room_for_fields n = 64999 - 7 * n

-- what is written reads back, and a claim that stands within its limits can be written
pub record IsKind {C : Type 0} (k : Kind C) : Type 0 where
  pub letter : IsLetter k.letter
  pub are_fields : (c : C) → (k.meaning c).writable → All IsField (k.fields c)
  pub short : (c : C) (n : ℕ) → n ≤ state_limit → (k.meaning c).writable → (k.meaning c).made_for n
      → length (spaced (k.fields c)) ≤ room_for_fields n
  pub back : (c : C) (n : ℕ) → (k.meaning c).writable → (k.meaning c).made_for n → k.by n (k.fields c) ≡ Ok c
  pub writable : (c : C) (p : Packed) → (k.meaning c).within → (k.meaning c).stands p → (k.meaning c).writable
  pub made : (c : C) (p : Packed) → (k.meaning c).stands p → (k.meaning c).made_for p.states

-- Tests of numbers: a grammar needs an answer, and not the fact alone.

-- each number below one passes
unfoldable pub each_below : (ℕ → Bool) → ℕ → Bool
each_below test zero = true
each_below test (suc n) = test n && each_below test n
