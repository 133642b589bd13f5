-- What a certificate claims of a table.
use Rattle.std.specs.Prelude.{ℕ, if◌then◌else◌, List, Result, Err, Option, Some, None}
use Rattle.std.specs.Str.{bytes_eq}
use Rattle.text.specs.Terms.{made_of}
use Rattle.text.specs.declared.fields.FieldFault.{FieldFault}
use Rattle.text.specs.declared.fields.FieldFault.TheVariants.{BadKind}
use Rattle.kind_evidence.specs.Terms.{Kind, Meaning}
use Rattle.loops.specs.declared.cycles.Cycle.{Cycle}
use Rattle.loops.specs.declared.translated.Translated.{Translated}
use Rattle.loops.specs.Terms.{cycle_kind, translated_kind}
use Rattle.backward.specs.declared.backward.Backward.{Backward}
use Rattle.backward.specs.Terms.{backward_kind}
use Rattle.ngram_cps.specs.Terms.{Lists, ngram_kind}
use Rattle.far.specs.Terms.{Automata, far_kind, listed_kind, ListedTexts}
use Rattle.kind_counted.specs.Terms.{CosetTexts, counted_kind}
use Rattle.kind_rules.specs.Terms.{RuleTexts, rules_kind}
use Rattle.kind_named.specs.declared.named.Named.{Named}
use Rattle.kind_named.specs.Terms.{named_kind}
use Rattle.machine_text.specs.Terms.{Packed, entry_of}
use Rattle.law_turing.specs.Terms.{score_at}
use Rattle.run.specs.Terms.{halts_meaning}
use Rattle.run.specs.declared.halting.HaltsIn.{HaltsIn}
use Rattle.kind_evidence.specs.declared.verdicts.Ending.{Ending}
use Rattle.kind_evidence.specs.declared.verdicts.Ending.TheVariants.{Halts as Halting, Never as NeverEnding}
use Rattle.kind_evidence.specs.declared.verdicts.Verdict.{Verdict}
use Rattle.kind_evidence.specs.declared.verdicts.Verdict.TheVariants.{Halts, Never}

-- Why a table never halts: the one list of kinds.

-- a claim of each kind: its numbers, lists, automata or texts
pub data Reason : Type 0 where
  CycleReason : Cycle → Reason
  TranslatedReason : Translated → Reason
  BackwardReason : Backward → Reason
  NgramReason : Lists → Reason
  FarReason : Automata → Reason
  ListedReason : ListedTexts → Reason
  CountedReason : CosetTexts → Reason
  RulesReason : RuleTexts → Reason
  NamedReason : Named → Reason

-- what is claimed, with its kind
pub record WithKind : Type 1 where
  pub Claimed : Type 0
  pub kind : Kind Claimed
  pub claimed : Claimed

abbrev pub with_kind : Reason → WithKind
with_kind (CycleReason e) = record { Claimed = Cycle; kind = cycle_kind; claimed = e }
with_kind (TranslatedReason e) = record { Claimed = Translated; kind = translated_kind; claimed = e }
with_kind (BackwardReason e) = record { Claimed = Backward; kind = backward_kind; claimed = e }
with_kind (NgramReason s) = record { Claimed = Lists; kind = ngram_kind; claimed = s }
with_kind (FarReason a) = record { Claimed = Automata; kind = far_kind; claimed = a }
with_kind (ListedReason t) = record { Claimed = ListedTexts; kind = listed_kind; claimed = t }
with_kind (CountedReason t) = record { Claimed = CosetTexts; kind = counted_kind; claimed = t }
with_kind (RulesReason t) = record { Claimed = RuleTexts; kind = rules_kind; claimed = t }
with_kind (NamedReason e) = record { Claimed = Named; kind = named_kind; claimed = e }

-- the reason that a letter with fields makes, for a table of n states
abbrev pub reason_by : ℕ → List ℕ → List (List ℕ) → Result Reason FieldFault
reason_by n letter fields =
    if bytes_eq letter cycle_kind.letter then made_of CycleReason (cycle_kind.by n fields)
    else if bytes_eq letter translated_kind.letter then made_of TranslatedReason (translated_kind.by n fields)
    else if bytes_eq letter backward_kind.letter then made_of BackwardReason (backward_kind.by n fields)
    else if bytes_eq letter ngram_kind.letter then made_of NgramReason (ngram_kind.by n fields)
    else if bytes_eq letter far_kind.letter then made_of FarReason (far_kind.by n fields)
    else if bytes_eq letter listed_kind.letter then made_of ListedReason (listed_kind.by n fields)
    else if bytes_eq letter counted_kind.letter then made_of CountedReason (counted_kind.by n fields)
    else if bytes_eq letter rules_kind.letter then made_of RulesReason (rules_kind.by n fields)
    else if bytes_eq letter named_kind.letter then made_of NamedReason (named_kind.by n fields)
    else Err BadKind

-- a reason as it is written
abbrev pub reason_letter : Reason → List ℕ
reason_letter r = (with_kind r).kind.letter

abbrev pub reason_fields : Reason → List (List ℕ)
reason_fields r = (with_kind r).kind.fields (with_kind r).claimed

abbrev pub reason_meaning : Reason → Meaning
reason_meaning r = (with_kind r).kind.meaning (with_kind r).claimed

-- What a certificate claims of a table, apart from how it is kept; when that stands, and what it shows.

-- it halts, it never does, or nothing is claimed
pub data Claim : Type 0 where
  HaltsClaim : HaltsIn → Claim
  NeverClaim : Reason → Claim
  NoClaim : Claim

-- a record: a table, and what is claimed of it
pub record Recorded : Type 0 where
  pub table : Packed
  pub claim : Claim

-- where nothing is claimed, nothing has to be so
abbrev pub meaning : Claim → Meaning
meaning (HaltsClaim e) = halts_meaning e
meaning (NeverClaim r) = reason_meaning r
meaning NoClaim = record {
  writable = Unit {0};
  made_for = λ n. Unit {0};
  within = Unit {0};
  wide = λ p. ⊥;
  overflows = λ p. ⊥;
  stands = λ p. Unit {0};
  unseen = λ p. ⊥;
  takes_memory = λ p. ⊥;
}

-- how the run ends by it; nothing where nothing is claimed
abbrev pub ending_by : Claim → Option Ending
ending_by (HaltsClaim e) = Some (Halting e.steps)
ending_by (NeverClaim r) = Some NeverEnding
ending_by NoClaim = None

-- the score that is claimed beside that, if one is
abbrev pub score_by : Claim → Option ℕ
score_by (HaltsClaim e) = e.ones
score_by (NeverClaim r) = None
score_by NoClaim = None

-- the verdict on a table for which it is made; none where nothing is claimed
abbrev pub shown_by : Claim → Packed → Option Verdict
shown_by (HaltsClaim e) p = Some (Halts e.steps (score_at (entry_of p) e.steps))
shown_by (NeverClaim r) p = Some Never
shown_by NoClaim p = None

abbrev pub IsWritable : Claim → Type 0
IsWritable c = (meaning c).writable

abbrev pub IsMadeFor : Claim → ℕ → Type 0
IsMadeFor c n = (meaning c).made_for n

abbrev pub IsWithin : Claim → Type 0
IsWithin c = (meaning c).within

abbrev pub IsWide : Claim → Packed → Type 0
IsWide c p = (meaning c).wide p

-- its check of the table may end at a number that is too large, which says nothing of whether it is so
abbrev pub MayOverflow : Claim → Packed → Type 0
MayOverflow c p = (meaning c).overflows p

abbrev pub Stands : Claim → Packed → Type 0
Stands c p = (meaning c).stands p

-- its check of the table may end without having seen whether it is so
abbrev pub MayGoUnseen : Claim → Packed → Type 0
MayGoUnseen c p = (meaning c).unseen p

abbrev pub TakesMemory : Claim → Packed → Type 0
TakesMemory c p = (meaning c).takes_memory p
