-- Tables with a proof of their own as a kind of certificates.
use Rattle.std.specs.Prelude.{◌≡◌, ℕ, List, [], ◌∷◌, codes, Some, ◌⊎◌, refl, Result, Ok, Err}
use Rattle.std.specs.Coded.{Coded, code_by, coded_ℕ}
use Rattle.std.proofs.Common.{inl, inr, sym, subst}
use Rattle.machine_text.specs.Terms.{Packed, entry_of, IsTable, text_of}
use Rattle.law_turing.specs.Terms.{Config, after, Never}
use Rattle.law_machines.specs.Terms.{table_text}
use Rattle.law_machines.specs.declared.machines.ProvedMachine.{ProvedMachine}
use Rattle.machine_text.proofs.RoundTrip.{table_of-text_of}
use Rattle.law_machines.proofs.Proved.{never_by_text}
use Rattle.text.specs.declared.fields.FieldFault.{FieldFault}
use Rattle.text.specs.declared.fields.FieldFault.TheVariants.{BadKind}
use Rattle.kind_evidence.specs.Terms.{Kind}
use Rattle.kind_named.specs.declared.named.Named.{Named}

-- Skelet 1, by its text and as a table: a five-state machine of Georgi Georgiev's (Skelet's) list of 2003. It ends in a
-- translated cycle, but after so many steps that no run by single steps comes there.
abbrev pub skelet1_text : List ℕ
skelet1_text = codes "1RB1RD_1LC0RC_1RA1LD_0RE0LB_---1RC"

abbrev pub skelet1 : Packed
skelet1 = record { codes = 26 ∷ 28 ∷ 19 ∷ 11 ∷ 25 ∷ 20 ∷ 13 ∷ 2 ∷ 0 ∷ 27 ∷ 0 ∷ 0 ∷ 0 ∷ 0 ∷ []; states = 5 }

-- its run from the blank tape has at least n steps
abbrev pub RunsFor : ℕ → Type 0
RunsFor n = (c : Config) × (after (entry_of skelet1) n ≡ Some c)

-- The tables that have a proof of their own.

-- one of the seven that are proved, by its text
abbrev pub IsProved : Packed → Type 0
IsProved p = (m : ProvedMachine) × (text_of p ≡ table_text m)

-- one of these, or Skelet 1
abbrev pub IsNamed : Packed → Type 0
IsNamed p = IsProved p ⊎ (p ≡ skelet1)

-- that one never halts is proved; of Skelet 1 it has to be seen
abbrev pub NeverByName : Packed → Type 0
NeverByName p = IsProved p ⊎ ((p ≡ skelet1) × Never (entry_of skelet1))

-- What is seen of a run that is followed: how many turns were made.
pub record Followed : Type 0 where
  pub turns : ℕ

abbrev pub followed_code : Coded Followed
followed_code = code_by ℕ coded_ℕ (λ r. r.turns) (λ n. record { turns = n }) (λ _. refl)

-- Tables with a proof of their own as a kind of certificates: a claim has no fields.
abbrev pub named_by : List (List ℕ) → Result Named FieldFault
named_by [] = Ok (record {})
named_by fields = Err BadKind

abbrev pub named_fields : Named → List (List ℕ)
named_fields e = []

-- such a table never halts
abbrev pub named_never : (p : Packed) → IsTable p → NeverByName p → Never (entry_of p)
named_never p table (inl proved) = never_by_text proved.0 p (table_of-text_of p table) proved.1
named_never p table (inr seen) = subst (λ o. Never (entry_of o)) (sym seen.0) seen.1

-- the table is one of these; to see it of Skelet 1 takes memory, and what is tried may not be enough
abbrev pub named_kind : Kind Named
named_kind = record {
  letter = codes "P";
  by = λ n fields. named_by fields;
  fields = named_fields;
  meaning = λ e. record {
    writable = Unit {0};
    made_for = λ n. Unit {0};
    within = Unit {0};
    wide = λ p. ⊥;
    overflows = λ p. ⊥;
    stands = NeverByName;
    unseen = λ p. p ≡ skelet1;
    takes_memory = λ p. p ≡ skelet1;
  };
  law = λ e p table stands. named_never p table stands;
}
