use Rattle.std.proofs.Common.{ℕ, List, subst}
use Rattle.machine_text.specs.Terms.{Packed}
use Rattle.ledger.specs.Loading.{NamesAfter}
use Rattle.ledger.proofs.HeaderLaws.{named_by_none}
use Rattle.ledger.proofs.header.header_in.Goals as goal

pub returns-in-Some : goal.returns-in-Some
returns-in-Some c = subst (λ (words : List ℕ). NamesAfter words c.args.line.now c.in-Some.root) c.header_words.ensures c.in-Some.ensures

pub returns-in-Some-root_after : goal.returns-in-Some-root_after
returns-in-Some-root_after c =
    subst (λ (words : List ℕ). NamesAfter words c.args.line.now c.in-Some-root_after.root) c.header_words-2.ensures c.in-Some-root_after.ensures

pub returns-in-None : goal.returns-in-None
returns-in-None c = named_by_none c.args.line.now
    (subst (λ (words : List ℕ). (root : Packed) → NamesAfter words c.args.line.now root → ⊥) c.header_words.ensures c.in_default.ensures)
    (subst (λ (words : List ℕ). (root : Packed) → NamesAfter words c.args.line.now root → ⊥) c.header_words-2.ensures c.in-None.ensures)
