use Rattle.std.proofs.Common.{ℕ, Option, inr, refl, ◌∙◌, ap, subst, Ok, Err, arith}
use Rattle.ledger.specs.declared.faults.Taken.TheVariants.{Known}
use Rattle.ledger.specs.declared.faults.OfferFault.TheVariants.{WrongSize}
use Rattle.lease_core.specs.Says.{NotesRefusal}
use Rattle.lease_core.proofs.coordinator.answer_record.Goals as goal

pub returns-then-states : goal.returns-then-states
returns-then-states c = inr (
  λ late. let differ = c.if-states.true in let same = late.size in omega (arith, differ, c.states.ensures.states, c.states-2.ensures.states, ap (λ p. p.states) c.root.ensures.root, ap (λ b. b.root.states) c.board.ensures.board, same),
  (
    Err WrongSize,
    (λ same. let differ = c.if-states.true in omega (arith, differ, c.states.ensures.states, c.states-2.ensures.states, ap (λ p. p.states) c.root.ensures.root, ap (λ b. b.root.states) c.board.ensures.board, same), refl),
    record { root = refl; format = refl; complete = λ complete. refl },
    refl,
    subst (λ (n : Option ℕ). NotesRefusal n c.in_ok-out.out) c.number.ensures c.in_ok-out.ensures.ok,
  ),
)

pub returns-then-is_known : goal.returns-then-is_known
returns-then-is_known c = inr (
  λ late. late.new (rw (← c.board-2.ensures.board) (c.is_known.ensures.0 c.if-is_known.true)),
  (
    Ok Known,
    (rw (← c.board-2.ensures.board) (c.is_known.ensures.0 c.if-is_known.true), refl),
    record { root = refl; format = refl; complete = λ complete. refl },
    refl,
    record { cut_is = c.sent.ensures.cut; append_is = c.sent.ensures.append; frames_are = ap (λ v. v.items) c.sent.ensures.frames ∙ c.in_ok-frames.ensures; note_is = c.sent.ensures.note },
  ),
)
