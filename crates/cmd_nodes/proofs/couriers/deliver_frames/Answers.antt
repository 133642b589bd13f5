use Rattle.std.proofs.Common.{◌≡◌, ℕ, List, ◌++◌, Option, sym, ap, ◌∙◌, append_assoc, subst}
use Rattle.std.specs.Borrow.{Bor}
use Rattle.text.specs.Terms.{IsCut}
use Rattle.cmd_nodes.specs.Moving.{Delivers, left_of}
use Rattle.cmd_nodes.proofs.Traffic.{carries_frame}
use Rattle.cmd_nodes.proofs.couriers.deliver_frames.Goals as goal

pub frames-preserved : goal.frames-preserved
frames-preserved c =
    let inv = c.frames.invariant in
    let every = c.args.losses.now.every in
    let frame = c.cut.result.0.now in
    let piece : List ℕ = left_of every c.frames.losses.counted frame in
    let begins = subst (λ (o : Option (Bor (List ℕ))). IsCut c.frames.left.now frame o) c.in-Some.is c.cut.ensures.cut in
    let left : c.deliver_frame.new.to.waiting ≡ c.frames.to.waiting ++ piece =
    subst (λ (o : Option ℕ). c.deliver_frame.new.to.waiting ≡ c.frames.to.waiting ++ left_of o c.frames.losses.counted frame) inv.0 c.in_ok-deliver_frame.ensures.left in (
      c.deliver_frame.ensures.every ∙ inv.0,
      (
        inv.1.0 ++ piece,
        left ∙ (ap (λ (l : List ℕ). l ++ piece) inv.1.1 ∙ append_assoc c.args.to.now.waiting inv.1.0 piece),
        λ delivered after carries. subst (λ (l : List ℕ). Delivers every c.args.losses.now.counted c.args.sent.now l after) (sym (append_assoc inv.1.0 piece delivered))
            (inv.1.2 (piece ++ delivered) after
            (carries_frame every c.frames.losses.counted after c.frames.left.now frame c.in-Some.rest.now delivered begins
            (subst (λ (n : ℕ). Delivers every n c.in-Some.rest.now delivered after) c.deliver_frame.ensures.counted carries))),
      ),
    )
