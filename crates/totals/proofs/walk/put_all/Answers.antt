use Rattle.std.proofs.Common.{◌≡◌, [], ◌∷◌, ◌++◌, List, length, length-append, sym, ◌∙◌, ap, append_assoc, arith}
use Rattle.std.specs.List.{insert}
use Rattle.machine_text.specs.Terms.{Packed}
use Rattle.totals.proofs.Walks.{put_before}
use Rattle.totals.proofs.walk.put_all.Goals as goal

pub put_at-requires-clause-place : goal.put_at-requires-clause-place
put_at-requires-clause-place c = let all = c.loop-child.invariant.2 in omega (arith, simp length-append at (ap length all), c.len-before.ensures)

pub loop-child-preserved : goal.loop-child-preserved
loop-child-preserved c =
    let taken = c.loop-child.invariant.0 in
    let child = c.in-Some.child in
    let old = c.args.ahead.now.items in
    let steps : c.loop-child.child-iterator ≡ child ∷ c.next.new.self = c.in-Some.ensures.steps in (
      taken ++ (child ∷ []),
      append_assoc taken (child ∷ []) c.next.new.self ∙ (ap (λ (l : List Packed). taken ++ l) (sym steps) ∙ c.loop-child.invariant.1),
      c.put_at.ensures.items ∙ (ap (λ (l : List Packed). insert l c.len-before.result child) c.loop-child.invariant.2 ∙ put_before old taken c.len-before.result child (omega (arith, c.len-before.ensures))),
      omega (arith, c.put_at.ensures.len, c.put_at.ensures.capacity, ap length steps, c.loop-child.invariant.3),
    )
