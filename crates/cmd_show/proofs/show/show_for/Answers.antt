use Rattle.std.proofs.Common.{inl, refl, subst, List, ℕ}
use Rattle.cmd_show.specs.inside.{KeepsLines}
use Rattle.cmd_show.proofs.PictureLaws.{keeps_all, keeps_both}
use Rattle.cmd_show.proofs.show.show_for.Goals as goal

pub pieces-init : goal.pieces-init
pieces-init g c = subst (λ (waits : List ℕ). KeepsLines waits (g.W.Write.contents c.args.answers.now) c.new-printer.result.waits.items (g.W.Write.contents c.args.answers.now)) c.new-printer.ensures (keeps_all _ _)

pub pieces-preserved : goal.pieces-preserved
pieces-preserved g c = keeps_both _ _ _ _ _ _ c.pieces.invariant c.in_ok-print_all.ensures.lines

pub returns-then-not-more-clause-lines : goal.returns-then-not-more-clause-lines
returns-then-not-more-clause-lines g c = (keeps_both _ _ _ _ _ _ c.pieces.invariant c.in_ok-print_all.ensures.lines (inl refl)).1
