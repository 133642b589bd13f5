use Rattle.std.proofs.Common.{◌+◌, ◌∷◌, drop, sym, ◌∙◌, ap, length, arith}
use Rattle.std.proofs.lemmas.List.{drop_all, drop_more}
use Rattle.machine_text.specs.Terms.{Packed}
use Rattle.cmd_page.proofs.SummedLedgers.{begun_all, begun_more}
use Rattle.cmd_page.proofs.sums.append_parts.Goals as goal

pub loop-root-preserved : goal.loop-root-preserved
loop-root-preserved g c =
    let roots = c.args.roots.now in
    let i = c.loop-root.root-index in
    let one = c.in_ok-append_part.ensures in
    let first = drop_more roots i c.root-item.result c.loop-root-test.true ∙ ap (λ (p : Packed). p ∷ drop (i + 1) roots) (sym c.root-item.is) in
    begun_more (g.S.PartLedgers.finds c.args.parts.now) c.args.folder.now roots (drop i roots) c.root-item.result (drop (i + 1) roots) one.0 c.args.list.now.items c.loop-root.list.items c.append_part.new.list.items
    c.loop-root.invariant first one.1 one.2

pub returns : goal.returns
returns g c =
    let roots = c.args.roots.now in
    let i = c.loop-root.root-index in
    let none = drop_all i roots (omega (arith, c.loop-root-test.false)) in
    begun_all (g.S.PartLedgers.finds c.args.parts.now) c.args.folder.now roots (drop i roots) c.args.list.now.items c.loop-root.list.items c.loop-root.invariant (ap length none)
