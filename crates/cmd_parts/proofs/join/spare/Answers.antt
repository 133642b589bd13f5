use Rattle.std.proofs.Common.{rules, All, subst, take_all, arith}
use Rattle.std.proofs.lemmas.List.Elements.{All-more}
use Rattle.std.specs.Prelude.{false}
use Rattle.machine_text.specs.Terms.{Packed, text_of}
use Rattle.cmd_parts.specs.Settle.{path_within}
use Rattle.cmd_parts.proofs.join.spare.Goals as goal

pub loop-root-preserved : goal.loop-root-preserved
loop-root-preserved g c =
    let IsOther = λ (t : Packed). g.S.PartLedgers.tells_written c.args.parts.now (path_within c.args.folder.now (text_of t)) false in
    let other : IsOther c.root-item.result = search rules in
    All-more IsOther c.args.roots.now c.loop-root.root-index c.root-item.result c.loop-root-test.true c.loop-root.invariant (subst IsOther c.root-item.is other)

pub returns-clause-parts : goal.returns-clause-parts
returns-clause-parts g c =
    let IsOther = λ (t : Packed). g.S.PartLedgers.tells_written c.args.parts.now (path_within c.args.folder.now (text_of t)) false in
    subst (All IsOther) (take_all c.loop-root.root-index c.args.roots.now (omega (arith, c.loop-root-test.false))) c.loop-root.invariant
