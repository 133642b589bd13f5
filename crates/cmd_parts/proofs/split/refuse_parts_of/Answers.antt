use Rattle.std.proofs.Common.{rules, All, subst, take_all, arith}
use Rattle.std.proofs.lemmas.List.Elements.{All-more}
use Rattle.std.specs.Prelude.{Ok, false}
use Rattle.machine_text.specs.Terms.{Packed}
use Rattle.cmd_parts.proofs.split.refuse_parts_of.Goals as goal

pub loop-t-preserved : goal.loop-t-preserved
loop-t-preserved g c =
    let IsSeen = λ (t : Packed). g.G.Folder.sees c.args.folder.now t (Ok false) in
    let seen : IsSeen c.t-item.result = search rules in
    All-more IsSeen c.args.tables.now c.loop-t.t-index c.t-item.result c.loop-t-test.true c.loop-t.invariant (subst IsSeen c.t-item.is seen)

pub returns : goal.returns
returns g c =
    let IsSeen = λ (t : Packed). g.G.Folder.sees c.args.folder.now t (Ok false) in
    subst (All IsSeen) (take_all c.loop-t.t-index c.args.tables.now (omega (arith, c.loop-t-test.false))) c.loop-t.invariant
