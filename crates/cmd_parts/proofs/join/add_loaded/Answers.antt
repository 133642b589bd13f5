use Rattle.std.proofs.Common.{◌≡◌, ◌≢◌, ◌∙◌, refl, sym, subst}
use Rattle.std.specs.Prelude.{Contains, codes}
use Rattle.machine_text.specs.Terms.{Packed}
use Rattle.ledger.specs.Terms.{IsOpenOn, same_table}
use Rattle.ledger.proofs.Claims.{differ}
use Rattle.cmd_ledgers.proofs.ReadLedgers.{no_difference}
use Rattle.cmd_parts.specs.Join.{IsMetAs}
use Rattle.cmd_parts.proofs.JoinedParts.{met_loaded, unmet}
use Rattle.cmd_parts.proofs.join.add_loaded.Goals as goal

pub returns-then-ne-clause-ok : goal.returns-then-ne-clause-ok
unfolding same_table
returns-then-ne-clause-ok g c =
    let differs : c.args.part.now.root ≢ c.args.root.now = subst (λ (p : Packed). p ≢ c.args.root.now) c.root.ensures.root ((differ c.root.result.now c.args.root.now c.ne.result c.ne.ensures).0 c.if-ne.true) in
    unmet (g.C.Collector.counts c.args.collector.now) (IsMetAs c.args.part.now c.args.left.now c.args.path.now c.args.root.now) c.says.result _ _ _ _ c.args.path.now (codes "refused 406") (differs, refl) c.says.ensures.ok

pub add-requires : goal.add-requires
unfolding same_table
add-requires g c =
    let same : c.args.part.now.root ≡ c.args.root.now = sym c.root.ensures.root ∙ no_difference c.root.result.now c.args.root.now c.ne.result c.ne.ensures c.if-ne.false in
    subst (λ (t : Packed). IsOpenOn c.args.whole.now.trunk t × (Contains c.args.whole.now.roots t → ⊥)) (sym same) c.requires

pub returns-clause-ok : goal.returns-clause-ok
unfolding same_table
returns-clause-ok g c =
    let same : c.args.part.now.root ≡ c.args.root.now = sym c.root.ensures.root ∙ no_difference c.root.result.now c.args.root.now c.ne.result c.ne.ensures c.if-ne.false in
    met_loaded (g.C.Collector.counts c.args.collector.now) (g.C.Collector.counts c.add.new.collector) c.says_left.result _ _ _ _ _ _ c.args.part.now c.args.left.now c.args.path.now c.args.root.now same c.in_ok-add.ensures c.says_left.ensures.ok
