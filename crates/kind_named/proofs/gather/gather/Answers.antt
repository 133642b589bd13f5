use Rattle.kind_named.proofs.ArenaLaws.{extends_on}
use Rattle.kind_named.proofs.SectionLaws.{gathers_on, gathers_opened}
use Rattle.kind_named.proofs.gather.gather.Goals as goal

pub returns-then-periods-gt0-clause-gathers : goal.returns-then-periods-gt0-clause-gathers
returns-then-periods-gt0-clause-gathers c =
    gathers_opened _ _ _ _ _ _ _ _ (gathers_on _ _ _ _ _ _ _ _ _ c.loop.invariant.gathers c.in_ok-next.ensures.gathers) c.glides_behind.ensures.extends c.in_ok-periods.ensures.same

pub loop-preserved : goal.loop-preserved
loop-preserved c = record {
  old = extends_on _ _ _ c.loop.invariant.old (extends_on _ _ _ c.gather_one.ensures.old c.glides_behind.ensures.extends);
  gathers = gathers_opened _ _ _ _ _ _ _ _ (gathers_on _ _ _ _ _ _ _ _ _ c.loop.invariant.gathers c.in_ok-next.ensures.gathers) c.glides_behind.ensures.extends c.in_ok-periods.ensures.same;
}
