use Rattle.std.proofs.Common.{refl}
use Rattle.std.specs.Vec.Iter.{into_iter_items}
use Rattle.cmd_parts.proofs.look.print_of_folder.Goals as goal

pub returns : goal.returns
returns g c =
    let gathered = c.in_ok-whole.ensures.ok in (
      refl,
      record {
        trunk = c.in_ok-whole.whole.trunk;
        parts = gathered.parts;
        lines = gathered.lines;
        holds = gathered.holds;
        prints = (into_iter_items c.in_ok-holdouts.holdouts, c.in_ok-holdouts.ensures.holdouts gathered.parts gathered.whole_is, c.in_ok-print_holdouts.ensures);
        warns = gathered.says;
      },
    )
