use Rattle.std.proofs.Common.{[], ◌++◌, sym, subst}
use Rattle.cmd_ledgers.proofs.ReadLedgers.{all_first}
use Rattle.cmd_lines.specs.Terms.{HasTakenLines}
use Rattle.cmd_lines.proofs.AnsweredLines.{nothing_taken}
use Rattle.cmd_ledgers.specs.inside.{LineMends}
use Rattle.cmd_ledgers.proofs.mend.take_all.Goals as goal

pub returns : goal.returns
returns g c =
    let start = c.args.mender.now in
    let none = subst (λ begun. HasTakenLines LineMends start [] begun start) (sym c.new-lines.ensures) (nothing_taken LineMends start) in
    let first = c.in_ok-take.ensures.ok start [] none in
    let (more, is_read, takes) = c.in_ok-take_from.ensures.ok in
    let (lines, are_lines, taken) = c.in_ok-end.ensures.ok start (c.args.first.now ++ more) (takes start c.args.first.now first) in
    (more, all_first _ _ c.args.limit more is_read.consumed is_read.within is_read.whole, (lines, are_lines, taken))
