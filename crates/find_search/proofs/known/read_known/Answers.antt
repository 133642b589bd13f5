use Rattle.std.proofs.Common.{[], sym, subst}
use Rattle.cmd_ledgers.proofs.ReadLedgers.{all_first}
use Rattle.cmd_lines.specs.Terms.{HasTakenLines}
use Rattle.cmd_lines.proofs.AnsweredLines.{nothing_taken}
use Rattle.find_search.specs.inside.{LineTells}
use Rattle.find_search.proofs.Lines.{all_tell}
use Rattle.find_search.proofs.known.read_known.Goals as goal

pub returns : goal.returns
returns g c =
    let start = c.new-known.result in
    let none = subst (λ begun. HasTakenLines LineTells start [] begun start) (sym c.new-lines.ensures) (nothing_taken LineTells start) in
    let (text, is_read, takes) = c.in_ok-take_from.ensures.ok in
    let (lines, are_lines, taken) = c.in_ok-end.ensures.ok start text (takes start [] none) in
    let (tables, refused) = all_tell lines start c.end.new.taker c.new-known.ensures.known c.new-known.ensures.lines c.new-known.ensures.refused taken in
    record {
      text = text;
      first = all_first _ _ c.args.limit text is_read.consumed is_read.within is_read.whole;
      lines = lines;
      are_lines = are_lines;
      tables = tables;
      refused = refused;
    }
