use Rattle.std.proofs.Common.{◌≡◌, ◌++◌, refl, ap, ◌∙◌}
use Rattle.std.specs.Prelude.{codes}
use Rattle.std.specs.Vec.Iter.{into_iter_items}
use Rattle.machine_text.specs.Terms.{Packed}
use Rattle.cmd_ledgers.specs.Report.{line_of, table_lines, greatest_text, head_text, report_text, status_name}
use Rattle.cmd_ledgers.proofs.TreeReports.{on_ok, one_more}
use Rattle.cmd_ledgers.proofs.board_report.append_report.Goals as goal

pub returns-clause-ok : goal.returns-clause-ok
returns-clause-ok c =
    let root = c.args.board.now.root in
    let old = c.args.out.now.items in
    let status = c.status.result in
    let tally = c.tally-tally.result in
    let champions = into_iter_items c.in_ok-champions.champions in
    let ones_champions = into_iter_items c.in_ok-champions.ones_champions in
    let holdouts = into_iter_items c.in_ok-champions.holdouts in
    let word = status_name status in
    let head = head_text root word tally in
    let first = head ++ table_lines (codes "champion") champions in
    let ones = first ++ line_of (codes "ones") (greatest_text tally.ones) in
    let second = ones ++ table_lines (codes "ones_champion") ones_champions in
    let has_head : c.append_head.new.out.items ≡ old ++ head =
    c.in_ok-append_head.ensures.ok ∙ ap (λ (t : Packed). old ++ head_text t word tally) c.root.ensures.root in
    let has_first : c.append_tables.new.out.items ≡ old ++ first = one_more old head (table_lines (codes "champion") champions) has_head c.in_ok-append_tables.ensures.ok in
    let has_ones : c.append_greatest.new.out.items ≡ old ++ ones = one_more old first (line_of (codes "ones") (greatest_text tally.ones)) has_first c.in_ok-append_greatest.ensures.ok in
    let has_second : c.append_tables-2.new.out.items ≡ old ++ second = one_more old ones (table_lines (codes "ones_champion") ones_champions) has_ones c.in_ok-append_tables-2.ensures.ok in
    on_ok c.append_tables-3.result (λ last. (
      report_text root word tally champions ones_champions holdouts,
      record {
        status = status;
        tally = tally;
        champions = champions;
        ones_champions = ones_champions;
        holdouts = holdouts;
        stands = c.status.ensures.stands;
        counted = c.tally-tally.ensures;
        are_champions = c.in_ok-champions.ensures.champions tally.best c.tally-tally.ensures.best;
        are_ones_champions = c.in_ok-champions.ensures.ones_champions tally.ones c.tally-tally.ensures.ones;
        are_holdouts = c.in_ok-champions.ensures.holdouts;
        is = refl;
      },
      one_more old second (table_lines (codes "holdout") holdouts) has_second last,
    )) c.append_tables-3.ensures.ok
