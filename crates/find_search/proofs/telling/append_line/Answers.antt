use Rattle.cmd_ledgers.proofs.TreeReports.{on_ok, one_more}
use Rattle.find_search.specs.Known.{count_behind, first_refused}
use Rattle.find_search.proofs.telling.append_line.Goals as goal

pub returns : goal.returns
returns c =
    on_ok c.append_first.result
    (λ last. one_more c.args.out.now.items (count_behind c.args.path.now c.args.count) (first_refused c.args.first) c.in_ok-append_count.ensures last)
    c.append_first.ensures
