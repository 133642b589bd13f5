use Rattle.std.proofs.Common.{◌≡◌, ℕ, List, ◌++◌, ap, ◌∙◌}
use Rattle.std.specs.Prelude.{codes}
use Rattle.machine_text.specs.Terms.{text_of}
use Rattle.cmd_ledgers.specs.Report.{line_of, status_name, counts_text}
use Rattle.cmd_ledgers.proofs.TreeReports.{on_ok, one_more}
use Rattle.cmd_ledgers.proofs.board_report.append_head.Goals as goal

pub returns-clause-ok : goal.returns-clause-ok
returns-clause-ok c =
    let old = c.args.out.now.items in
    let root = line_of (codes "root") (text_of c.args.root.now) in
    let status = line_of (codes "status") (status_name c.args.status) in
    let has_status : c.append_line.new.out.items ≡ c.append_table_line.new.out.items ++ status =
    c.in_ok-append_line.ensures.ok
    ∙ ap (λ (l : List ℕ). c.append_table_line.new.out.items ++ line_of (codes "status") l) (c.as_bytes.ensures.value ∙ c.status_name.ensures) in
    on_ok c.append_counts.result
    (λ last. one_more old (root ++ status) (counts_text c.args.tally.now) (one_more old root status c.in_ok-append_table_line.ensures.ok has_status) last) c.append_counts.ensures.ok
