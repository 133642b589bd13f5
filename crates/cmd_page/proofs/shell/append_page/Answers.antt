use Rattle.std.proofs.Common.{ℕ, List, ◌++◌, ap, ◌∙◌}
use Rattle.cmd_page.specs.Census.{census_numbers, counts_json}
use Rattle.cmd_page.specs.Page.{escaped, Headed, origin_html, opening_html, page_html, told_html}
use Rattle.cmd_page.specs.declared.look.TheConstants.{LINES, REPORT}
use Rattle.cmd_page.proofs.PageTexts.{ends, then}
use Rattle.cmd_page.proofs.shell.append_page.Goals as goal

pub returns : goal.returns
unfolding page_html
returns c =
    let r = c.append_told.result in
    let old = c.args.out.now.items in
    let heading = c.args.heading.now in
    let told = told_html c.args.json.now (counts_json (census_numbers c.args.census.now) c.args.left.now) in
    let opened = c.in_ok-append_opening.ensures ∙ ap (λ (t : List ℕ). old ++ opening_html t) c.as_bytes.ensures.value ∙ ap (λ (h : Headed). old ++ opening_html h.title) c.heading.view_is in
    then r _ _ (opening_html heading.title) _ _ opened (then r _ _ REPORT.now _ _ c.in_ok-extend_from_slice.ensures.items
    (then r _ _ (origin_html heading) _ _ c.in_ok-append_origin.ensures (then r _ _ LINES.now _ _ c.in_ok-extend_from_slice-2.ensures.items
    (then r _ _ (escaped c.args.lines.now) _ _ c.in_ok-append_escaped.ensures (ends r _ told _ c.append_told.ensures)))))
