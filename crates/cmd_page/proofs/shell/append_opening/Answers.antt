use Rattle.cmd_page.specs.Page.{escaped, front_html, opening_html}
use Rattle.cmd_page.specs.declared.look.TheConstants.{HEADING}
use Rattle.cmd_page.proofs.PageTexts.{ends, then}
use Rattle.cmd_page.proofs.shell.append_opening.Goals as goal

pub returns : goal.returns
unfolding opening_html
returns c =
    let r = c.append_escaped-2.result in
    let title = escaped c.args.title.now in
    then r _ _ front_html _ _ c.in_ok-append_front.ensures (then r _ _ title _ _ c.in_ok-append_escaped.ensures
    (then r _ _ HEADING.now _ _ c.in_ok-extend_from_slice.ensures.items (ends r _ title _ c.append_escaped-2.ensures)))
