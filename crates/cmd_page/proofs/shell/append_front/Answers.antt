use Rattle.std.proofs.Common.{ℕ, List, ◌++◌, ap, ◌∙◌}
use Rattle.cmd_page.specs.Page.{front_html, policy}
use Rattle.cmd_page.specs.declared.look.TheConstants.{LOOK, PAGE_START}
use Rattle.cmd_page.specs.declared.picture.TheConstants.{PICTURE}
use Rattle.cmd_page.specs.declared.script.TheConstants.{TOOLS}
use Rattle.cmd_page.proofs.PageTexts.{ended, ends, then}
use Rattle.cmd_page.proofs.shell.append_front.Goals as goal

pub returns : goal.returns
unfolding front_html
returns c =
    let r = c.extend_from_slice-5.result in
    let has_policy = c.in_ok-extend_from_slice-2.ensures.items ∙ ap (λ (l : List ℕ). c.extend_from_slice.new.self.items ++ l) c.policy.ensures in
    then r _ _ PAGE_START.now _ _ c.in_ok-extend_from_slice.ensures.items (then r _ _ policy _ _ has_policy
    (then r _ _ LOOK.now _ _ c.in_ok-extend_from_slice-3.ensures.items (then r _ _ PICTURE.now _ _ c.in_ok-extend_from_slice-4.ensures.items
    (ends r _ TOOLS.now _ (ended r _ TOOLS.now _ c.extend_from_slice-5.ensures.items)))))
