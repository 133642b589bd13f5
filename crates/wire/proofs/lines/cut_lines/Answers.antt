use Rattle.std.proofs.Common.{sym, ◌∙◌}
use Rattle.text.proofs.Cuts.{split_at_cut, split_nowhere}
use Rattle.wire.proofs.LineLaws.{rest_at, rest_nowhere, line_added, all_cut, short_added}
use Rattle.wire.proofs.lines.cut_lines.Goals as goal

pub lines-preserved : goal.lines-preserved
lines-preserved c =
    let cut = split_at_cut 10 c.lines.left.now c.in-Some.line.now c.in-Some.behind.now c.in-Some.ensures.cut in
    record {
      lines = line_added _ _ _ _ _ _ c.in_ok-push_back.ensures.items (c.of.ensures.known ∙ c.in_ok-begun.ensures.kept) cut ∙ c.lines.invariant.lines;
      rest = sym (rest_at _ _ _ _ cut) ∙ c.lines.invariant.rest;
      within = short_added _ _ _ c.in_ok-push_back.ensures.items c.lines.invariant.within c.of.ensures.short;
    }

pub returns-clause-lines : goal.returns-clause-lines
returns-clause-lines c = all_cut _ _ _ (split_nowhere 10 c.lines.left.now c.in_default.ensures.cut) c.lines.invariant.lines

pub returns-clause-rest : goal.returns-clause-rest
returns-clause-rest c = c.in_ok-begun-2.ensures.kept ∙ sym (rest_nowhere _ _ (split_nowhere 10 c.lines.left.now c.in_default.ensures.cut)) ∙ c.lines.invariant.rest
