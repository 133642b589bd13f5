use Rattle.std.proofs.Common.{rules, inl, inr, List, ℕ}
use Rattle.ledger.specs.Terms.{IsOpenOn}
use Rattle.cmd_parts.proofs.FolderAnswers.{ok_so}
use Rattle.cmd_parts.proofs.answer.append_unrecorded.Goals as goal

pub returns-then-is_open : goal.returns-then-is_open
returns-then-is_open c =
    let is : IsOpenOn c.args.board.now c.args.t.now = search rules in
    ok_so c.append_open.result (λ o said. (said.0, inl (is, said.1), said.2)) c.append_open.ensures

pub returns-else-is_open : goal.returns-else-is_open
returns-else-is_open c =
    let no : IsOpenOn c.args.board.now c.args.t.now → ⊥ = search rules in
    ok_so c.append_unknown.result (λ o said. (said.0, inr (no, said.1), said.2)) c.append_unknown.ensures
