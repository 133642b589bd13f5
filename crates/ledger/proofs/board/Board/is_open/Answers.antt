use Rattle.std.proofs.Common.{IsTrue, ◌↔◌, subst, sym, ◌∙◌}
use Rattle.law_tree.specs.Terms.{IsOpen}
use Rattle.ledger.specs.Records.{mark_in, Contents}
use Rattle.ledger.proofs.board.Board.is_open.Goals as goal

pub returns : goal.returns
returns c =
    let exact = c.self.invariant.1.exact c.args.t.now in
    subst (λ (b : Contents). IsTrue c.contains_key.result ↔ IsOpen b.root (mark_in b.records) c.args.t.now) c.self.view_is
    (λ t. exact.0 (sym c.contains_key.ensures ∙ t), λ o. c.contains_key.ensures ∙ exact.1 o)
