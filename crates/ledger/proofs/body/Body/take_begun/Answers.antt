use Rattle.std.proofs.Common.{ap, subst, sym, ◌∙◌}
use Rattle.ledger.specs.Records.{Contents}
use Rattle.ledger.specs.LedgerText.{LineGives}
use Rattle.ledger.proofs.body.Body.take_begun.Goals as goal

pub returns-clause-ok : goal.returns-clause-ok
returns-clause-ok c line kept = record {
  why = c.in_ok-why.why;
  gives = subst (λ (b : Contents). LineGives c.args.self.now.board.format c.args.self.now.board.root c.args.self.now.board.records line c.in_ok-why.why b.records) (sym c.go_on.ensures.board)
      (c.in_ok-why.ensures.gives line (c.line.ensures ∙ kept));
  root = ap (λ (b : Contents). b.root) c.go_on.ensures.board ∙ c.in_ok-why.ensures.root;
  format = ap (λ (b : Contents). b.format) c.go_on.ensures.board ∙ c.in_ok-why.ensures.format;
  goes_on = c.go_on.ensures.goes_on;
  empty = c.go_on.ensures.line ∙ c.begin.ensures;
}
