use Rattle.std.proofs.Common.{List, ℕ, length, drop, ap, sym, ◌∙◌, subst}
use Rattle.std.proofs.Math.Seq.{drop-append_seam}
use Rattle.ledger.specs.LedgerText.{ReadsIn, ledger_text}
use Rattle.ledger.specs.declared.header.Format.TheVariants.{Two}
use Rattle.ledger.specs.declared.loading.Left.TheVariants.{Nothing}
use Rattle.ledger.proofs.board.Board.write_ledger.Goals as goal

pub returns-in-Ok-clause-whole : goal.returns-in-Ok-clause-whole
returns-in-Ok-clause-whole c =
    let root = c.args.self.now.root in
    let rs = c.args.self.now.records in
    let old = c.args.out.now.items in
    subst (λ (l : List ℕ). ReadsIn Two root l rs Nothing) (sym (ap (drop (length old)) c.in-Ok.ensures.ok ∙ drop-append_seam old (ledger_text root rs)))
    (c.ledgers_load_whole.ensures root rs c.root.ensures.board)
