use Rattle.std.proofs.Common.{◌∷◌, [], ◌∙◌, ap, ◌++◌}
use Rattle.machine_text.specs.Terms.{text_of}
use Rattle.ledger.specs.LedgerText.{header_words}
use Rattle.ledger.specs.declared.header.Format.TheVariants.{Two}
use Rattle.ledger.proofs.LedgerTexts.{third}
use Rattle.ledger.proofs.header.append_header.Goals as goal

pub returns-clause-ok : goal.returns-clause-ok
returns-clause-ok c =
    let words = c.extend_from_slice.new.self.items in
    third c.extend_from_slice-3.result c.args.out.now.items (header_words Two) (text_of c.args.root.now) (10 ∷ []) words c.extend_from_slice-2.new.self.items c.extend_from_slice-3.new.self.items
    (c.in_ok-extend_from_slice.ensures.items ∙ ap (λ l. c.args.out.now.items ++ l) c.header_words.ensures) (c.in_ok-extend_from_slice-2.ensures.items ∙ ap (λ l. words ++ l) c.text.ensures.text) c.extend_from_slice-3.ensures.items
