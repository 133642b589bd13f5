use Rattle.std.proofs.Common.{subst, sym, ◌++◌}
use Rattle.ledger.specs.Loading.{IsStageOf}
use Rattle.ledger.specs.declared.loading.Stage.{Stage}
use Rattle.ledger.proofs.StageLaws.{header_grows, refused_grows}
use Rattle.ledger.proofs.loading.add.Goals as goal

pub returns-in-Header-clause-ok : goal.returns-in-Header-clause-ok
returns-in-Header-clause-ok c text is =
    header_grows c.args.root.now text c.args.part.now c.in-Header.line c.add.new.self c.requires c.add.ensures
    (subst (λ (s : Stage). IsStageOf c.args.root.now text s) c.in-Header.is is)

pub returns-in-Refused-clause-ok : goal.returns-in-Refused-clause-ok
returns-in-Refused-clause-ok c text is =
    subst (λ (s : Stage). IsStageOf c.args.root.now (text ++ c.args.part.now) s) (sym c.in-Refused.is)
    (refused_grows c.args.root.now text c.args.part.now c.in-Refused.field-0 (subst (λ (s : Stage). IsStageOf c.args.root.now text s) c.in-Refused.is is))
