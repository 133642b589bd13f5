use Rattle.std.proofs.Common.{subst}
use Rattle.ledger.specs.Loading.{IsStageOf}
use Rattle.ledger.specs.declared.loading.Stage.{Stage}
use Rattle.ledger.proofs.StageLaws.{refused_ends}
use Rattle.ledger.proofs.loading.finish.Goals as goal

pub returns-in-Refused : goal.returns-in-Refused
returns-in-Refused c text is = refused_ends c.args.root text c.in-Refused.fault (subst (λ (s : Stage). IsStageOf c.args.root text s) c.in-Refused.is is)
