use Rattle.std.proofs.Common.{ℕ, List, subst}
use Rattle.ledger.specs.LedgerText.{LoadGives}
use Rattle.ledger.specs.Loading.{Loading, StandsAfter}
use Rattle.ledger.proofs.loading.Loader.finish.Goals as goal

pub returns : goal.returns
returns c =
    subst (λ (l : Loading). (text : List ℕ) → StandsAfter l text → LoadGives l.root text c.finish.result) c.self.view_is (λ text stands. c.finish.ensures text stands.stage)
