use Rattle.std.proofs.Common.{◌≡◌, ℕ, List, Option, refl, subst, option_map}
use Rattle.std.specs.Borrow.{Bor}
use Rattle.ledger.specs.Loading.{record_start}
use Rattle.ledger.proofs.Feeding.{start_over, too_long}
use Rattle.ledger.proofs.body.take_start.Goals as goal

pub returns-in-None-clause-gives : goal.returns-in-None-clause-gives
returns-in-None-clause-gives c line kept =
    (too_long c.args.board.now.format line (start_over line (subst (λ (start : Option (Bor (List ℕ))). option_map (λ kept. kept.now) start ≡ record_start line) c.in-None.is kept)), refl)
