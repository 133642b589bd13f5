use Rattle.std.proofs.Common.{subst, sym, List, ℕ}
use Rattle.peers.specs.declared.pool_core.Awaited.{Awaited}
use Rattle.peers.specs.Crew.{none}
use Rattle.peers.proofs.Cores.{Uncounted, uncounted}
use Rattle.peers.proofs.pool_core.awaited_in.Goals as goal

pub parts-init : goal.parts-init
parts-init c =
    let frames = c.args.frames.now in
    let parts = subst (λ (parts : List (List ℕ)). Uncounted none frames parts) (sym c.of-parts.ensures) (uncounted frames) in
    let u = subst (λ (start : Awaited). Uncounted start frames c.of-parts.result) (sym c.none-awaited.ensures) parts in
    record { asks = u.asks; records = u.records; fits = u.fits }
