use Rattle.std.proofs.Common.{ap, drop, length, replicate, ◌++◌, ◌∙◌, List, ℕ}
use Rattle.std.proofs.lemmas.List.{drop-replicate}
use Rattle.peers.proofs.guest.filled.Goals as goal

pub returns : goal.returns
returns c =
    let key = c.args.key.now in
    ap (λ (l : List ℕ). l ++ drop (length key) (replicate 64 0)) c.copy_from_slice.ensures.after
    ∙ ap (λ (l : List ℕ). key ++ l) (drop-replicate (length key) 64 0)
