use Rattle.std.proofs.Common.{◌≡◌, ℕ, List, ◌++◌, sym, ap, ◌∙◌, subst, append_assoc}
use Rattle.libbb.specs.Pieces.{IsBehind}
use Rattle.libbb.proofs.reader.begun.Goals as goal

pub returns : goal.returns
returns c = λ none.
    let front = c.split_at.result.0.now in
    let back = c.split_at.result.1.now in
    let whole : c.bytes-2.result.now ++ back ≡ c.args.first ++ c.args.piece.now =
    ap (λ (l : List ℕ). l ++ back) (c.bytes-2.ensures ∙ c.add.ensures)
    ∙ (append_assoc c.args.first front back ∙ ap (λ (l : List ℕ). c.args.first ++ l) (sym c.split_at.ensures.by_index.0)) in
    subst (λ (t : List ℕ). IsBehind t c.fed.result) whole (c.fed.ensures c.bytes-2.result.now c.of.ensures)
