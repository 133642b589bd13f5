use Rattle.std.proofs.Common.{◌≡◌, ℕ, List, ◌∷◌, ◌++◌, ◌+◌, ◌<◌, suc, flat_map, slice_index, drop, length, sym, ap, ◌∙◌, append_assoc, arith}
use Rattle.std.proofs.Math.Seq.{drop-cons}
use Rattle.cmd_options.specs.Terms.{kind_letters}
use Rattle.cmd_page.specs.Census.{kind_json}
use Rattle.cmd_page.proofs.heading.append_kinds.Goals as goal

pub loop-letter-preserved : goal.loop-letter-preserved
loop-letter-preserved c =
    let k = c.loop-letter.letter-index in
    let letter = slice_index kind_letters k in
    let row : ℕ → List ℕ = λ letter. kind_json letter (slice_index c.args.kinds.now letter) in
    let rest = flat_map row (drop (k + 1) kind_letters) in
    let out = c.loop-letter.out.items in
    let within : k < length kind_letters = omega (arith, c.loop-letter-test.true) in
    let next : k + 1 ≡ suc k = omega arith in
    ap (λ (l : List ℕ). l ++ rest) c.in_ok-append_kind.ensures
    ∙ (append_assoc out (row letter) rest
    ∙ (ap (λ (l : List ℕ). out ++ flat_map row l) (ap (λ (i : ℕ). letter ∷ drop i kind_letters) next ∙ sym (drop-cons kind_letters k 0 within)) ∙ c.loop-letter.invariant))
