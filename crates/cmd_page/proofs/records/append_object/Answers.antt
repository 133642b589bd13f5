use Rattle.std.proofs.Common.{◌≡◌, ℕ, List, [], ◌∷◌, ◌++◌, refl, sym, ap, ◌∙◌, append_assoc}
use Rattle.std.proofs.lemmas.Grind.{flat_map-append}
use Rattle.cmd_page.specs.Page.{embedded, inner_byte}
use Rattle.cmd_page.proofs.records.append_object.Goals as goal

pub returns : goal.returns
unfolding inner_byte
returns c =
    let old = c.args.out.now.items in
    let so = c.in_ok-outcome.ensures in
    let answer = so.0 in
    let all : c.deref.result.now ≡ answer ++ 10 ∷ [] = c.deref.ensures.value ∙ (so.2 ∙ ap (λ (l : List ℕ). (l ++ answer) ++ 10 ∷ []) c.new-object.ensures.items) in
    let within : embedded c.deref.result.now ≡ embedded answer ++ 10 ∷ [] = ap embedded all ∙ flat_map-append inner_byte answer (10 ∷ []) in (
      embedded answer,
      record { object = answer; says = so.1; is = refl },
      c.in_ok-append_embedded.ensures ∙ (ap (λ (l : List ℕ). old ++ l) within ∙ sym (append_assoc old (embedded answer) (10 ∷ []))),
    )
