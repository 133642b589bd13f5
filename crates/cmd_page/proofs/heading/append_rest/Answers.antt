use Rattle.std.proofs.Common.{◌≡◌, ℕ, ◌++◌, length, codes, ap, ◌∙◌, rules}
use Rattle.std.specs.Prelude.{slice_index}
use Rattle.cmd_page.specs.Census.{kinds_json, numbers_json, rest_json}
use Rattle.cmd_page.proofs.PageTexts.{ended, ends, then}
use Rattle.cmd_page.proofs.heading.append_rest.Goals as goal

pub returns : goal.returns
unfolding rest_json
returns c =
    let r = c.extend_from_slice-3.result in
    let census = c.args.census.now in
    let size : length census.steps ≡ 64 = search rules in
    let steps = c.in_ok-append_numbers.ensures ∙ ap (λ (n : ℕ). c.extend_from_slice.new.self.items ++ numbers_json n (slice_index census.steps)) size in
    then r _ _ (codes ",\"steps\":[") _ _ c.in_ok-extend_from_slice.ensures.items (then r _ _ (numbers_json 64 (slice_index census.steps)) _ _ steps
    (then r _ _ (codes "]") _ _ c.in_ok-extend_from_slice-2.ensures.items (then r _ _ (kinds_json (slice_index census.kinds)) _ _ c.in_ok-append_kinds.ensures
    (ends r _ (codes "}\n") _ (ended r _ (codes "}\n") _ c.extend_from_slice-3.ensures.items)))))
