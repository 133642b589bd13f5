use Rattle.std.proofs.Common.{◌≡◌, ℕ, ◌++◌, length, codes, ap, ◌∙◌, rules}
use Rattle.std.specs.Prelude.{slice_index}
use Rattle.cmd_page.specs.Census.{census_numbers, counts_json, left_json, numbers_json, rest_json}
use Rattle.cmd_page.proofs.PageTexts.{ends, then}
use Rattle.cmd_page.proofs.heading.append_counts.Goals as goal

pub returns : goal.returns
unfolding counts_json
returns c =
    let r = c.append_rest.result in
    let census = c.args.census.now in
    let size : length census.entries ≡ 15 = search rules in
    let entries = c.in_ok-append_numbers.ensures ∙ ap (λ (n : ℕ). c.extend_from_slice.new.self.items ++ numbers_json n (slice_index census.entries)) size in
    then r _ _ (codes "{\"entries\":[") _ _ c.in_ok-extend_from_slice.ensures.items (then r _ _ (numbers_json 15 (slice_index census.entries)) _ _ entries
    (then r _ _ (codes "],\"left\":") _ _ c.in_ok-extend_from_slice-2.ensures.items (then r _ _ (left_json c.args.left.now) _ _ c.in_ok-append_left.ensures
    (ends r _ (rest_json (census_numbers census)) _ c.append_rest.ensures))))
