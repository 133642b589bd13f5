use Rattle.std.proofs.Common.{ℕ, List, ◌++◌, ap, ◌∙◌}
use Rattle.cmd_page.specs.Census.{census_numbers, counts_json}
use Rattle.cmd_page.specs.Page.{page_html}
use Rattle.cmd_page.proofs.page.page_of.Goals as goal

pub returns : goal.returns
returns c = λ root rs tells.
    let both = c.in_ok-told.ensures root rs tells in
    let lines = c.in_ok-lines.lines.items in
    let page : List ℕ → List ℕ → List ℕ = λ lines json. page_html c.args.heading.now lines json (counts_json (census_numbers c.args.census.now) c.args.left.now) in
    record {
      lines = lines;
      json = c.in_ok-json.json.items;
      are_lines = c.in_ok-lines.ensures root rs both.0;
      is_json = c.in_ok-json.ensures root rs both.1;
      is = c.in_ok-append_page.ensures ∙ (ap (λ (l : List ℕ). l ++ page c.deref.result.now c.deref-2.result.now) c.new-page.ensures.items
          ∙ (ap (λ (l : List ℕ). page l c.deref-2.result.now) c.deref.ensures.value ∙ ap (page lines) c.deref-2.ensures.value));
    }
