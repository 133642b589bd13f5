use Rattle.std.proofs.Common.{◌≡◌, [], ◌∷◌, ◌++◌, List, ℕ, ap, ◌∙◌}
use Rattle.std.specs.Vec.Iter.{into_iter_items}
use Rattle.serde_json.specs.View.{view}
use Rattle.serde_json.specs.Written.{has_float, compact_text}
use Rattle.machine_text.specs.Terms.{Packed}
use Rattle.cmd_ledgers.specs.Terms.{status_name}
use Rattle.cmd_json.specs.Forms.{report_value}
use Rattle.cmd_json.proofs.JsonAnswers.{report_has_none}
use Rattle.cmd_json.proofs.report.told_text.Goals as goal

pub returns : goal.returns
returns c = λ root rs tells.
    let told = c.args.told in
    let word = status_name told.status in
    let tally = told.tally in
    let champions = into_iter_items told.champions in
    let ones_champions = into_iter_items told.ones_champions in
    let holdouts = into_iter_items told.holdouts in
    let value : view c.in_ok-report.report ≡ report_value root word tally champions ones_champions holdouts =
    c.in_ok-report.ensures ∙ ap (λ (r : Packed). report_value r word tally champions ones_champions holdouts) tells.root_is in
    record {
      status = told.status;
      tally = tally;
      champions = champions;
      ones_champions = ones_champions;
      holdouts = holdouts;
      stands = tells.stands;
      counted = tells.counted;
      are_champions = tells.are_champions;
      are_ones_champions = tells.are_ones_champions;
      are_holdouts = tells.are_holdouts;
      is = c.in_ok-push.ensures.items ∙ ap (λ (l : List ℕ). l ++ 10 ∷ []) (
          c.in_ok-text.ensures.text (ap has_float value ∙ report_has_none root word tally champions ones_champions holdouts) ∙ ap compact_text value);
    }
