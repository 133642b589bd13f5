use Rattle.std.proofs.Common.{ℕ, List, ◌++◌, refl, subst, ◌∙◌}
use Rattle.std.specs.Io.KnownBytes.{Appends}
use Rattle.std.proofs.KnownBytes.{Appends-trans}
use Rattle.cmd_json.proofs.JsonAnswers.{stream_numbered}
use Rattle.cmd_page.specs.Page.{SaysEmbedded, records_head_html, records_heading}
use Rattle.cmd_page.specs.declared.records.Objects.{Objects}
use Rattle.cmd_page.specs.declared.script.TheConstants.{RECORDS_SCRIPT}
use Rattle.cmd_page.proofs.records.record_page_for.Goals as goal

pub returns-clause-ok : goal.returns-clause-ok
returns-clause-ok g c =
    let so = stream_numbered (λ (d : Objects). d.lines) SaysEmbedded _ _ _ _ _ _ _ refl c.in_ok-outcome.ensures.ok in
    let h0 = g.W.Write.contents c.args.answers.now in
    let h1 = g.W.Write.contents c.write_all.new.self in
    let h2 = g.W.Write.contents c.say_lines.new.says in
    let h3 = g.W.Write.contents c.write_all-2.new.self in
    let head = records_head_html (records_heading c.args.title.now c.args.maker.now.version.now c.args.maker.now.sum) in
    let begun : Appends h0 h1 head = subst (λ (l : List ℕ). Appends h0 h1 l) (c.deref.ensures.value ∙ c.in_ok-head.ensures) c.in_ok-write_all.ensures.bytes in
    record {
      text = so.text;
      lines = so.lines;
      objects = so.answers;
      consumed = so.consumed;
      whole = so.whole;
      are_lines = so.are_lines;
      answered = so.answered;
      written = Appends-trans h0 h2 h3 (head ++ so.answers) RECORDS_SCRIPT.now (Appends-trans h0 h1 h2 head so.answers begun so.written) c.in_ok-write_all-2.ensures.bytes;
    }
