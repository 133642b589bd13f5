use Rattle.std.proofs.Common.{◌≡◌, ◌++◌, ◌≤◌, List, ℕ, length, drop, ◌∙◌, ap, arith}
use Rattle.machine_text.specs.Terms.{text_of}
use Rattle.cert.specs.Terms.{record_text, recorded}
use Rattle.cmd_lines.proofs.AnsweredLines.{kept_text, ok_then, table_within, when_ok}
use Rattle.cmd_lines.proofs.decide.append_kept.Goals as goal

pub split_at-requires : goal.split_at-requires
split_at-requires c =
    let r = recorded c.args.record.now in
    let within : length (text_of r.table) ≤ length (record_text r) = table_within r in
    let table : length c.text-table_len.result.now ≡ length (text_of r.table) = ap length c.text-table_len.ensures.text in
    let is_text : c.write_text.new.out.items ≡ record_text r = c.in_ok-write_text.ensures.ok ∙ ap (λ (t : List ℕ). t ++ record_text r) c.new-text.ensures.items in
    let text : length c.deref.result.now ≡ length (record_text r) = ap length (c.deref.ensures.value ∙ is_text) in
    omega arith

pub returns : goal.returns
returns c =
    let r = recorded c.args.record.now in
    let table = c.text-table_len.result.now in
    let is_text : c.write_text.new.out.items ≡ record_text r = c.in_ok-write_text.ensures.ok ∙ ap (λ (t : List ℕ). t ++ record_text r) c.new-text.ensures.items in
    ok_then c.extend_from_slice-2.result
    (λ more. kept_text r c.args.came.now c.args.out.now.items c.extend_from_slice.new.self.items c.extend_from_slice-2.new.self.items c.write_text.new.out.items c.split_at.result.1.now table is_text c.text-table_len.ensures.text
    c.in_ok-extend_from_slice.ensures.items (c.split_at.ensures.back ∙ ap (drop (length table)) c.deref.ensures.value) more)
    (when_ok c.extend_from_slice-2.result c.extend_from_slice-2.new.self.items (c.extend_from_slice.new.self.items ++ c.split_at.result.1.now) c.extend_from_slice.new.self.items c.extend_from_slice-2.ensures.items)
