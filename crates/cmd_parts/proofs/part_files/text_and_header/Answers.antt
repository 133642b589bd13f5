use Rattle.std.proofs.Common.{◌≡◌, ◌≤◌, ℕ, List, [], ◌∷◌, ◌++◌, length, drop, ap, ◌∙◌}
use Rattle.machine_text.specs.Terms.{Packed, text_of}
use Rattle.ledger.specs.Terms.{ledger_text, header_words}
use Rattle.ledger.specs.declared.header.Format.TheVariants.{Two}
use Rattle.cmd_parts.specs.Join.{record_lines}
use Rattle.cmd_parts.proofs.JoinedParts.{behind_header}
use Rattle.cmd_parts.proofs.part_files.text_and_header.Goals as goal

both : (c : goal.In_ok-write_ledger) → ((length c.as_slice-header.result.now) ≤ length c.write_ledger.new.out.items) × (drop (length c.as_slice-header.result.now) c.write_ledger.new.out.items ≡ record_lines c.args.board.now.records)
both c =
    let root = c.args.board.now.root in
    let header : c.append_header.new.out.items ≡ header_words Two ++ text_of root ++ (10 ∷ []) =
    c.in_ok-append_header.ensures.ok ∙ (ap (λ (l : List ℕ). l ++ (header_words Two ++ text_of c.root.result.now ++ (10 ∷ []))) c.new-text.ensures.items
    ∙ ap (λ (p : Packed). header_words Two ++ text_of p ++ (10 ∷ [])) c.root.ensures.root) in
    let all : c.write_ledger.new.out.items ≡ ledger_text root c.args.board.now.records =
    c.in_ok-write_ledger.ensures.ok ∙ ap (λ (l : List ℕ). l ++ ledger_text root c.args.board.now.records) c.clear.ensures.items in
    behind_header root c.args.board.now.records (length c.as_slice-header.result.now) c.append_header.new.out.items c.write_ledger.new.out.items header (ap length c.as_slice-header.ensures.value) all

pub returns-clause-within : goal.returns-clause-within
returns-clause-within c = (both c).0

pub returns-clause-lines : goal.returns-clause-lines
returns-clause-lines c = (both c).1
