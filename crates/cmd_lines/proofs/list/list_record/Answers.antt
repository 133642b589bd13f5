use Rattle.std.proofs.Common.{rules, ◌≡◌, ◌++◌, ◌∷◌, [], ℕ, List, true, false, sym, ◌∙◌, ap, append_assoc, append-nil, refl}
use Rattle.cert.specs.Terms.{record_text, recorded}
use Rattle.cmd_lines.specs.Listed.{found_line, of_record}
use Rattle.cmd_lines.proofs.Firsts.{came_before, came_not, one_double, one_first}
use Rattle.cmd_lines.proofs.list.list_record.Goals as goal

pub returns-then-not-branch-clause-ok : goal.returns-then-not-branch-clause-ok
returns-then-not-branch-clause-ok c =
    let r = of_record (recorded c.args.r.now) in
    let first = c.in_ok-put_first.field-0 in
    let none : first ≡ false = search rules in (
      [],
      one_double c.args.form.now.listing c.args.came.now.keys c.put_first.new.came.keys r r (refl, refl)
          (came_before c.args.came.now.keys r.table first c.in_ok-put_first.ensures.ok.0 none) c.in_ok-put_first.ensures.ok.1,
      sym (append-nil c.args.said.now.items),
    )

pub returns-clause-ok : goal.returns-clause-ok
returns-clause-ok c =
    let r = of_record (recorded c.args.r.now) in
    let first = c.in_ok-put_first.field-0 in
    let some : first ≡ true = search rules in (
      found_line r,
      one_first c.args.form.now.listing c.args.came.now.keys c.put_first.new.came.keys r r (refl, refl)
          (came_not c.args.came.now.keys r.table first c.in_ok-put_first.ensures.ok.0 some) c.in_ok-put_first.ensures.ok.1,
      c.in_ok-extend_from_slice.ensures.items ∙ (ap (λ (t : List ℕ). t ++ 10 ∷ []) c.in_ok-write_text.ensures.ok ∙ append_assoc c.args.said.now.items (record_text (recorded c.args.r.now)) (10 ∷ [])),
    )
