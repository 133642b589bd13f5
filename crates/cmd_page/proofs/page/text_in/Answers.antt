use Rattle.std.proofs.Common.{◌≡◌, ℕ, List, ◌++◌, ap, sym, subst, ◌∙◌}
use Rattle.cmd_page.proofs.page.text_in.Goals as goal

pub returns-in-Ok : goal.returns-in-Ok
returns-in-Ok g c = λ root rs tells.
    let made = g.P.ReportForm.bytes c.in_ok-made.made in
    let is : c.write.new.answers.items ≡ made = c.in-Ok.ensures ∙ ap (λ (l : List ℕ). l ++ made) c.new-text.ensures.items in
    subst (λ (t : List ℕ). g.P.ReportForm.is_text c.args.form.now root rs c.args.left.now t) (sym is) (c.in_ok-made.ensures root rs tells)
