use Rattle.std.proofs.Common.{◌≡◌, ℕ, ◌-◌, List, ◌++◌, length, take, drop, sym, ap, ◌∙◌, append_assoc, take-append-drop}
use Rattle.std.proofs.lemmas.List.{take_rest}
use Rattle.std.proofs.KnownBytes.{Appends-trans}
use Rattle.cmd_options.proofs.writing.write_in_full.Goals as goal

moves_front : (all done rest : List ℕ) (n : ℕ) → all ≡ done ++ rest → all ≡ (done ++ take n rest) ++ take (length rest - n) (drop n rest)
moves_front all done rest n e =
    e ∙ ap (λ l. done ++ l) (sym (take-append-drop n rest)) ∙ sym (append_assoc done (take n rest) (drop n rest)) ∙ ap (λ l. (done ++ take n rest) ++ l) (sym (take_rest rest n))

pub calls-preserved : goal.calls-preserved
calls-preserved g c =
    let inv = c.calls.invariant in
    let rest = c.calls.left.now in
    let n = c.in-Ok.count in
    (inv.0 ++ take n rest, moves_front _ inv.0 rest n inv.1, Appends-trans _ _ _ _ _ inv.2 c.in-Ok.ensures.bytes)
