use Rattle.std.proofs.Common.{List, inl, refl, sym, subst}
use Rattle.machine_text.specs.Terms.{Packed}
use Rattle.ledger.specs.Terms.{Contents, IsOpenOn, AreAll}
use Rattle.cmd_parts.proofs.ToldLedgers.{joins_so, told_so, all_missed, ends_joining, first_missed, first_told, ledgers_told, trunk_came}
use Rattle.cmd_parts.proofs.join_stream.join_stream.Goals as goal

pub returns : goal.returns
returns g c =
    let IsText = g.P.ReportForm.is_text c.args.form.now in
    let new = c.take_ledgers.new.taker in
    let whole = c.in-Some.whole in
    let roots = c.deref.result.now in
    let all = c.in_ok-are_all.are_all in
    let both = c.are_both-both.result in
    let opened : AreAll (IsOpenOn whole.trunk) roots = subst (λ (l : List Packed). AreAll (IsOpenOn whole.trunk) l) (sym c.deref.ensures.value)
    (subst (λ (b : Contents). AreAll (IsOpenOn b) c.in_ok-roots.roots.items) c.trunk.ensures c.in_ok-roots.ensures) in
    let read = g.R.Read.remaining c.args.input.now in
    let new_read = g.R.Read.remaining c.take_ledgers.new.input in
    let said = g.W.Write.contents c.args.answers.now in
    let new_said = g.W.Write.contents c.tell_whole.new.answers in
    let faults = g.E.Write.contents c.args.faults.now in
    let mid = g.E.Write.contents c.take_ledgers.new.faults in
    let new_faults = g.E.Write.contents c.says_missing.new.faults in
    joins_so IsText c.tell_whole.result read new_read said new_said faults new_faults
    (told_so IsText c.new-joiner.result new whole roots all both c.tell_whole.result read new_read faults mid new_faults said new_said c.new-joiner.ensures.whole c.new-joiner.ensures.came c.in_ok-take_ledgers.ensures.ok
    c.in-Some.is opened c.in_ok-are_all.ensures.ok c.are_both-both.ensures.sound c.are_both-both.ensures.neither c.tell_whole.ensures.ok) c.tell_whole.ensures.err
    (all_missed c.new-joiner.result new whole roots all read new_read faults mid new_faults c.tell_whole.result c.new-joiner.ensures.whole c.new-joiner.ensures.came c.in_ok-take_ledgers.ensures.ok c.in-Some.is opened c.in_ok-are_all.ensures.ok)

pub returns-in_err-take_ledgers : goal.returns-in_err-take_ledgers
returns-in_err-take_ledgers g c =
    ends_joining (g.P.ReportForm.is_text c.args.form.now) c.from_residual.result _ _ _ _ _ _ _ c.from_residual.ensures.1 (inl refl) (first_told c.new-joiner.result _ _ _ _ _ c.new-joiner.ensures.whole c.new-joiner.ensures.came c.in_err-take_ledgers.ensures.first)

pub returns-in_default : goal.returns-in_default
returns-in_default g c = (inl refl, absurd (trunk_came c.new-joiner.result c.take_ledgers.new.taker _ _ _ _ c.new-joiner.ensures.whole c.new-joiner.ensures.came c.in_ok-take_ledgers.ensures.ok c.in_default.is))

pub returns-in_err-roots : goal.returns-in_err-roots
returns-in_err-roots g c =
    ends_joining (g.P.ReportForm.is_text c.args.form.now) c.from_residual-in_err-roots.result _ _ _ _ _ _ _ c.from_residual-in_err-roots.ensures.1 (inl refl)
    (ledgers_told c.new-joiner.result c.take_ledgers.new.taker c.in-Some.whole _ _ _ _ _ c.new-joiner.ensures.whole c.new-joiner.ensures.came c.in_ok-take_ledgers.ensures.ok c.in-Some.is)

pub returns-in_err-are_all : goal.returns-in_err-are_all
returns-in_err-are_all g c =
    let whole = c.in-Some.whole in
    let opened : AreAll (IsOpenOn whole.trunk) c.deref.result.now = subst (λ (l : List Packed). AreAll (IsOpenOn whole.trunk) l) (sym c.deref.ensures.value)
    (subst (λ (b : Contents). AreAll (IsOpenOn b) c.in_ok-roots.roots.items) c.trunk.ensures c.in_ok-roots.ensures) in
    ends_joining (g.P.ReportForm.is_text c.args.form.now) c.from_residual-in_err-are_all.result _ _ _ _ _ _ _ c.from_residual-in_err-are_all.ensures.1 (inl refl)
    (first_missed c.new-joiner.result c.take_ledgers.new.taker whole c.deref.result.now _ _ _ _ _ _ c.new-joiner.ensures.whole c.new-joiner.ensures.came c.in_ok-take_ledgers.ensures.ok c.in-Some.is opened c.in_err-are_all.ensures.first)
