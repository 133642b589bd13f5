use Rattle.std.proofs.Common.{List, inr, sym, subst}
use Rattle.std.proofs.lemmas.Result.{err_from_is_err_and}
use Rattle.machine_text.specs.Terms.{Packed}
use Rattle.ledger.specs.Terms.{Contents, IsOpenOn, AreAll}
use Rattle.ledger.proofs.StageLaws.{if_err}
use Rattle.cmd_parts.proofs.JoinedParts.{warns_all}
use Rattle.cmd_page.proofs.PageLaws.{page_told}
use Rattle.cmd_page.proofs.page.write_folder_page.Goals as goal

pub returns-clause-tells : goal.returns-clause-tells
returns-clause-tells g c = page_told c.args.title.now c.args.maker.now.version.now c.args.maker.now.sum c.deref.result.now c.in_ok-sum.sum (g.S.PartLedgers.finds c.args.parts.now) c.args.folder.now
    (g.W.Write.contents c.args.answers.now) (g.W.Write.contents c.tell_whole.new.answers) (g.E.Write.contents c.args.faults.now) (g.E.Write.contents c.gather.new.faults)
    c.in_ok-whole.whole c.in_ok-whole.is_sound c.gather.new.collector.census c.tell_whole.result c.in_ok-whole.ensures.ok c.count_fits.ensures c.tell_whole.ensures.ok c.in_ok-sum.ensures
    (subst (λ (l : List Packed). AreAll (IsOpenOn c.in_ok-whole.whole.trunk) l) (sym c.deref.ensures.value)
    (subst (λ (b : Contents). AreAll (IsOpenOn b) c.in_ok-roots.roots.items) c.trunk.ensures c.in_ok-roots.ensures))

pub returns-clause-warned : goal.returns-clause-warned
returns-clause-warned g c =
    let gathered = c.in_ok-whole.ensures.ok in
    let warns = warns_all (g.S.PartLedgers.finds c.args.parts.now) c.args.folder.now c.in_ok-whole.whole.trunk gathered.parts gathered.lines (g.E.Write.contents c.args.faults.now) (g.E.Write.contents c.gather.new.faults) gathered.holds gathered.says in
    if_err c.tell_whole.result (λ e silent. inr warns) c.tell_whole.ensures.err

pub returns-in_err-roots-clause-warned : goal.returns-in_err-roots-clause-warned
returns-in_err-roots-clause-warned g c =
    let gathered = c.in_ok-whole.ensures.ok in
    let p = err_from_is_err_and c.from_residual-in_err-roots.result c.from_residual-in_err-roots.ensures.1 in
    rw p.1 (inr (warns_all (g.S.PartLedgers.finds c.args.parts.now) c.args.folder.now c.in_ok-whole.whole.trunk gathered.parts gathered.lines (g.E.Write.contents c.args.faults.now) (g.E.Write.contents c.gather.new.faults) gathered.holds gathered.says))

pub returns-in_err-sum-clause-warned : goal.returns-in_err-sum-clause-warned
returns-in_err-sum-clause-warned g c =
    let gathered = c.in_ok-whole.ensures.ok in
    let p = err_from_is_err_and c.from_residual-in_err-sum.result c.from_residual-in_err-sum.ensures.1 in
    rw p.1 (inr (warns_all (g.S.PartLedgers.finds c.args.parts.now) c.args.folder.now c.in_ok-whole.whole.trunk gathered.parts gathered.lines (g.E.Write.contents c.args.faults.now) (g.E.Write.contents c.gather.new.faults) gathered.holds gathered.says))
