use Rattle.std.proofs.Common.{inr, refl, ◌∙◌, subst}
use Rattle.cmd_ledgers.specs.Terms.{EndsLedger}
use Rattle.cmd_options.specs.declared.ended.Ended.{Ended}
use Rattle.cmd_options.specs.declared.ended.Ended.TheVariants.{WrongRoot}
use Rattle.cmd_parts.proofs.ToldLedgers.{refused_so}
use Rattle.cmd_parts.proofs.join_stream.add_part.Goals as goal

pub returns-in_ok-numbered-in-Err-WrongRoot-clause-ok : goal.returns-in_ok-numbered-in-Err-WrongRoot-clause-ok
returns-in_ok-numbered-in-Err-WrongRoot-clause-ok g c =
    refused_so c.args.number c.args.text.now WrongRoot c.args.whole.now c.args.came.now.keys c.says-in-Err-WrongRoot.result (g.E.Write.contents c.args.faults.now) (g.E.Write.contents c.says-in-Err-WrongRoot.new.faults)
    c.deref-in-Err-WrongRoot.result.now (inr refl) (subst (λ (e : Ended). EndsLedger c.args.text.now e) c.in-Err-WrongRoot.field-0-is c.in-Err-WrongRoot.ensures.err) (c.deref-in-Err-WrongRoot.ensures.value ∙ c.in_ok-numbered-in-Err-WrongRoot.ensures) c.says-in-Err-WrongRoot.ensures.ok
