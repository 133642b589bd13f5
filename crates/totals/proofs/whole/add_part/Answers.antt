use Rattle.std.proofs.Common.{◌∙◌, ◌∷◌, ◌++◌, [], ap, subst, List, Contains}
use Rattle.machine_text.specs.Terms.{Packed}
use Rattle.totals.specs.Totals.{totals_of}
use Rattle.totals.proofs.whole.add_part.Goals as goal

pub put_root-requires-clause-fresh : goal.put_root-requires-clause-fresh
put_root-requires-clause-fresh c = λ at.
    c.requires.fresh (subst (λ (l : List Packed). Contains l c.args.part.now.root) c.reserve.ensures.keys
    (subst (λ (t : Packed). Contains c.reserve.new.self.keys t) c.root.ensures.root at))

pub returns-clause-roots : goal.returns-clause-roots
returns-clause-roots c = c.put_root.ensures ∙ (ap (λ (l : List Packed). l ++ (c.root.result.now ∷ [])) c.reserve.ensures.keys
    ∙ ap (λ (t : Packed). c.args.roots.now.keys ++ (t ∷ [])) c.root.ensures.root)

pub returns-clause-totals : goal.returns-clause-totals
returns-clause-totals c = record {
  its = totals_of c.in_ok-more.more;
  are = c.in_ok-more.ensures;
  sum = c.in_ok-add.ensures.ok;
}
