use Rattle.cert.proofs.Claims.{IsAskedTo}
use Rattle.cert.proofs.finder.decide_judged.Given as goal

abbrev pub invariant-loop-finder : goal.invariant-loop-finder
invariant-loop-finder g l =
    IsAskedTo (λ f claim. g.F.Finder.gives f l.fn.t l.fn.budget claim) l.fn.t l.finder-index l.finders l.fn.finders
