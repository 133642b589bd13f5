use Rattle.std.proofs.Common.{◌≡◌, false, true, rules}
use Rattle.std.proofs.lemmas.Result.{IfOk-weaker}
use Rattle.far.specs.inside.ListedUnpacked.{numbers_of_unpacked}
use Rattle.far.proofs.ListedEdges.{automata_from, blank_from, each_from, back_from}
use Rattle.far.proofs.listed_unpacked.Unpacked.fits.Goals as goal

pub returns-then-not-keeps_blank : goal.returns-then-not-keeps_blank
returns-then-not-keeps_blank c =
    let e = c.args.self.now in (
      λ t. absurd (let clash : false ≡ true = t in cc),
      λ of. absurd (let holds = c.keeps_blank.ensures.1 (blank_from (numbers_of_unpacked e) e.limits.0 e.numbers c.args.t.now c.states.ensures.table c.requires of) in let fails = c.if-not-keeps_blank.true in cc),
    )

pub returns-then-not-each_pair_fits : goal.returns-then-not-each_pair_fits
returns-then-not-each_pair_fits c =
    let e = c.args.self.now in (
      λ t. absurd (let clash : false ≡ true = t in cc),
      λ of. absurd (let holds = c.each_pair_fits.ensures.1 (each_from (numbers_of_unpacked e) e.limits.0 e.numbers c.args.t.now c.states.ensures.table c.requires of) in let fails = c.if-not-each_pair_fits.true in cc),
    )

pub returns : goal.returns
returns c =
    let e = c.args.self.now in
    let blank = c.keeps_blank.ensures.0 (search rules) in
    let pairs = c.each_pair_fits.ensures.0 (search rules) in
    IfOk-weaker c.each_fits_back.result _ _ (λ fits is. (
      λ t. automata_from (numbers_of_unpacked e) e.limits.0 e.numbers c.args.t.now c.states.ensures.table c.requires e.limits.2 blank pairs (is.0 t),
      λ of. is.1 (back_from (numbers_of_unpacked e) e.limits.0 e.numbers c.args.t.now c.states.ensures.table c.requires of),
    )) c.each_fits_back.ensures
