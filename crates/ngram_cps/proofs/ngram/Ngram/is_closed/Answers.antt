use Rattle.std.proofs.Common.{ℕ, subst, rules}
use Rattle.ngram_cps.specs.Words.{IsListing}
use Rattle.ngram_cps.specs.Lists.{lists_of}
use Rattle.ngram_cps.proofs.Closed.{decides, not_blank}
use Rattle.ngram_cps.proofs.ngram.Ngram.is_closed.Goals as goal

pub returns-then-not-holds_blank : goal.returns-then-not-holds_blank
returns-then-not-holds_blank c =
    let e = c.args.self.now in
    not_blank (lists_of e) c.args.t.now e.local.count (subst (λ (w : ℕ). IsListing w e.local.count e.local.text.now) e.widths.2 e.local.listed)
    (λ blank. let holds = c.holds_blank.ensures.1 blank in let fails = c.if-not-holds_blank.true in cc)

pub returns : goal.returns
returns c =
    let e = c.args.self.now in
    decides (lists_of e) c.args.t.now e.local.count _ c.requires e.limits.0 (subst (λ (w : ℕ). IsListing w e.local.count e.local.text.now) e.widths.2 e.local.listed) e.locals
    (c.holds_blank.ensures.0 (search rules)) c.each_goes_on.ensures
