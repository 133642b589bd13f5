use Rattle.std.proofs.Common.{◌≡◌, ◌*◌, ◌∙◌, sym, ap, subst, false, get_or-set_other, arith}
use Rattle.std.specs.Option.{is_some}
use Rattle.std.proofs.lemmas.Result.{err_from_is_err_and}
use Rattle.law_turing.specs.Terms.{Partial}
use Rattle.backward.specs.inside.{CountsOn, Exceeds}
use Rattle.backward.proofs.PathLaws.{entry_at, widths_none, widths_passed, widths_more, widths_all, widths_exceed, entry_by, standing_by}
use Rattle.backward.proofs.paths.count_all.Goals as goal

pub loop-place-init : goal.loop-place-init
loop-place-init c = record { unknown = λ x other. c.requires.unknown x; counts = widths_none _ _ c.requires.zeros }

pub loop-place-preserved-then-is_some : goal.loop-place-preserved-then-is_some
loop-place-preserved-then-is_some c =
    let entry = c.get.ensures.entry ∙ entry_by c.args.chains.now _ c.loop-place.place _ _ c.table.ensures c.pair_at-pair.ensures.state c.pair_at-pair.ensures.symbol in
    record {
      unknown = c.loop-place.invariant.unknown;
      counts = widths_passed _ _ _ (ap is_some (sym entry) ∙ sym c.is_some.ensures ∙ c.if-is_some.true) c.loop-place.invariant.counts;
    }

-- too many paths from one halting pair are too many altogether
pub returns-in_err-count_on-clause-wide : goal.returns-in_err-count_on-clause-wide
returns-in_err-count_on-clause-wide c =
    let entry = c.get.ensures.entry ∙ entry_by c.args.chains.now _ c.loop-place.place _ _ c.table.ensures c.pair_at-pair.ensures.state c.pair_at-pair.ensures.symbol in
    let halts : is_some (entry_at c.args.chains.now c.loop-place.place) ≡ false = ap is_some (sym entry) ∙ sym c.is_some.ensures ∙ c.if-is_some.false in
    let standing = standing_by c.loop-place.cells _ c.loop-place.place _ _ c.pair_at-pair.ensures.state c.pair_at-pair.ensures.symbol (omega (arith, c.requires.some, c.requires.size)) c.loop-place.invariant.unknown in
    let p = err_from_is_err_and c.from_residual.result c.from_residual.ensures.1 in
    rw p.1 (widths_exceed _ _ _ _ halts (omega (arith, c.places-place-end.ensures.places)) c.loop-place.auto.counts c.loop-place.invariant.counts (subst (λ (k : Partial). Exceeds c.args.chains.now 0 k c.loop-place.counts) standing c.in_err-count_on.ensures.wide))

pub loop-place-preserved : goal.loop-place-preserved
loop-place-preserved c =
    let entry = c.get.ensures.entry ∙ entry_by c.args.chains.now _ c.loop-place.place _ _ c.table.ensures c.pair_at-pair.ensures.state c.pair_at-pair.ensures.symbol in
    let halts : is_some (entry_at c.args.chains.now c.loop-place.place) ≡ false = ap is_some (sym entry) ∙ sym c.is_some.ensures ∙ c.if-is_some.false in
    let standing = standing_by c.loop-place.cells _ c.loop-place.place _ _ c.pair_at-pair.ensures.state c.pair_at-pair.ensures.symbol (omega (arith, c.requires.some, c.requires.size)) c.loop-place.invariant.unknown in
    record {
      unknown = λ x other. rw c.in_ok-count_on.ensures.cells (get_or-set_other c.loop-place.cells _ x _ _ other ∙ c.loop-place.invariant.unknown x other);
      counts = widths_more _ _ _ _ halts c.loop-place.invariant.counts c.count_on.auto.counts (subst (λ (k : Partial). CountsOn c.args.chains.now 0 k c.loop-place.counts c.count_on.new.counts) standing c.in_ok-count_on.ensures.counts);
    }

pub returns-clause-widths : goal.returns-clause-widths
returns-clause-widths c =
    widths_all _ _ _ (let gone : c.loop-place.place ≡ 2 * c.args.chains.now.states = omega (arith, c.places-place-end.ensures.places, c.loop-place.auto.place-end) in gone) c.loop-place.invariant.counts
