use Rattle.std.proofs.Common.{inr, ◌⊎◌, ◌≢◌, rules, ◌≡◌, ◌+◌, ◌<◌, ◌-◌, ℕ, sym, subst, arith}
use Rattle.std.specs.Int.{bit_at}
use Rattle.machine_text.specs.declared.table.Dir.{Dir}
use Rattle.tape.specs.inside.{bit_ahead, HasCells, HasAllCells}
use Rattle.tape.proofs.WordBits.{alike_left-all, nearest_left, unlike_left, alike_left, alike_right-all, nearest, nearest_right, positive}
use Rattle.tape.proofs.cell.alike.Goals as goal

pub overflow_sub-result : goal.overflow_sub-result
overflow_sub-result c =
    let near = nearest_left c.differing-others.result c.up_to.result c.args.word c.args.bit c.ilog2.result c.requires c.differing-others.ensures c.up_to.ensures c.ilog2.ensures.power_le c.ilog2.ensures.next_power_gt c.ilog2.ensures.bound in
    omega (arith, near)

pub returns-then-ahead-eq0-clause-alike : goal.returns-then-ahead-eq0-clause-alike
returns-then-ahead-eq0-clause-alike c =
    subst (λ (d : Dir). (i : ℕ) → i < c.args.bit + 1 → bit_at c.args.word (bit_ahead d c.args.bit i) ≡ bit_at c.args.word c.args.bit) (sym c.in-L.is)
    (alike_left-all c.differing-others.result c.up_to.result c.args.word c.args.bit c.requires c.differing-others.ensures c.up_to.ensures c.if-ahead-eq0.true)

pub returns-else-ahead-eq0-clause-some : goal.returns-else-ahead-eq0-clause-some
returns-else-ahead-eq0-clause-some c =
    let near = nearest_left c.differing-others.result c.up_to.result c.args.word c.args.bit c.ilog2.result c.requires c.differing-others.ensures c.up_to.ensures c.ilog2.ensures.power_le c.ilog2.ensures.next_power_gt c.ilog2.ensures.bound in
    omega (arith, near)

pub returns-else-ahead-eq0-clause-alike : goal.returns-else-ahead-eq0-clause-alike
returns-else-ahead-eq0-clause-alike c =
    subst (λ (d : Dir). (i : ℕ) → i < c.args.bit - c.ilog2.result → bit_at c.args.word (bit_ahead d c.args.bit i) ≡ bit_at c.args.word c.args.bit) (sym c.in-L.is)
    (alike_left c.differing-others.result c.up_to.result c.args.word c.args.bit c.ilog2.result c.requires c.differing-others.ensures c.up_to.ensures c.ilog2.ensures.next_power_gt)

pub returns-then-ahead-eq0-2-clause-alike : goal.returns-then-ahead-eq0-2-clause-alike
returns-then-ahead-eq0-2-clause-alike c =
    subst (λ (d : Dir). (i : ℕ) → i < 64 - c.args.bit → bit_at c.args.word (bit_ahead d c.args.bit i) ≡ bit_at c.args.word c.args.bit) (sym c.in-R.is)
    (alike_right-all c.differing-others.result c.args.word c.args.bit c.requires c.differing-others.ensures c.if-ahead-eq0-2.true)

pub returns-else-ahead-eq0-2-clause-some : goal.returns-else-ahead-eq0-2-clause-some
returns-else-ahead-eq0-2-clause-some c =
    (nearest_right c.differing-others.result c.args.word c.args.bit c.requires (search rules) c.differing-others.ensures (search rules) (positive _ c.if-ahead-eq0-2.false)).0

pub returns-else-ahead-eq0-2-clause-inside : goal.returns-else-ahead-eq0-2-clause-inside
returns-else-ahead-eq0-2-clause-inside c =
    subst (λ (d : Dir). HasCells d c.args.bit (nearest c.differing-others.result c.args.bit)) (sym c.in-R.is) (nearest_right c.differing-others.result c.args.word c.args.bit c.requires (search rules) c.differing-others.ensures (search rules) (positive _ c.if-ahead-eq0-2.false)).1

pub returns-else-ahead-eq0-2-clause-alike : goal.returns-else-ahead-eq0-2-clause-alike
returns-else-ahead-eq0-2-clause-alike c =
    subst (λ (d : Dir). (i : ℕ) → i < nearest c.differing-others.result c.args.bit → bit_at c.args.word (bit_ahead d c.args.bit i) ≡ bit_at c.args.word c.args.bit) (sym c.in-R.is)
    (nearest_right c.differing-others.result c.args.word c.args.bit c.requires (search rules) c.differing-others.ensures (search rules) (positive _ c.if-ahead-eq0-2.false)).2

pub returns-else-ahead-eq0-clause-all : goal.returns-else-ahead-eq0-clause-all
returns-else-ahead-eq0-clause-all c =
    let near = nearest_left c.differing-others.result c.up_to.result c.args.word c.args.bit c.ilog2.result c.requires c.differing-others.ensures c.up_to.ensures c.ilog2.ensures.power_le c.ilog2.ensures.next_power_gt c.ilog2.ensures.bound in
    subst (λ (d : Dir). HasAllCells d c.args.bit (c.args.bit - c.ilog2.result) ⊎ (bit_at c.args.word (bit_ahead d c.args.bit (c.args.bit - c.ilog2.result)) ≢ bit_at c.args.word c.args.bit)) (sym c.in-L.is)
    (inr (unlike_left c.differing-others.result c.up_to.result c.args.word c.args.bit c.ilog2.result c.requires c.differing-others.ensures c.up_to.ensures c.ilog2.ensures.power_le c.ilog2.ensures.next_power_gt near))

pub returns-else-ahead-eq0-2-clause-all : goal.returns-else-ahead-eq0-2-clause-all
returns-else-ahead-eq0-2-clause-all c =
    subst (λ (d : Dir). HasAllCells d c.args.bit (nearest c.differing-others.result c.args.bit) ⊎ (bit_at c.args.word (bit_ahead d c.args.bit (nearest c.differing-others.result c.args.bit)) ≢ bit_at c.args.word c.args.bit)) (sym c.in-R.is)
    (inr (nearest_right c.differing-others.result c.args.word c.args.bit c.requires (search rules) c.differing-others.ensures (search rules) (positive _ c.if-ahead-eq0-2.false)).3)
