use Rattle.std.proofs.Common.{◌+◌, ◌*◌, ◌^◌, ◌%◌, ◌≡◌, ◌≤◌, arith}
use Rattle.std.proofs.Math.Nat.{pow-le-pow_right}
use Rattle.std.proofs.lemmas.Nat.{one_shl}
use Rattle.far.specs.Limits.{word_bits, pair_limit}
use Rattle.far.proofs.numbers.set_limit.Goals as goal

pub returns-clause-small : goal.returns-clause-small
returns-clause-small c =
    let bits = c.args.last + 1 in
    let small : bits ≤ pair_limit + 1 = omega arith in
    let power : 2 ^ bits ≤ 2 ^ (pair_limit + 1) = pow-le-pow_right {n = 2} (omega arith) small in
    let shift : 1 * 2 ^ bits % 2 ^ word_bits ≡ 2 ^ bits = one_shl bits word_bits (omega arith) in
    omega arith
