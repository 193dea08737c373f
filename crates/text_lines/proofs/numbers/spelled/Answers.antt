use Rattle.std.proofs.Common.{◌≤◌, arith, lit<}
use Rattle.std.proofs.Math.Nat.{pow-le-pow_right, mul-le-mul_left}
use Rattle.text_lines.proofs.numbers.spelled.Goals as goal

pub overflow_mul-value : goal.overflow_mul-value
overflow_mul-value c =
    let few : c.loop-byte.byte-index ≤ 9 = omega arith in
    let small : c.from.result ≤ 16 = omega (arith, c.from.ensures) in
    omega (arith, pow-le-pow_right {n = 16} (lit< tt) few, mul-le-mul_left c.loop-byte.value small)

pub overflow_add-value : goal.overflow_add-value
overflow_add-value c =
    let few : c.loop-byte.byte-index ≤ 9 = omega arith in
    let small : c.from.result ≤ 16 = omega (arith, c.from.ensures) in
    let digit : c.from-in-loop-byte.result ≤ 15 = omega (arith, c.from-in-loop-byte.ensures, c.in_ok-digit.ensures.small) in
    omega (arith, pow-le-pow_right {n = 16} (lit< tt) few, mul-le-mul_left c.loop-byte.value small, digit)

pub returns-clause-small : goal.returns-clause-small
returns-clause-small c =
    let few : c.loop-byte.byte-index ≤ c.args.most = omega arith in
    omega (arith, pow-le-pow_right {n = 16} (lit< tt) few)
