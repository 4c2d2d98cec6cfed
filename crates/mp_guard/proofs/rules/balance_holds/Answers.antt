use Rattle.std.proofs.Common.{◌≤◌, ◌*◌, arith}
use Rattle.mp_guard.proofs.RuleLemmas.{rate_small, mul-le}
use Rattle.mp_guard.proofs.rules.balance_holds.Goals as goal

pub overflow_mul-result-3 : goal.overflow_mul-result-3
overflow_mul-result-3 c =
    let r : c.rate.result ≤ 1000000000000 = omega (arith, c.rate.ensures, rate_small c.args.net.now c.requires.acceptable c.args.guard.now c.requires.numbers c.requires.rates c.args.k c.requires.movement.0 c.requires.movement.1) in
    let s : c.from-3.result ≤ 1000 = omega (arith, c.requires.acceptable.range.shares) in
    let p : c.from-per.result ≤ 3600 = omega (arith, c.requires.acceptable.range.per) in
    omega (arith, mul-le (c.from-3.result * c.from-per.result) c.rate.result (1000 * 3600) 1000000000000 (mul-le c.from-3.result c.from-per.result 1000 3600 s p) r)
