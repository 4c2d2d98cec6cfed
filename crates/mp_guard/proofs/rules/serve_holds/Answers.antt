use Rattle.std.proofs.Common.{◌≤◌, arith}
use Rattle.mp_guard.proofs.RuleLemmas.{rate_small, mul-le}
use Rattle.mp_guard.proofs.rules.serve_holds.Goals as goal

pub overflow_mul-result : goal.overflow_mul-result
overflow_mul-result c =
    let r : c.rate.result ≤ 1000000000000 = omega (arith, c.rate.ensures, rate_small c.args.net.now c.requires.acceptable c.args.guard.now c.requires.numbers c.requires.rates c.args.k c.requires.movement.0 c.requires.movement.1) in
    omega (arith, mul-le c.cycle.result c.rate.result 3600 1000000000000 (omega (arith, c.cycle.ensures, c.requires.numbers.cycle.1)) r)
