use Rattle.std.proofs.Common.{◌≤◌, ◌+◌, ◌*◌, arith}
use Rattle.mp_guard.proofs.BurstLemmas.{coming_small, quotient_few}
use Rattle.mp_guard.proofs.RuleLemmas.{mul-le, rate_small}
use Rattle.mp_guard.proofs.sweeping.least_holding.Goals as goal

pub overflow_mul-coming : goal.overflow_mul-coming
overflow_mul-coming c =
    let net = c.args.net.now in
    let ok = c.requires.acceptable in
    let guards = c.requires.guards in
    let s : c.from-shares.result ≤ 1000 = omega (arith, ok.range.shares) in
    let r : c.rate.result ≤ 1000000000000 = omega (arith, c.rate.ensures, rate_small net ok c.args.guard.now (record { cycle = guards.cycle; lost = guards.lost; denominator = guards.denominator }) guards.flows c.args.k c.requires.movement.0 c.requires.movement.1) in
    omega (arith, mul-le c.from-shares.result c.rate.result 1000 1000000000000 s r)

pub overflow_mul-coming-2 : goal.overflow_mul-coming-2
overflow_mul-coming-2 c =
    let net = c.args.net.now in
    let ok = c.requires.acceptable in
    let guards = c.requires.guards in
    let s : c.from-shares.result ≤ 1000 = omega (arith, ok.range.shares) in
    let r : c.rate.result ≤ 1000000000000 = omega (arith, c.rate.ensures, rate_small net ok c.args.guard.now (record { cycle = guards.cycle; lost = guards.lost; denominator = guards.denominator }) guards.flows c.args.k c.requires.movement.0 c.requires.movement.1) in
    omega (arith, coming_small c.from-shares.result c.rate.result c.args.periods s r c.requires.periods)

pub overflow_add-crowd : goal.overflow_add-crowd
overflow_add-crowd c =
    let net = c.args.net.now in
    let ok = c.requires.acceptable in
    let guards = c.requires.guards in
    let s : c.from-shares.result ≤ 1000 = omega (arith, ok.range.shares) in
    let r : c.rate.result ≤ 1000000000000 = omega (arith, c.rate.ensures, rate_small net ok c.args.guard.now (record { cycle = guards.cycle; lost = guards.lost; denominator = guards.denominator }) guards.flows c.args.k c.requires.movement.0 c.requires.movement.1) in
    omega (arith, coming_small c.from-shares.result c.rate.result c.args.periods s r c.requires.periods, c.crowd-crowd.ensures.few)

pub quotient_up-requires : goal.quotient_up-requires
quotient_up-requires c =
    let net = c.args.net.now in
    let ok = c.requires.acceptable in
    let guards = c.requires.guards in
    let s : c.from-shares.result ≤ 1000 = omega (arith, ok.range.shares) in
    let r : c.rate.result ≤ 1000000000000 = omega (arith, c.rate.ensures, rate_small net ok c.args.guard.now (record { cycle = guards.cycle; lost = guards.lost; denominator = guards.denominator }) guards.flows c.args.k c.requires.movement.0 c.requires.movement.1) in
    let d : c.denominator.result ≤ 999999999 = omega (arith, c.denominator.ensures, guards.denominator.1) in
    let low : 1 ≤ c.denominator.result = omega (arith, c.denominator.ensures, guards.denominator.0) in
    let shares_low : 1 ≤ c.from-shares.result = omega (arith, ok.network.shares) in
    let unit = mul-le c.from-shares.result c.denominator.result 1000 999999999 s d in
    let some = mul-le 1 1 c.from-shares.result c.denominator.result shares_low low in
    let coming = coming_small c.from-shares.result c.rate.result c.args.periods s r c.requires.periods in
    (omega arith, omega (arith, c.crowd-crowd.ensures.few))

pub overflow_add-result : goal.overflow_add-result
overflow_add-result c =
    let net = c.args.net.now in
    let ok = c.requires.acceptable in
    let guards = c.requires.guards in
    let s : c.from-shares.result ≤ 1000 = omega (arith, ok.range.shares) in
    let r : c.rate.result ≤ 1000000000000 = omega (arith, c.rate.ensures, rate_small net ok c.args.guard.now (record { cycle = guards.cycle; lost = guards.lost; denominator = guards.denominator }) guards.flows c.args.k c.requires.movement.0 c.requires.movement.1) in
    let d : c.denominator.result ≤ 999999999 = omega (arith, c.denominator.ensures, guards.denominator.1) in
    let low : 1 ≤ c.denominator.result = omega (arith, c.denominator.ensures, guards.denominator.0) in
    let shares_low : 1 ≤ c.from-shares.result = omega (arith, ok.network.shares) in
    let unit = mul-le c.from-shares.result c.denominator.result 1000 999999999 s d in
    let some = mul-le 1 1 c.from-shares.result c.denominator.result shares_low low in
    let coming = coming_small c.from-shares.result c.rate.result c.args.periods s r c.requires.periods in
    let few = quotient_few (c.crowd-crowd.result + c.from-shares.result * c.rate.result * c.args.periods) (c.from-shares.result * c.denominator.result) (omega arith) in
    omega (arith, c.quotient_up.ensures, few, c.crowd-crowd.ensures.few)
