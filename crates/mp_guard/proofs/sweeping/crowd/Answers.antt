use Rattle.std.proofs.Common.{◌≤◌, ◌+◌, ◌*◌, ◌^◌, length, arith}
use Rattle.mp_cert.proofs.PlaceLemmas.{in_list}
use Rattle.mp_guard.proofs.RuleLemmas.{mul-le}
use Rattle.mp_guard.proofs.SurplusLemmas.{share_small}
use Rattle.mp_guard.proofs.sweeping.crowd.Goals as goal

pub returns-clause-few : goal.returns-clause-few
returns-clause-few c =
    let net = c.args.net.now in
    let share : c.from-share.result ≤ 1000 = omega (arith, c.from-share.ensures, c.movement.ensures.share, share_small net c.requires.acceptable.network c.args.k (in_list (length c.args.net.now.movements) c.args.k c.requires.movement.0 c.requires.movement.1), c.requires.acceptable.range.shares) in
    let burst : c.from.result + c.burst_into.result ≤ 2 ^ 51 = omega (arith, c.burst_into.ensures.few) in
    let shared = mul-le c.from-share.result (c.from.result + c.burst_into.result) 1000 (2 ^ 51) share burst in
    let denominator : c.denominator.result ≤ 999999999 = omega (arith, c.denominator.ensures, c.requires.numbers.denominator.1) in
    let whole = mul-le c.denominator.result (c.from-share.result * (c.from.result + c.burst_into.result) + c.from-2.result) 999999999 (1000 * 2 ^ 51 + 1001000) denominator (omega arith) in
    omega arith
