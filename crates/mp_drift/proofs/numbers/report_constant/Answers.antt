use Rattle.std.proofs.Common.{◌≤◌, ◌*◌, ◌^◌, arith}
use Rattle.std.proofs.lemmas.Nat.{mul-le}
use Rattle.mp_drift.proofs.numbers.report_constant.Goals as goal

pub returns-clause-few : goal.returns-clause-few
returns-clause-few c =
    let range = c.shares.ensures.acceptable.range in
    let per : c.from-per.result ≤ 3600 = omega (arith, c.from-per.ensures, c.per.ensures, range.per) in
    let shares : c.from.result ≤ 1000 = omega (arith, c.from.ensures, c.shares.ensures.value, range.shares) in
    let square = mul-le c.from-per.result c.from-per.result 3600 3600 per per in
    let turn = mul-le c.from.result (c.from-per.result * c.from-per.result) 1000 (3600 * 3600) shares square in
    let all = mul-le (4 * (c.from.result * (c.from-per.result * c.from-per.result))) c.shifts.result (4 * (1000 * (3600 * 3600))) (2 ^ 63) (omega (arith, turn)) c.shifts.ensures.few in
    omega (arith, all)
