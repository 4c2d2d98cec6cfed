use Rattle.std.proofs.Common.{◌≡◌, ◌≤◌, ◌*◌, arith, ap₂, mul-le-mul}
use Rattle.mp_press.proofs.Known.{from_known, share_few}
use Rattle.mp_scaled.proofs.sweep.carry.Goals as goal

pub overflow_sub-came : goal.overflow_sub-came
overflow_sub-came c = omega (arith, from_known c.args.net.now c.requires.acceptable.network c.args.k c.requires.known)

pub bounds-brought-from : goal.bounds-brought-from
bounds-brought-from c = omega (arith, from_known c.args.net.now c.requires.acceptable.network c.args.k c.requires.known)

pub round_up-requires-clause-share : goal.round_up-requires-clause-share
round_up-requires-clause-share c =
    let net = c.args.net.now in
    let few = share_few net c.requires.acceptable.network c.args.k c.requires.known in
    let some : net.shares * 1 ≤ net.shares * net.per = mul-le-mul (omega arith) c.requires.acceptable.network.per in
    let unit : c.from.result * c.from-2.result ≡ net.shares * net.per = ap₂ (λ a b. a * b) (omega arith) (omega arith) in
    (omega (arith, few, c.requires.acceptable.range.shares), omega (arith, few, some, unit))
