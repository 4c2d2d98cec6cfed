use Rattle.std.proofs.Common.{◌≤◌, length, get_or, ap, arith}
use Rattle.mp_model.specs.Guard.{guarded_rate}
use Rattle.mp_model.specs.Network.{to_of, goes_to}
use Rattle.mp_cert.proofs.PlaceLemmas.{kept_known}
use Rattle.mp_guard.proofs.RuleLemmas.{rate_small, into_few, adding_more}
use Rattle.mp_guard.proofs.rules.inflow.Goals as goal

pub rate-sum-requires : goal.rate-sum-requires
rate-sum-requires c =
    let known = kept_known (λ k. goes_to (to_of c.args.net.now k) c.args.l) (length c.args.net.now.movements) c.into_link-k-items.result.now c.loop-k.k-index c.into_link-k-items.ensures c.loop-k-test.true in
    (known.0, omega (arith, known.1, c.requires.lengths.rates))

pub overflow_add-sum : goal.overflow_add-sum
overflow_add-sum c =
    let known = kept_known (λ k. goes_to (to_of c.args.net.now k) c.args.l) (length c.args.net.now.movements) c.into_link-k-items.result.now c.loop-k.k-index c.into_link-k-items.ensures c.loop-k-test.true in
    omega (arith, c.loop-k.invariant.few, c.rate-sum.ensures, rate_small c.args.net.now c.requires.acceptable c.args.guard.now c.requires.numbers c.requires.rates (get_or c.into_link-k-items.result.now c.loop-k.k-index 0) known.0 known.1, into_few c.args.net.now c.requires.acceptable c.args.l, ap length c.into_link-k-items.ensures, c.loop-k-test.true)

pub loop-k-preserved : goal.loop-k-preserved
loop-k-preserved c =
    let known = kept_known (λ k. goes_to (to_of c.args.net.now k) c.args.l) (length c.args.net.now.movements) c.into_link-k-items.result.now c.loop-k.k-index c.into_link-k-items.ensures c.loop-k-test.true in
    adding_more (guarded_rate c.args.guard.now) 1000000000000 c.into_link-k-items.result.now c.loop-k.k-index c.loop-k.sum c.rate-sum.result c.loop-k.invariant c.loop-k-test.true c.rate-sum.ensures
    (omega (arith, c.rate-sum.ensures, rate_small c.args.net.now c.requires.acceptable c.args.guard.now c.requires.numbers c.requires.rates (get_or c.into_link-k-items.result.now c.loop-k.k-index 0) known.0 known.1))

pub returns-clause-few : goal.returns-clause-few
returns-clause-few c =
    let end : c.loop-k.k-index ≤ length c.into_link-k-items.result.now = omega arith in
    omega (arith, c.loop-k.invariant.few, end, into_few c.args.net.now c.requires.acceptable c.args.l, ap length c.into_link-k-items.ensures)
