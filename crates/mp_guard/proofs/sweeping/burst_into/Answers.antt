use Rattle.std.proofs.Common.{◌≡◌, ◌≤◌, ◌^◌, length, get_or, sum_by, ap, arith}
use Rattle.mp_model.specs.Network.{entry, to_of, goes_to}
use Rattle.mp_cert.proofs.PlaceLemmas.{kept_known}
use Rattle.mp_guard.proofs.BurstLemmas.{into_below, adding_below}
use Rattle.mp_guard.proofs.RuleLemmas.{adding_more, adding_end}
use Rattle.mp_guard.proofs.sweeping.burst_into.Goals as goal

pub overflow_sub-sum : goal.overflow_sub-sum
overflow_sub-sum c =
    let known = kept_known (λ k. goes_to (to_of c.args.net.now k) c.args.l) (length c.args.net.now.movements) c.into_link-k-items.result.now c.loop-k.k-index c.into_link-k-items.ensures c.loop-k-test.true in
    omega (arith, known.0, c.from.ensures)

pub bounds-bursts-from : goal.bounds-bursts-from
bounds-bursts-from c =
    let known = kept_known (λ k. goes_to (to_of c.args.net.now k) c.args.l) (length c.args.net.now.movements) c.into_link-k-items.result.now c.loop-k.k-index c.into_link-k-items.ensures c.loop-k-test.true in
    omega (arith, known.0, known.1, c.from.ensures, c.requires.length)

pub overflow_add-sum : goal.overflow_add-sum
overflow_add-sum c =
    let total : sum_by (entry c.args.bursts.now) c.into_link-k-items.result.now ≤ 2 ^ 50 = omega (arith, ap (sum_by (entry c.args.bursts.now)) c.into_link-k-items.ensures, into_below c.args.net.now c.args.bursts.now c.args.l, c.requires.few) in
    let here : entry c.args.bursts.now c.from.result ≡ entry c.args.bursts.now (get_or c.into_link-k-items.result.now c.loop-k.k-index 0) = ap (entry c.args.bursts.now) c.from.ensures in
    let below = adding_below (entry c.args.bursts.now) (2 ^ 50) c.into_link-k-items.result.now c.loop-k.k-index c.loop-k.sum c.loop-k.invariant c.loop-k-test.true in
    omega (arith, here, below, total)

pub loop-k-preserved : goal.loop-k-preserved
loop-k-preserved c =
    let total : sum_by (entry c.args.bursts.now) c.into_link-k-items.result.now ≤ 2 ^ 50 = omega (arith, ap (sum_by (entry c.args.bursts.now)) c.into_link-k-items.ensures, into_below c.args.net.now c.args.bursts.now c.args.l, c.requires.few) in
    let here : entry c.args.bursts.now c.from.result ≡ entry c.args.bursts.now (get_or c.into_link-k-items.result.now c.loop-k.k-index 0) = ap (entry c.args.bursts.now) c.from.ensures in
    let below = adding_below (entry c.args.bursts.now) (2 ^ 50) c.into_link-k-items.result.now c.loop-k.k-index c.loop-k.sum c.loop-k.invariant c.loop-k-test.true in
    adding_more (entry c.args.bursts.now) (2 ^ 50) c.into_link-k-items.result.now c.loop-k.k-index c.loop-k.sum (entry c.args.bursts.now c.from.result) c.loop-k.invariant c.loop-k-test.true here (omega (arith, here, below, total))

pub returns-clause-few : goal.returns-clause-few
returns-clause-few c =
    let total : sum_by (entry c.args.bursts.now) c.into_link-k-items.result.now ≤ 2 ^ 50 = omega (arith, ap (sum_by (entry c.args.bursts.now)) c.into_link-k-items.ensures, into_below c.args.net.now c.args.bursts.now c.args.l, c.requires.few) in
    let end : length c.into_link-k-items.result.now ≤ c.loop-k.k-index = omega arith in
    omega (arith, adding_end (entry c.args.bursts.now) (2 ^ 50) c.into_link-k-items.result.now c.loop-k.k-index c.loop-k.sum c.loop-k.invariant end, total)
