use Rattle.std.proofs.Common.{◌≡◌, length, ap, ◌∙◌, sum_by, arith}
use Rattle.mp_model.specs.Network.{flow_of}
use Rattle.mp_drift.specs.Flows.{flow_into}
use Rattle.mp_drift.proofs.Limits.{into_few, flow_into_few}
use Rattle.mp_drift.proofs.Loops.{summing_end}
use Rattle.mp_drift.proofs.terms.flow_into.Goals as goal

pub overflow_add-sum : goal.overflow_add-sum
overflow_add-sum c =
    let size = ap length c.into_link-k-items.ensures in
    let few = into_few c.args.net.now c.args.l in
    omega (arith, size, few)

pub returns-clause-few : goal.returns-clause-few
returns-clause-few c =
    let net = c.args.net.now in
    let value : c.loop-k.sum ≡ flow_into net c.args.l =
    summing_end (flow_of net) 1000 c.into_link-k-items.result.now c.loop-k.k-index c.loop-k.sum c.loop-k.invariant c.loop-k-test.false ∙ ap (sum_by (flow_of net)) c.into_link-k-items.ensures in
    omega (arith, value, flow_into_few net c.shares-shares.ensures.acceptable c.args.l)
