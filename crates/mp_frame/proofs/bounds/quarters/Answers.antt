use Rattle.std.proofs.Common.{◌≡◌, ◌≤◌, ◌+◌, ◌-◌, ◌*◌, ◌/◌, ap, ap₂, ◌∙◌, arith}
use Rattle.std.proofs.lemmas.Nat.{mul-le}
use Rattle.mp_model.specs.Network.{flow_of}
use Rattle.mp_drift.proofs.Limits.{flow_few}
use Rattle.mp_drift.proofs.Loops.{counting_more}
use Rattle.mp_frame.proofs.Bounding.{quarter_few}
use Rattle.mp_frame.proofs.bounds.quarters.Goals as goal

pub loop-k-preserved : goal.loop-k-preserved
loop-k-preserved c =
    let net = c.args.net.now in
    let k = c.loop-k.k + 1 in
    let flow : c.from-in-loop-k.result ≡ flow_of net k = c.from-in-loop-k.ensures ∙ c.movement.ensures.flow in
    let passed : c.from.result * c.from-in-loop-k.result ≡ (c.args.f - 1) * flow_of net k = ap₂ ◌*◌ c.from.ensures flow in
    let few : c.from.result * c.from-in-loop-k.result ≤ 59 * 1000 = mul-le c.from.result c.from-in-loop-k.result 59 1000 (omega (arith, c.from.ensures, c.requires.1)) (omega (arith, flow, flow_few net c.shares-shares.ensures.acceptable k)) in
    counting_more (λ k. (c.args.f - 1) * flow_of net k * ((c.args.f - 1) * flow_of net k) / 4) 870250000 c.loop-k.k c.loop-k.sum _ c.loop-k.invariant
    (ap (λ n. n * n / 4) passed) (quarter_few (c.from.result * c.from-in-loop-k.result) few)
