use Rattle.std.proofs.Common.{◌≡◌, ◌+◌, ◌*◌, ap₂, ◌∙◌, arith}
use Rattle.std.proofs.lemmas.Nat.{mul-le}
use Rattle.mp_model.specs.Bounds.{report_shift}
use Rattle.mp_model.specs.Network.{flow_of}
use Rattle.mp_drift.proofs.Limits.{flow_few}
use Rattle.mp_drift.proofs.Loops.{counting_more}
use Rattle.mp_drift.proofs.numbers.shifts.Goals as goal

pub loop-k-preserved : goal.loop-k-preserved
loop-k-preserved c =
    let net = c.args.net.now in
    let k = c.loop-k.k + 1 in
    let flow : c.from.result ≡ flow_of net k = c.from.ensures ∙ c.movement.ensures.flow in
    let shift : c.from-in-loop-k.result ≡ report_shift net k = c.from-in-loop-k.ensures ∙ c.report_shift.ensures.value in
    let few = flow_few net c.shares-shares.ensures.acceptable k in
    counting_more (λ k. flow_of net k * report_shift net k) (1000 * (60 * (512 * 523000000))) c.loop-k.k c.loop-k.sum _ c.loop-k.invariant (ap₂ ◌*◌ flow shift)
    (mul-le _ _ 1000 (60 * (512 * 523000000)) (omega (arith, flow, few)) (omega (arith, c.from-in-loop-k.ensures, c.report_shift.ensures.few)))
