use Rattle.std.proofs.Common.{◌≡◌, ◌≤◌, ◌+◌, ◌*◌, ◌/◌, ℕ, ap, ◌∙◌, sym, subst}
use Rattle.mp_model.specs.Network.{flow_of}
use Rattle.mp_drift.proofs.Limits.{flow_few, quarter_few}
use Rattle.mp_drift.proofs.Loops.{counting_more}
use Rattle.mp_drift.proofs.numbers.quarters.Goals as goal

pub loop-k-preserved : goal.loop-k-preserved
loop-k-preserved c =
    let net = c.args.net.now in
    let flow : c.from-flow.result ≡ flow_of net (c.loop-k.k + 1) = c.from-flow.ensures ∙ c.movement.ensures.flow in
    let few : c.from-flow.result ≤ 1000 = subst (λ (n : ℕ). n ≤ 1000) (sym flow) (flow_few net c.shares-shares.ensures.acceptable (c.loop-k.k + 1)) in
    counting_more (λ k. flow_of net k * flow_of net k / 4) 250000 c.loop-k.k c.loop-k.sum _ c.loop-k.invariant (ap (λ n. n * n / 4) flow) (quarter_few c.from-flow.result few)
