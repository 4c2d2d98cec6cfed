use Rattle.std.proofs.Common.{◌≡◌, ◌+◌, ◌*◌, ◌^◌, ap, ap₂, ◌∙◌, arith}
use Rattle.mp_model.specs.Network.{Movement, start_of}
use Rattle.mp_drift.proofs.Limits.{start_few, start_square}
use Rattle.mp_drift.proofs.Loops.{counting_more}
use Rattle.mp_drift.proofs.queue_bounds.start_drift.Goals as goal

pub loop-k-preserved : goal.loop-k-preserved
loop-k-preserved c =
    let net = c.args.net.now in
    let k = c.loop-k.k + 1 in
    let start : c.from.result ≡ start_of net k = c.from.ensures ∙ ap (λ (m : Movement). m.start) c.movement.ensures.part in
    let few = start_few net c.shares-shares.ensures.acceptable k in
    counting_more (λ k. net.shares * net.per * start_of net k * (net.shares * net.per * start_of net k)) ((3600000 * 10 ^ 6) * (3600000 * 10 ^ 6)) c.loop-k.k c.loop-k.sum _ c.loop-k.invariant
    (ap₂ (λ u s. u * s * (u * s)) c.unit-unit.ensures.value start) (start_square c.unit-unit.result c.from.result c.unit-unit.ensures.few (omega (arith, start, few)))

pub overflow_add-sum : goal.overflow_add-sum
overflow_add-sum c = let more = loop-k-preserved c in omega (arith, more.small, c.movements-k-end.ensures.few)
