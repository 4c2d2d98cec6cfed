use Rattle.std.proofs.Common.{◌≡◌, ◌+◌, ◌^◌, ◌∙◌, ap, arith}
use Rattle.mp_model.specs.Network.{Movement, start_of}
use Rattle.mp_press.proofs.Sums.{numbers_step}
use Rattle.mp_step.proofs.Entering.{start_few}
use Rattle.mp_step.proofs.starts.started.Goals as goal

pub loop-i-preserved : goal.loop-i-preserved
loop-i-preserved c =
    let net = c.args.net.now in
    let i = c.loop-i.i in
    let is : c.from-sum.result ≡ start_of net (i + 1) = c.from-sum.ensures ∙ ap (λ (m : Movement). m.start) c.movement.ensures.part in
    let sums = numbers_step (start_of net) i c.loop-i.sum c.from-sum.result (10 ^ 6) is (omega (arith, is, start_few net c.shares.ensures.acceptable.range (i + 1))) c.loop-i.invariant.so_far c.loop-i.invariant.small in
    record { so_far = sums.so_far; small = sums.small }
