use Rattle.std.proofs.Common.{◌*◌, ◌^◌, ap}
use Rattle.mp_model.specs.Bounds.{step_term}
use Rattle.mp_drift.proofs.Limits.{square_few}
use Rattle.mp_drift.proofs.Loops.{counting_more}
use Rattle.mp_drift.proofs.numbers.squares.Goals as goal

pub loop-number-preserved : goal.loop-number-preserved
loop-number-preserved c =
    let net = c.args.net.now in
    counting_more (λ k. step_term net k * step_term net k) (2 ^ 82) c.loop-number.number c.loop-number.sum _ c.loop-number.invariant
    (ap (λ n. n * n) c.step_of-step.ensures.value) (square_few _ c.step_of-step.ensures.few)
