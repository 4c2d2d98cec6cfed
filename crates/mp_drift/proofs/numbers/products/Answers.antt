use Rattle.std.proofs.Common.{◌*◌, ◌^◌, ap₂}
use Rattle.mp_model.specs.Bounds.{credit_term, step_term}
use Rattle.mp_drift.proofs.Limits.{product_few}
use Rattle.mp_drift.proofs.Loops.{counting_more}
use Rattle.mp_drift.proofs.numbers.products.Goals as goal

pub loop-number-preserved : goal.loop-number-preserved
loop-number-preserved c =
    let net = c.args.net.now in
    counting_more (λ k. credit_term net k * step_term net k) (2 ^ 77) c.loop-number.number c.loop-number.sum _ c.loop-number.invariant
    (ap₂ ◌*◌ c.credit_of.ensures.value c.step_of.ensures.value) (product_few _ _ c.credit_of.ensures.few c.step_of.ensures.few)
