use Rattle.std.proofs.Common.{◌^◌}
use Rattle.mp_model.specs.Bounds.{credit_term}
use Rattle.mp_drift.proofs.Loops.{counting_more}
use Rattle.mp_drift.proofs.queue_bounds.credit_sum.Goals as goal

pub loop-number-preserved : goal.loop-number-preserved
loop-number-preserved c =
    counting_more (credit_term c.args.net.now) (2 ^ 36) c.loop-number.number c.loop-number.sum c.credit_of-sum.result c.loop-number.invariant c.credit_of-sum.ensures.value c.credit_of-sum.ensures.few
