use Rattle.std.proofs.Common.{◌^◌}
use Rattle.mp_model.specs.Bounds.{credit_term}
use Rattle.mp_drift.proofs.Loops.{Counting}
use Rattle.mp_drift.proofs.queue_bounds.credit_sum.Given as goal

abbrev pub invariant-loop-number : goal.invariant-loop-number
invariant-loop-number l = Counting (credit_term l.net) (2 ^ 36) l.number l.sum
