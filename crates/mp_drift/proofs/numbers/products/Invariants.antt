use Rattle.std.proofs.Common.{◌*◌, ◌^◌}
use Rattle.mp_model.specs.Bounds.{credit_term, step_term}
use Rattle.mp_drift.proofs.Loops.{Counting}
use Rattle.mp_drift.proofs.numbers.products.Given as goal

abbrev pub invariant-loop-number : goal.invariant-loop-number
invariant-loop-number l = Counting (λ k. credit_term l.net k * step_term l.net k) (2 ^ 77) l.number l.sum
