use Rattle.std.proofs.Common.{◌*◌, ◌^◌}
use Rattle.mp_model.specs.Bounds.{step_term}
use Rattle.mp_drift.proofs.Loops.{Counting}
use Rattle.mp_drift.proofs.numbers.squares.Given as goal

abbrev pub invariant-loop-number : goal.invariant-loop-number
invariant-loop-number l = Counting (λ k. step_term l.net k * step_term l.net k) (2 ^ 82) l.number l.sum
