use Rattle.std.proofs.Common.{◌*◌}
use Rattle.mp_model.specs.Network.{flow_of}
use Rattle.mp_model.specs.Bounds.{report_shift}
use Rattle.mp_drift.proofs.Loops.{Counting}
use Rattle.mp_drift.proofs.numbers.shifts.Given as goal

abbrev pub invariant-loop-k : goal.invariant-loop-k
invariant-loop-k l = Counting (λ k. flow_of l.net k * report_shift l.net k) (1000 * (60 * (512 * 523000000))) l.k l.sum
