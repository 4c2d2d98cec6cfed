use Rattle.std.proofs.Common.{◌*◌, ◌/◌}
use Rattle.mp_model.specs.Network.{flow_of}
use Rattle.mp_drift.proofs.Loops.{Counting}
use Rattle.mp_drift.proofs.numbers.quarters.Given as goal

abbrev pub invariant-loop-k : goal.invariant-loop-k
invariant-loop-k l = Counting (λ k. flow_of l.net k * flow_of l.net k / 4) 250000 l.k l.sum
