use Rattle.std.proofs.Common.{◌-◌, ◌*◌, ◌/◌}
use Rattle.mp_model.specs.Network.{flow_of}
use Rattle.mp_drift.proofs.Loops.{Counting}
use Rattle.mp_frame.proofs.bounds.quarters.Given as goal

abbrev pub invariant-loop-k : goal.invariant-loop-k
invariant-loop-k l = Counting (λ k. (l.f - 1) * flow_of l.net k * ((l.f - 1) * flow_of l.net k) / 4) 870250000 l.k l.sum
