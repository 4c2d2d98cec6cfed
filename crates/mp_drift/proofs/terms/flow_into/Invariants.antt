use Rattle.mp_model.specs.Network.{flow_of}
use Rattle.mp_drift.proofs.Loops.{Summing}
use Rattle.mp_drift.proofs.terms.flow_into.Given as goal

abbrev pub invariant-loop-k : goal.invariant-loop-k
invariant-loop-k l = Summing (flow_of l.net) 1000 l.k-items l.k-index l.sum
