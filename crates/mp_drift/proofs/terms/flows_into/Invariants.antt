use Rattle.mp_drift.specs.Flows.{flow_into}
use Rattle.mp_drift.proofs.Loops.{Listing}
use Rattle.mp_drift.proofs.terms.flows_into.Given as goal

abbrev pub invariant-loop-l : goal.invariant-loop-l
invariant-loop-l l = Listing (flow_into l.net) l.l l.sums.items
