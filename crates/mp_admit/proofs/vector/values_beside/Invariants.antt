use Rattle.std.proofs.Common.{[]}
use Rattle.mp_flow.proofs.RowLoopLemmas.{Lining}
use Rattle.mp_verdict.specs.Vector.{value_beside}
use Rattle.mp_admit.proofs.vector.values_beside.Given as goal

abbrev pub invariant-loop-k : goal.invariant-loop-k
invariant-loop-k l = Lining (value_beside l.own l.values) [] l.k l.all.items
