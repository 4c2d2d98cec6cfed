use Rattle.mp_netfile.proofs.Starts.{StartsFrom}
use Rattle.mp_netfile.proofs.print.has_start_queue.Given as goal

abbrev pub invariant-loop-k : goal.invariant-loop-k
invariant-loop-k l = StartsFrom l.net l.k
