use Rattle.mp_scaled.proofs.Leasts.{Leasting}
use Rattle.mp_scaled.proofs.search.least_flow.Given as goal

abbrev pub invariant-loop-i : goal.invariant-loop-i
invariant-loop-i l = Leasting l.net l.i l.least
