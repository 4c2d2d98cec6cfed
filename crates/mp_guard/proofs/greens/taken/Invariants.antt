use Rattle.mp_guard.proofs.GreenLemmas.{Taking}
use Rattle.mp_guard.proofs.greens.taken.Given as goal

abbrev pub invariant-loop-green : goal.invariant-loop-green
invariant-loop-green l = Taking l.lost l.greens l.green-index l.sum
