use Rattle.mp_plan.proofs.StageLemmas.{StillRuns}
use Rattle.mp_plan.proofs.plan.running_in.Given as goal

abbrev pub invariant-loop-i : goal.invariant-loop-i
invariant-loop-i l = StillRuns l.greens l.n l.i l.left
