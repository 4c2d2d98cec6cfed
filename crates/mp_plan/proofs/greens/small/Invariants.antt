use Rattle.mp_plan.proofs.Greening.{Copying}
use Rattle.mp_plan.proofs.greens.small.Given as goal

abbrev pub invariant-loop-green : goal.invariant-loop-green
invariant-loop-green l = Copying l.greens l.green-index l.small.items
