use Rattle.mp_plan.proofs.Marking.{Reached, free}
use Rattle.mp_plan.proofs.cycles.is_on_cycle.Given as goal

abbrev pub invariant-loop-k : goal.invariant-loop-k
invariant-loop-k l = Reached l.net l.l l.marks

abbrev pub decreases-loop-k : goal.decreases-loop-k
decreases-loop-k l = free l.marks
