use Rattle.mp_plan.specs.Ends.{over, rates}
use Rattle.mp_plan.proofs.Bounding.{Forming}
use Rattle.mp_plan.proofs.bounds.all_bounds.Given as goal

abbrev pub invariant-loop-turn : goal.invariant-loop-turn
invariant-loop-turn l = Forming l.net (rates l.flows) (over l.flows) l.c l._turn l.bounds.items
