use Rattle.std.proofs.Common.{map}
use Rattle.mp_plan.specs.Ends.{over, rates}
use Rattle.mp_plan.proofs.Greening.{Planned}
use Rattle.mp_plan.proofs.greens.all_greens.Given as goal

abbrev pub invariant-loop-j : goal.invariant-loop-j
invariant-loop-j l = Planned l.net (rates l.flows) (over l.flows) l.c l.j (map (λ row. row.items) l.greens.items)
