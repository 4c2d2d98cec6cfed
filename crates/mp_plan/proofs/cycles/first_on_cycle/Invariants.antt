use Rattle.std.specs.List.{AllByRecursion}
use Rattle.mp_model.specs.Network.{numbers_to}
use Rattle.mp_model.specs.Plans.{IsOnCycle}
use Rattle.mp_plan.proofs.cycles.first_on_cycle.Given as goal

abbrev pub invariant-loop-l : goal.invariant-loop-l
invariant-loop-l l = AllByRecursion (λ m. ¬ IsOnCycle l.net m) (numbers_to l.l)
