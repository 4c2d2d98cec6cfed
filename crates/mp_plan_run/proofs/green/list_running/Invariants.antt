use Rattle.std.proofs.Common.{◌≡◌, ◌-◌, map}
use Rattle.mp_model.specs.Network.{numbers_to}
use Rattle.mp_model.specs.Plans.{running}
use Rattle.mp_plan_run.proofs.green.list_running.Given as goal

abbrev pub invariant-loop-i : goal.invariant-loop-i
invariant-loop-i l = l.into.items ≡ map (λ j. running l.plan j (l.period - 1)) (numbers_to l.i)
