use Rattle.std.proofs.Common.{◌≡◌, map}
use Rattle.mp_model.specs.Network.{numbers_to}
use Rattle.mp_plan_run.specs.Green.{is_green_in}
use Rattle.mp_plan_run.proofs.green.list_green.Given as goal

abbrev pub invariant-loop-i : goal.invariant-loop-i
invariant-loop-i l = l.into.items ≡ map (is_green_in l.net l.stages) (numbers_to l.i)
