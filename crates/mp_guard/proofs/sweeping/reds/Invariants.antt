use Rattle.std.proofs.Common.{◌≡◌, map}
use Rattle.mp_model.specs.Guard.{red}
use Rattle.mp_model.specs.Network.{numbers_to}
use Rattle.mp_guard.proofs.sweeping.reds.Given as goal

abbrev pub invariant-loop-i : goal.invariant-loop-i
invariant-loop-i l = l.reds.items ≡ map (red l.net l.guard) (numbers_to l.i)
