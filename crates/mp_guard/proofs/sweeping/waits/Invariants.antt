use Rattle.std.proofs.Common.{◌≡◌, ◌*◌, map}
use Rattle.mp_model.specs.Guard.{red}
use Rattle.mp_model.specs.Network.{numbers_to}
use Rattle.mp_guard.proofs.sweeping.waits.Given as goal

abbrev pub invariant-loop-i : goal.invariant-loop-i
invariant-loop-i l = l.waits.items ≡ map (λ k. 2 * red l.net l.guard k) (numbers_to l.i)
