use Rattle.std.proofs.Common.{◌≡◌, ◌*◌, map}
use Rattle.mp_model.specs.Guard.{red}
use Rattle.mp_model.specs.GuardedBursts.{least_holding}
use Rattle.mp_model.specs.Network.{entry, numbers_to}
use Rattle.mp_guard.proofs.sweeping.sweep.Given as goal

abbrev pub invariant-loop-i : goal.invariant-loop-i
invariant-loop-i l = l.bursts.items ≡ map (λ k. least_holding l.net l.guard (entry l.surpluses k) l.before k (2 * red l.net l.guard k)) (numbers_to l.i)
