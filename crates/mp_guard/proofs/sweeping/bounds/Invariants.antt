use Rattle.std.proofs.Common.{◌≡◌, map}
use Rattle.mp_model.specs.GuardedBursts.{guarded_bound}
use Rattle.mp_model.specs.Network.{numbers_to, entry}
use Rattle.mp_guard.proofs.sweeping.bounds.Given as goal

abbrev pub invariant-loop-i : goal.invariant-loop-i
invariant-loop-i l = l.bounds.items ≡ map (guarded_bound l.net l.guard (entry l.surpluses) l.bursts) (numbers_to l.i)
