use Rattle.std.proofs.Common.{length}
use Rattle.mp_guard.specs.declared.fault.GuardFault.TheVariants.{Balance}
use Rattle.mp_guard.proofs.CheckLemmas.{Trying, each}
use Rattle.mp_guard.proofs.checking.check_balances.Given as goal

abbrev pub invariant-loop-k : goal.invariant-loop-k
invariant-loop-k l = Trying l.net l.guard (each l.net l.guard Balance) (length l.net.movements) l.k
