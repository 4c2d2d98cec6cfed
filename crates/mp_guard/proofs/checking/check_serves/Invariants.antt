use Rattle.std.proofs.Common.{length}
use Rattle.mp_guard.specs.declared.fault.GuardFault.TheVariants.{Serve}
use Rattle.mp_guard.proofs.CheckLemmas.{Trying, each}
use Rattle.mp_guard.proofs.checking.check_serves.Given as goal

abbrev pub invariant-loop-k : goal.invariant-loop-k
invariant-loop-k l = Trying l.net l.guard (each l.net l.guard Serve) (length l.net.movements) l.k
