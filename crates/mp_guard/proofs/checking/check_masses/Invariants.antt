use Rattle.std.proofs.Common.{length}
use Rattle.mp_guard.specs.declared.fault.GuardFault.TheVariants.{Mass}
use Rattle.mp_guard.proofs.CheckLemmas.{Trying, each}
use Rattle.mp_guard.proofs.checking.check_masses.Given as goal

abbrev pub invariant-loop-j : goal.invariant-loop-j
invariant-loop-j l = Trying l.net l.guard (each l.net l.guard Mass) (length l.net.junctions) l.j
