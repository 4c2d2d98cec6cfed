use Rattle.std.proofs.Common.{length}
use Rattle.mp_model.specs.Network.{junction_at}
use Rattle.mp_guard.specs.declared.fault.GuardFault.TheVariants.{Green}
use Rattle.mp_guard.proofs.CheckLemmas.{Trying, each}
use Rattle.mp_guard.proofs.checking.check_greens_at.Given as goal

abbrev pub invariant-loop-s : goal.invariant-loop-s
invariant-loop-s l = Trying l.net l.guard (each l.net l.guard (Green l.j)) (length (junction_at l.net l.j).stages) l.s
