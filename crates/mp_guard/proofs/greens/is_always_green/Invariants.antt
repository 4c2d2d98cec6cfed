use Rattle.mp_model.specs.Network.{junction_at}
use Rattle.mp_guard.proofs.GreenLemmas.{Passing}
use Rattle.mp_guard.proofs.greens.is_always_green.Given as goal

abbrev pub invariant-loop-s : goal.invariant-loop-s
invariant-loop-s l = Passing (junction_at l.net l.j) l.k l.s
