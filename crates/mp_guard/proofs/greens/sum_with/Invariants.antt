use Rattle.mp_model.specs.Network.{junction_at}
use Rattle.mp_guard.proofs.GreenLemmas.{Withs}
use Rattle.mp_guard.proofs.greens.sum_with.Given as goal

abbrev pub invariant-loop-s : goal.invariant-loop-s
invariant-loop-s l = Withs (junction_at l.net l.j) l.greens l.k l.s l.sum
