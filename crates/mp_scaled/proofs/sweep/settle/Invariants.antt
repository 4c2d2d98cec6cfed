use Rattle.mp_scaled.proofs.Sweeping.{Settling}
use Rattle.mp_scaled.proofs.sweep.settle.Given as goal

abbrev pub invariant-loop-i : goal.invariant-loop-i
invariant-loop-i l = Settling l.net l.d l.e l.initial.rates l.i l.stable l.rates
