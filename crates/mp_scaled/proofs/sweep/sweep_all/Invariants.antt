use Rattle.mp_scaled.proofs.Sweeping.{Sweeping}
use Rattle.mp_scaled.proofs.sweep.sweep_all.Given as goal

abbrev pub invariant-loop-i : goal.invariant-loop-i
invariant-loop-i l = Sweeping l.net l.d l.e l._i l.rates
