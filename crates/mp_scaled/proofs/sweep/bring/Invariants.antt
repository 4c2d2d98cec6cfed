use Rattle.mp_scaled.proofs.Sweeping.{Bringing}
use Rattle.mp_scaled.proofs.sweep.bring.Given as goal

abbrev pub invariant-loop-i : goal.invariant-loop-i
invariant-loop-i l = Bringing l.net l.d l.rates l.i l.brought
