use Rattle.mp_scaled.proofs.Serving.{Serving}
use Rattle.mp_scaled.proofs.serve.serve.Given as goal

abbrev pub invariant-loop-j : goal.invariant-loop-j
invariant-loop-j l = Serving l.net l.d l.e l.rates l.j l.mixes.items
