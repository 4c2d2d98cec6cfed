use Rattle.mp_scaled.proofs.Serving.{Rowing}
use Rattle.mp_scaled.proofs.serve.row_of.Given as goal

abbrev pub invariant-loop-rate : goal.invariant-loop-rate
invariant-loop-rate l = Rowing l.d l.e l.rates l.rate-index l.row.items
