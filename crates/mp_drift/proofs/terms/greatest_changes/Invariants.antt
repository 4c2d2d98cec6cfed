use Rattle.mp_model.specs.Bounds.{greatest_change}
use Rattle.mp_drift.proofs.Loops.{Listing}
use Rattle.mp_drift.proofs.terms.greatest_changes.Given as goal

abbrev pub invariant-loop-k : goal.invariant-loop-k
invariant-loop-k l = Listing (greatest_change l.net) l.k l.changes.items
