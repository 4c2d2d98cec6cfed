use Rattle.std.proofs.Common.{pos}
use Rattle.mp_model.specs.Bounds.{step_term}
use Rattle.mp_drift.proofs.Loops.{Listing}
use Rattle.mp_drift.proofs.terms.step_terms.Given as goal

abbrev pub invariant-loop-k : goal.invariant-loop-k
invariant-loop-k l = Listing (λ k. pos (step_term l.net k)) l.k l.terms.items
