use Rattle.mp_model.specs.Guard.{guarded_rate}
use Rattle.mp_guard.proofs.RuleLemmas.{Adding}
use Rattle.mp_guard.proofs.rules.inflow.Given as goal

abbrev pub invariant-loop-k : goal.invariant-loop-k
invariant-loop-k l = Adding (guarded_rate l.guard) 1000000000000 l.k-items l.k-index l.sum
