use Rattle.std.proofs.Common.{◌^◌}
use Rattle.mp_model.specs.Network.{entry}
use Rattle.mp_guard.proofs.RuleLemmas.{Adding}
use Rattle.mp_guard.proofs.sweeping.burst_into.Given as goal

abbrev pub invariant-loop-k : goal.invariant-loop-k
invariant-loop-k l = Adding (entry l.bursts) (2 ^ 50) l.k-items l.k-index l.sum
