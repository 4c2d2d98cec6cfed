use Rattle.std.proofs.Common.{◌≡◌, pos, map, take}
use Rattle.mp_model.specs.Network.{entry}
use Rattle.mp_round.proofs.report.counts_of.Given as goal

abbrev pub invariant-loop-k : goal.invariant-loop-k
invariant-loop-k l = l.counts.items ≡ map (λ k. pos (entry l.state.queues k)) (take l.k-index l.ks)
