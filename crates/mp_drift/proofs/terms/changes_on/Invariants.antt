use Rattle.std.proofs.Common.{◌*◌}
use Rattle.mp_model.specs.Network.{share_of}
use Rattle.mp_model.specs.Bounds.{greatest_change}
use Rattle.mp_drift.proofs.Loops.{Summing}
use Rattle.mp_drift.proofs.terms.changes_on.Given as goal

abbrev pub invariant-loop-k : goal.invariant-loop-k
invariant-loop-k l = Summing (λ k. share_of l.net k * greatest_change l.net k) 523000000 l.k-items l.k-index l.sum
