use Rattle.std.proofs.Common.{◌^◌}
use Rattle.mp_model.specs.Network.{entry}
use Rattle.mp_plan.proofs.Listing.{Summing}
use Rattle.mp_plan.proofs.bounds.bounds_into.Given as goal

abbrev pub invariant-loop-k : goal.invariant-loop-k
invariant-loop-k l = Summing (entry l.bounds) (2 ^ 62) l.k-items l.k-index l.sum
