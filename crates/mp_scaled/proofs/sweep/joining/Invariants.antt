use Rattle.std.proofs.Common.{◌≡◌, ◌≤◌, ◌*◌, ◌^◌, sum_by, take}
use Rattle.mp_model.specs.Network.{entry}
use Rattle.mp_scaled.proofs.sweep.joining.Given as goal

abbrev pub invariant-loop-k : goal.invariant-loop-k
invariant-loop-k l = record {
  so_far : l.sum ≡ sum_by (entry l.rates) (take l.k-index l.k-items);
  small : l.sum ≤ l.k-index * 10 ^ 12;
}
