use Rattle.std.proofs.Common.{◌≡◌, ◌≤◌, ◌*◌, ◌^◌, sum_by, take}
use Rattle.mp_model.specs.Network.{entry}
use Rattle.mp_guard_run.proofs.pressing.sum_of.Given as goal

abbrev pub invariant-loop-k : goal.invariant-loop-k
invariant-loop-k l = record {
  so_far : l.sum ≡ sum_by (entry l.presses) (take l.k-index l.stage);
  small : l.sum ≤ l.k-index * 2 ^ 110;
}
