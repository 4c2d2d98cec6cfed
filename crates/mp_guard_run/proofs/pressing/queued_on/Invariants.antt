use Rattle.std.proofs.Common.{◌≡◌, ◌≤◌, ◌*◌, ◌^◌, sum_by, take}
use Rattle.mp_model.specs.Network.{share_of, entry}
use Rattle.mp_press.specs.Queues.{naturals}
use Rattle.mp_guard_run.proofs.pressing.queued_on.Given as goal

abbrev pub invariant-loop-k : goal.invariant-loop-k
invariant-loop-k l = record {
  so_far : l.sum ≡ sum_by (λ k. share_of l.net k * entry (naturals l.counts) k) (take l.k-index l.k-items);
  small : l.sum ≤ l.k-index * (1000 * 2 ^ 90);
}
