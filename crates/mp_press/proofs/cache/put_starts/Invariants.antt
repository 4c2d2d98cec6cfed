use Rattle.std.proofs.Common.{◌≡◌, ◌<◌, ◌+◌, ℕ, slice_index}
use Rattle.mp_model.specs.Network.{start_of}
use Rattle.mp_press.specs.Queues.{naturals, AreCounts}
use Rattle.mp_press.proofs.cache.put_starts.Given as goal

abbrev pub invariant-loop-i : goal.invariant-loop-i
invariant-loop-i l = record {
  counts : AreCounts l.counts;
  each : (m : ℕ) → m < l.i → slice_index (naturals l.counts) m ≡ start_of l.net (m + 1);
}
