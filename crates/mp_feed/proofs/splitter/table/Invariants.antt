use Rattle.std.proofs.Common.{◌≡◌, ◌<◌, ◌≤◌, ℕ, slice_index, length}
use Rattle.mp_feed.specs.Counts.{counts, AreJoined}
use Rattle.mp_feed.proofs.splitter.table.Given as goal

abbrev pub invariant-loop-n : goal.invariant-loop-n
invariant-loop-n l = record {
  size : length l.counts.items ≡ length l.shares;
  counted : (k : ℕ) → k < length l.shares → slice_index l.counts.items k ≡ counts l.shares l.n k;
  few : (k : ℕ) → k < length l.shares → slice_index l.counts.items k ≤ l.n;
  rows : AreJoined l.shares l.n l.joined.items;
}
