use Rattle.std.proofs.Common.{◌≡◌, ◌<◌, slice_index, length}
use Rattle.std.specs.List.{range_with_len}
use Rattle.mp_model.specs.Split.{first_greatest, credit_of}
use Rattle.mp_feed.proofs.splitter.next_place.Given as goal

abbrev pub invariant-loop-i : goal.invariant-loop-i
invariant-loop-i l = record {
  within : l.best < length l.shares;
  greatest : l.best ≡ first_greatest (λ i. credit_of l.total (slice_index l.shares i) l.n (slice_index l.counts i)) (range_with_len 0 l.i);
}
