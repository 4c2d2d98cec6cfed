use Rattle.std.proofs.Common.{◌≡◌, take}
use Rattle.mp_model.specs.Network.{entry}
use Rattle.mp_press.specs.Queues.{naturals}
use Rattle.mp_press.specs.Weighed.{large_in}
use Rattle.mp_press.proofs.Summed.{SumsTo}
use Rattle.mp_press.proofs.cache.sum_all.Given as goal

abbrev pub invariant-loop-i : goal.invariant-loop-i
invariant-loop-i l = record {
  queued : SumsTo l.net (entry (naturals l.counts)) l.i l.queued;
  large : l.large ≡ large_in (take l.i (naturals l.counts));
}
