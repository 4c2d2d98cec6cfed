use Rattle.std.proofs.Common.{◌≡◌, length, map}
use Rattle.mp_model.specs.Network.{entry, numbers_to}
use Rattle.mp_press.specs.Queues.{naturals}
use Rattle.mp_press.specs.Presses.{queued_on}
use Rattle.mp_guard_run.proofs.pressing.queue_links.Given as goal

abbrev pub invariant-loop-i : goal.invariant-loop-i
invariant-loop-i l = record {
  value : l.into.items ≡ map (queued_on l.net (entry (naturals l.counts))) (numbers_to l.i);
  size : length l.into.items ≡ l.i;
}
