use Rattle.std.proofs.Common.{◌≡◌, length, map}
use Rattle.mp_model.specs.Network.{entry, numbers_to}
use Rattle.mp_press.specs.Queues.{naturals}
use Rattle.mp_press.specs.Presses.{queued_on}
use Rattle.mp_press.proofs.stages.queue_links.Given as goal

abbrev pub invariant-loop-i : goal.invariant-loop-i
invariant-loop-i l = record {
  value : l.queued.items ≡ map (queued_on l.net (entry (naturals l.queues))) (numbers_to l.i);
  size : length l.queued.items ≡ l.i;
}
