use Rattle.std.proofs.Common.{◌≡◌, pos, map, take}
use Rattle.mp_press.specs.Queues.{AreCounts}
use Rattle.mp_round.specs.Deciding.{seen_in}
use Rattle.mp_round.proofs.choosing.seen_next.Given as goal

abbrev pub invariant-loop-k : goal.invariant-loop-k
invariant-loop-k l = record {
  items : l.counts.items ≡ map (λ k. pos (seen_in l.net l.copies l.j k)) (take l.k-index l.k-items);
  counts : AreCounts l.counts.items;
}
