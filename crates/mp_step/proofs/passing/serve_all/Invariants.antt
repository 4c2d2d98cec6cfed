use Rattle.std.proofs.Common.{◌≡◌, ◌≤◌, ◌+◌, ◌*◌, ◌^◌, drop, replicate, length}
use Rattle.mp_model.specs.Network.{entry}
use Rattle.mp_press.specs.Queues.{naturals}
use Rattle.mp_step.specs.Settled.{written_stages}
use Rattle.mp_step.specs.Standing.{served}
use Rattle.mp_step.proofs.Greens.{leaves, over_stages}
use Rattle.mp_step.proofs.passing.serve_all.Given as goal

abbrev pub invariant-loop-i : goal.invariant-loop-i
invariant-loop-i l = record {
  value :
      written_stages (served l.net (entry (naturals l.queues))) (drop l.i l.net.junctions) (drop l.i l.stages) l.passes
      ≡ written_stages (served l.net (entry (naturals l.queues))) l.net.junctions l.stages (replicate (length l.passes) 0);
  so_far : l.left + over_stages (leaves l.net (entry (naturals l.queues))) (drop l.i l.net.junctions) (drop l.i l.stages) ≡ over_stages (leaves l.net (entry (naturals l.queues))) l.net.junctions l.stages;
  small : l.left ≤ l.i * 2 ^ 32;
}
