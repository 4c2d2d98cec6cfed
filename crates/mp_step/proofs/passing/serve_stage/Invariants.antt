use Rattle.std.proofs.Common.{◌≡◌, ◌≤◌, ◌*◌, drop, take, sum_by}
use Rattle.mp_model.specs.Network.{entry}
use Rattle.mp_press.specs.Queues.{naturals}
use Rattle.mp_press.specs.Written.{written}
use Rattle.mp_step.specs.Standing.{served}
use Rattle.mp_step.proofs.Greens.{leaves}
use Rattle.mp_step.proofs.passing.serve_stage.Given as goal

abbrev pub invariant-loop-k : goal.invariant-loop-k
invariant-loop-k l = record {
  value : written (served l.net (entry (naturals l.queues))) (drop l.k-index l.stage) l.passes ≡ written (served l.net (entry (naturals l.queues))) l.stage l.initial.passes;
  so_far : l.left ≡ sum_by (leaves l.net (entry (naturals l.queues))) (take l.k-index l.stage);
  small : l.left ≤ l.k-index * 1000;
}
