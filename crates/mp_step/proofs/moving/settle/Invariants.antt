use Rattle.std.proofs.Common.{◌≡◌, drop}
use Rattle.mp_press.specs.Queues.{naturals, NoneNegative}
use Rattle.mp_step.specs.Settled.{settled}
use Rattle.mp_step.proofs.moving.settle.Given as goal

abbrev pub invariant-loop-i : goal.invariant-loop-i
invariant-loop-i l = record {
  value : settled (naturals l.queues) l.passes (drop l.i l.ks) (drop l.i l.parts) (naturals l.next) ≡ settled (naturals l.queues) l.passes l.ks l.parts (naturals l.initial.next);
  some : NoneNegative l.initial.next → NoneNegative l.next;
}
