use Rattle.std.proofs.Common.{◌≡◌, ◌-◌, drop}
use Rattle.mp_model.specs.Network.{entry}
use Rattle.mp_press.specs.Queues.{naturals, NoneNegative}
use Rattle.mp_press.specs.Written.{written}
use Rattle.mp_step.proofs.moving.carry.Given as goal

abbrev pub invariant-loop-k : goal.invariant-loop-k
invariant-loop-k l = record {
  value :
      written (λ k. entry (naturals l.queues) k - entry l.passes k) (drop l.k-index l.ks) (naturals l.next)
      ≡ written (λ k. entry (naturals l.queues) k - entry l.passes k) l.ks (naturals l.initial.next);
  some : NoneNegative l.initial.next → NoneNegative l.next;
}
