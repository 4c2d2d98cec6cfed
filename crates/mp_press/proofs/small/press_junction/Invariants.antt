use Rattle.std.proofs.Common.{◌≡◌, ◌≤◌, ◌^◌, drop}
use Rattle.std.specs.List.{All}
use Rattle.mp_model.specs.Network.{entry}
use Rattle.mp_press.specs.Queues.{naturals}
use Rattle.mp_press.specs.Written.{written}
use Rattle.mp_press.specs.Presses.{press_by}
use Rattle.mp_press.proofs.small.press_junction.Given as goal

abbrev pub invariant-loop-k : goal.invariant-loop-k
invariant-loop-k l = record {
  value :
      written (press_by l.net (entry (naturals l.queues)) (entry (naturals l.queues))) (drop l.k-index l.k-items) l.presses
      ≡ written (press_by l.net (entry (naturals l.queues)) (entry (naturals l.queues))) l.k-items l.initial.presses;
  few : All (λ p. p ≤ 2 ^ 51) l.presses;
}
