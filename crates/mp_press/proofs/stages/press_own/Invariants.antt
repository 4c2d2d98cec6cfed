use Rattle.std.proofs.Common.{◌≡◌, ◌≤◌, ◌^◌, drop}
use Rattle.std.specs.List.{All}
use Rattle.mp_press.specs.Queues.{naturals}
use Rattle.mp_press.specs.Written.{written}
use Rattle.mp_press.specs.Presses.{press_by, own_queue, next_queue}
use Rattle.mp_press.proofs.stages.press_own.Given as goal

abbrev pub invariant-loop-i : goal.invariant-loop-i
invariant-loop-i l = record {
  value :
      written (press_by l.net (own_queue l.net l.j (naturals l.own)) (next_queue l.net l.j (naturals l.next))) (drop l.i l.ks) l.presses
      ≡ written (press_by l.net (own_queue l.net l.j (naturals l.own)) (next_queue l.net l.j (naturals l.next))) l.ks l.initial.presses;
  few : All (λ p. p ≤ 2 ^ 110) l.presses;
}
