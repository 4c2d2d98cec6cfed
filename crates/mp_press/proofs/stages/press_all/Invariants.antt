use Rattle.std.proofs.Common.{◌≡◌, ◌≤◌, ◌^◌, length, map}
use Rattle.std.specs.List.{All}
use Rattle.mp_model.specs.Network.{entry, numbers_to}
use Rattle.mp_press.specs.Queues.{naturals}
use Rattle.mp_press.specs.Presses.{press_by}
use Rattle.mp_press.proofs.stages.press_all.Given as goal

abbrev pub invariant-loop-i : goal.invariant-loop-i
invariant-loop-i l = record {
  value : l.presses.items ≡ map (press_by l.net (entry (naturals l.queues)) (entry (naturals l.queues))) (numbers_to l.i);
  size : length l.presses.items ≡ l.i;
  few : All (λ p. p ≤ 2 ^ 110) l.presses.items;
}
