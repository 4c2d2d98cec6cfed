use Rattle.std.proofs.Common.{◌≡◌, ◌≤◌, ◌^◌, length, map}
use Rattle.std.specs.List.{All}
use Rattle.mp_model.specs.Network.{entry, numbers_to}
use Rattle.mp_press.specs.Queues.{naturals}
use Rattle.mp_press.specs.Presses.{press_by}
use Rattle.mp_guard_run.proofs.pressing.press_all.Given as goal

abbrev pub invariant-loop-i : goal.invariant-loop-i
invariant-loop-i l = record {
  value : l.into.items ≡ map (press_by l.net (entry (naturals l.counts)) (entry (naturals l.counts))) (numbers_to l.i);
  size : length l.into.items ≡ l.i;
  few : All (λ p. p ≤ 2 ^ 110) l.into.items;
}
