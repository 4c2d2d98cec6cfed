use Rattle.std.proofs.Common.{◌≡◌, ◌≤◌, ◌^◌, map, take}
use Rattle.std.specs.List.{All}
use Rattle.mp_model.specs.Network.{entry}
use Rattle.mp_model.specs.Pressure.{greatest_stage}
use Rattle.mp_press.specs.Queues.{naturals}
use Rattle.mp_press.proofs.small.choose_all_small.Given as goal

abbrev pub invariant-loop-i : goal.invariant-loop-i
invariant-loop-i l = record {
  value : l.into.items ≡ map (greatest_stage l.net (entry (naturals l.queues))) (take l.i l.net.junctions);
  few : All (λ p. p ≤ 2 ^ 51) l.presses;
}
