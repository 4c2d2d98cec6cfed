use Rattle.std.proofs.Common.{◌≡◌, map, take}
use Rattle.mp_model.specs.Network.{entry}
use Rattle.mp_model.specs.Pressure.{greatest_stage}
use Rattle.mp_press.specs.Queues.{naturals}
use Rattle.mp_press.proofs.stages.choose_all.Given as goal

abbrev pub invariant-loop-i : goal.invariant-loop-i
invariant-loop-i l = l.into.items ≡ map (greatest_stage l.net (entry (naturals l.queues))) (take l.i l.net.junctions)
