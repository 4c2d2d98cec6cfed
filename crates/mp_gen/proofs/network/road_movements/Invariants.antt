use Rattle.std.proofs.Common.{◌≡◌, map}
use Rattle.std.specs.List.{flat_map}
use Rattle.mp_model.specs.Network.{numbers_to}
use Rattle.mp_net.specs.Parts.{movement_of}
use Rattle.mp_gen.specs.DemoNetwork.{through_movements}
use Rattle.mp_gen.proofs.network.road_movements.Given as goal

abbrev pub invariant-loop-i : goal.invariant-loop-i
invariant-loop-i l = map movement_of l.movements.items ≡ flat_map through_movements (numbers_to l.i)
