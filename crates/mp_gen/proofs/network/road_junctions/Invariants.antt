use Rattle.std.proofs.Common.{◌≡◌, map}
use Rattle.mp_model.specs.Network.{numbers_to}
use Rattle.mp_net.specs.Parts.{junction_of}
use Rattle.mp_gen.specs.DemoNetwork.{through_junction}
use Rattle.mp_gen.proofs.network.road_junctions.Given as goal

abbrev pub invariant-loop-i : goal.invariant-loop-i
invariant-loop-i l = map junction_of l.junctions.items ≡ map through_junction (numbers_to l.i)
