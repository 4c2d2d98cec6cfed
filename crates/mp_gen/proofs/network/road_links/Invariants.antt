use Rattle.std.proofs.Common.{◌≡◌, map}
use Rattle.std.specs.List.{flat_map}
use Rattle.mp_model.specs.Network.{numbers_to}
use Rattle.mp_net.specs.Parts.{link_of}
use Rattle.mp_gen.specs.DemoNetwork.{links_into}
use Rattle.mp_gen.proofs.network.road_links.Given as goal

abbrev pub invariant-loop-i : goal.invariant-loop-i
invariant-loop-i l = map link_of l.links.items ≡ flat_map (links_into l.rate) (numbers_to l.i)
