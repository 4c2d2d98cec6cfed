-- The network that some parts stand for.
use Rattle.std.specs.Prelude.{map}
use Rattle.mp_model.specs.Network.{Link, Movement, Junction, Network}
use Rattle.mp_net.specs.declared.parts.LinkPart.{LinkPart}
use Rattle.mp_net.specs.declared.parts.MovementPart.{MovementPart}
use Rattle.mp_net.specs.declared.parts.JunctionPart.{JunctionPart}
use Rattle.mp_net.specs.declared.parts.NetParts.{NetParts}

-- This is the link of a part.
abbrev pub link_of : LinkPart → Link
link_of part = record { name = part.name; burst = part.burst; rate = part.rate }

-- This is the movement of a part.
abbrev pub movement_of : MovementPart → Movement
movement_of part = record { name = part.name; from = part.from; to = part.to; share = part.share; flow = part.flow; start = part.start }

-- This is the junction of a part.
abbrev pub junction_of : JunctionPart → Junction
junction_of part = record { name = part.name; stages = map (λ stage. stage.items) part.stages.items }

-- This is the network of all parts.
abbrev pub network_of : NetParts → Network
network_of parts = record {
  shares = parts.shares;
  per = parts.per;
  delay = parts.delay;
  links = map link_of parts.links.items;
  movements = map movement_of parts.movements.items;
  junctions = map junction_of parts.junctions.items;
}
