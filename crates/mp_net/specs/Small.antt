-- How large a network may be.
use Rattle.std.specs.Prelude.{◌≤◌, length}
use Rattle.mp_net.specs.declared.parts.NetParts.{NetParts}

-- There are no more links, movements and junctions than a network may have.
abbrev pub IsSmall : NetParts → Type 0
IsSmall parts = (length parts.links.items ≤ 128) × (length parts.movements.items ≤ 512) × (length parts.junctions.items ≤ 64)
