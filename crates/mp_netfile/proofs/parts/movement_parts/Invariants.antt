use Rattle.std.proofs.Common.{◌≡◌, map, take}
use Rattle.toml.specs.View.{view}
use Rattle.mp_net.specs.declared.parts.LinkPart.{LinkPart}
use Rattle.mp_net.specs.Parts.{movement_of}
use Rattle.mp_netfile.specs.Meaning.{movement_from}
use Rattle.mp_netfile.proofs.parts.movement_parts.Given as goal

abbrev pub invariant-loop-table : goal.invariant-loop-table
invariant-loop-table l = map movement_of l.parts.items ≡ map (movement_from (map (λ (link : LinkPart). link.name) l.links)) (map view (take l.table-index l.tables))
